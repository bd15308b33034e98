use Rattle.std.proofs.Common.{subst, sym}
use Rattle.wb_viewpoint.specs.declared.tools.ToolKind.TheVariants as kind
use Rattle.wb_arguments.specs.Variables.{AreOf}
use Rattle.wb_arguments.proofs.Bindings.{dropped_are}
use Rattle.wb_arguments.proofs.kinds.dropped.Goals as goal

pub returns-clause-are_of : goal.returns-clause-are_of
returns-clause-are_of c mm = subst (AreOf mm kind.Drop) (sym c.in_ok-env.ensures) (dropped_are mm c.object_of.result c.container_of-old.result c.in_ok-container.container)
