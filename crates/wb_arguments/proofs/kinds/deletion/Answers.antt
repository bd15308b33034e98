use Rattle.std.proofs.Common.{subst, sym}
use Rattle.wb_viewpoint.specs.declared.tools.ToolKind.TheVariants as kind
use Rattle.wb_arguments.specs.Variables.{AreOf}
use Rattle.wb_arguments.proofs.Bindings.{deleted_are}
use Rattle.wb_arguments.proofs.kinds.deletion.Goals as goal

pub returns-clause-are_of : goal.returns-clause-are_of
returns-clause-are_of c mm = subst (AreOf mm kind.Delete) (sym c.in_ok-env.ensures) (deleted_are mm c.in_ok-element.element)
