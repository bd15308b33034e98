use Rattle.std.proofs.Common.{subst, sym}
use Rattle.wb_viewpoint.specs.declared.tools.ToolKind.TheVariants as kind
use Rattle.wb_arguments.specs.Variables.{AreOf}
use Rattle.wb_arguments.proofs.Bindings.{created_are}
use Rattle.wb_arguments.proofs.kinds.creation.Goals as goal

pub returns-clause-are_of : goal.returns-clause-are_of
returns-clause-are_of c mm = subst (AreOf mm kind.NodeCreation) (sym c.in_ok-env.ensures) (created_are mm c.in_ok-container.container)
