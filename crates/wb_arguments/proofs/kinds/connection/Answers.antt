use Rattle.std.proofs.Common.{subst, sym}
use Rattle.wb_viewpoint.specs.declared.tools.ToolKind.TheVariants as kind
use Rattle.wb_arguments.specs.Variables.{AreOf}
use Rattle.wb_arguments.proofs.Bindings.{connected_are}
use Rattle.wb_arguments.proofs.kinds.connection.Goals as goal

pub returns-clause-are_of : goal.returns-clause-are_of
returns-clause-are_of c mm = subst (AreOf mm kind.EdgeCreation) (sym c.in_ok-env.ensures) (connected_are mm c.in_ok-source.source c.in_ok-target.target)
