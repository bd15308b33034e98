use Rattle.std.proofs.Common.{subst, sym}
use Rattle.wb_viewpoint.specs.declared.tools.ToolKind.TheVariants as kind
use Rattle.wb_arguments.specs.Variables.{AreOf}
use Rattle.wb_arguments.proofs.Bindings.{reconnected_are}
use Rattle.wb_arguments.proofs.kinds.reconnection.Goals as goal

pub returns-clause-are_of : goal.returns-clause-are_of
returns-clause-are_of c mm = subst (AreOf mm kind.Reconnect) (sym c.in_ok-env.ensures) (reconnected_are mm c.in_ok-link.link.now.object c.in_ok-end.field-0.now c.object_of-old.result c.in_ok-new.new)
