use Rattle.std.proofs.Common.{subst, sym}
use Rattle.wb_viewpoint.specs.declared.tools.ToolKind.TheVariants as kind
use Rattle.wb_arguments.specs.Variables.{AreOf}
use Rattle.wb_arguments.proofs.Bindings.{edited_are}
use Rattle.wb_arguments.proofs.kinds.direct_edit.Goals as goal

pub returns-clause-are_of : goal.returns-clause-are_of
returns-clause-are_of c mm = subst (AreOf mm kind.DirectEdit) (sym c.in_ok-env.ensures) (edited_are mm c.in_ok-element.element c.in_ok-text.text.now c.in_ok-text.ensures.few)
