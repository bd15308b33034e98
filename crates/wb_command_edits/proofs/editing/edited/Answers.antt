use Rattle.std.proofs.Common.{◌≤◌, ◌∙◌, ap, subst}
use Rattle.std.proofs.lemmas.Result.{IfOk-weaker}
use Rattle.wb_store.specs.Contents.{Contents}
use Rattle.wb_command_edits.proofs.editing.edited.Goals as goal

pub returns-clause-metamodel : goal.returns-clause-metamodel
returns-clause-metamodel c =
    IfOk-weaker c.edited_copy.result _ _
    (λ it made. c.given_edits_are_edits.ensures.metamodel c.args.edit c.in_ok-copy.copy it.model made ∙ ap (λ (m : Contents). m.metamodel) c.in_ok-copy.ensures)
    c.edited_copy.ensures.model

pub returns-clause-next : goal.returns-clause-next
returns-clause-next c =
    IfOk-weaker c.edited_copy.result _ _
    (λ it made. subst (λ (m : Contents). m.next ≤ it.model.next) c.in_ok-copy.ensures (c.given_edits_are_edits.ensures.next c.args.edit c.in_ok-copy.copy it.model made))
    c.edited_copy.ensures.model
