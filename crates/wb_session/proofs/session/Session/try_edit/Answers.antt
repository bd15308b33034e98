use Rattle.std.proofs.Common.{◌≡◌, ◌∙◌, Ok, Some, Option, Result, ap, sym, subst}
use Rattle.std.specs.Option.{option_transpose}
use Rattle.wb_model.specs.declared.edits.edit.Edit.{Edit}
use Rattle.wb_command_edits.specs.declared.refusal.NameRefusal.{NameRefusal}
use Rattle.wb_command_edits.specs.NamedEdits.{edit_named}
use Rattle.wb_session.specs.declared.refusal.Refusal.{Refusal}
use Rattle.wb_session.specs.Answering.{Gives}
use Rattle.wb_session.specs.States.{State, model_of}
use Rattle.wb_session.specs.Tries.{Tried}
use Rattle.wb_session.specs.invariants.Keeping.{state_of, tried_of}
use Rattle.wb_session.proofs.Edited.{asked_is_edited}
use Rattle.wb_session.proofs.session.Session.try_edit.Goals as goal

pub returns-in-Some-clause-given : goal.returns-in-Some-clause-given
returns-in-Some-clause-given g c =
    let i = c.self.inside in
    let s = state_of i.spec i.root i.model i.marks i.revision i.history in
    let asked = asked_is_edited c.args.self.now c.args.action.now c.in-Some.edit
    (subst (λ (z : State). option_transpose (edit_named (model_of z) c.args.action.now) ≡ Ok (Some c.in-Some.edit)) c.self.view_is (c.in_ok-edit.ensures.named ∙ ap (λ (o : Option Edit). let x : Result (Option Edit) NameRefusal = Ok o in x) c.in-Some.is))
    in
    subst (λ (given : Result Tried Refusal). Gives tried_of given c.edited.result) (sym asked) c.edited.ensures.given
