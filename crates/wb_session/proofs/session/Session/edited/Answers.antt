use Rattle.std.proofs.Common.{◌≡◌, ◌∙◌, ap, sym, subst, Result, Ok}
use Rattle.wb_base.specs.Answering.{IsRefusal}
use Rattle.wb_spec_check.specs.Checked.{IsCheckedBy}
use Rattle.wb_session.specs.declared.entries.TriedState.{TriedState}
use Rattle.wb_session.specs.declared.refusal.Refusal.{Refusal}
use Rattle.wb_session.specs.declared.turn.Turn.TheVariants as turns
use Rattle.wb_session.specs.Answering.{named}
use Rattle.wb_session.specs.States.{State}
use Rattle.wb_session.specs.Tries.{Tried, edited}
use Rattle.wb_session.specs.invariants.Keeping.{GoesOn, state_of, tried_of}
use Rattle.wb_session.proofs.Edited.{edit_goes_on, edit_refused, edited_is, onward}
use Rattle.wb_session.proofs.session.Session.edited.Goals as goal

pub returns-in-Ok-clause-given : goal.returns-in-Ok-clause-given
returns-in-Ok-clause-given g c =
    let i = c.self.inside in
    let s = state_of i.spec i.root i.model i.marks i.revision i.history in
    let is : c.forward.result ≡ onward s c.in-Ok.made.model c.in-Ok.made.made = c.forward.ensures ∙ ap (λ marks. let x : TriedState = record { model = c.in-Ok.made.model; marks = marks; created = c.in-Ok.made.made; turn = turns.Forward } in x) c.in_ok-marks.ensures in
    subst (λ (z : State). edited z c.args.edit ≡ Ok (tried_of c.forward.result)) c.self.view_is
    (subst (λ (t : TriedState). let answer : Result Tried Refusal = Ok (tried_of t) in edited s c.args.edit ≡ answer) (sym is)
    (edited_is s c.args.edit c.in-Ok.made.model c.in-Ok.made.made c.in-Ok.ensures.model c.in-Ok.ensures.made))

pub returns-in-Ok-clause-goes_on : goal.returns-in-Ok-clause-goes_on
returns-in-Ok-clause-goes_on g c =
    let i = c.self.inside in
    let s = state_of i.spec i.root i.model i.marks i.revision i.history in
    let good = c.self.invariant.good.body in
    let is : c.forward.result ≡ onward s c.in-Ok.made.model c.in-Ok.made.made = c.forward.ensures ∙ ap (λ marks. let x : TriedState = record { model = c.in-Ok.made.model; marks = marks; created = c.in-Ok.made.made; turn = turns.Forward } in x) c.in_ok-marks.ensures in
    subst (λ (z : State). GoesOn z c.forward.result) c.self.view_is
    (subst (GoesOn s) (sym is)
    (edit_goes_on s c.args.edit c.in-Ok.made.model c.in-Ok.made.made c.metamodel_is_sound.ensures good.valid good.lawful good.rooted c.in-Ok.ensures.model c.in-Ok.ensures.next
    (subst (λ mm. IsCheckedBy mm i.spec) (sym c.in-Ok.ensures.metamodel) good.checked)))

pub returns-in-Err-clause-given : goal.returns-in-Err-clause-given
returns-in-Err-clause-given g c =
    let i = c.self.inside in
    let s = state_of i.spec i.root i.model i.marks i.revision i.history in
    subst (λ (z : State). IsRefusal (named c.edit_refusal.result) (edited z c.args.edit)) c.self.view_is
    (subst (λ (r : Refusal). IsRefusal (named r) (edited s c.args.edit)) (sym c.edit_refusal.ensures)
    (edit_refused s c.args.edit c.in-Err.refusal c.in-Err.ensures.refused))
