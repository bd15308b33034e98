use Rattle.std.proofs.Common.{◌≡◌, ◌≤◌, ◌∙◌, None, ap, sym, subst}
use Rattle.wb_marks.specs.declared.marks.Marks.{Marks}
use Rattle.wb_store.specs.Contents.{Contents}
use Rattle.wb_model.specs.EditLaws.{AreEdited}
use Rattle.wb_session.specs.declared.entries.TriedState.{TriedState}
use Rattle.wb_session.specs.declared.turn.Turn.TheVariants as turns
use Rattle.wb_session.specs.States.{State}
use Rattle.wb_session.specs.invariants.Keeping.{GoesOn, state_of}
use Rattle.wb_session.proofs.Tooled.{onward, tool_goes_on}
use Rattle.wb_session.proofs.session.Session.run_asked.Goals as goal

pub returns-in-Ok-clause-goes_on : goal.returns-in-Ok-clause-goes_on
returns-in-Ok-clause-goes_on g c =
    let i = c.self.inside in
    let s = state_of i.spec i.root i.model i.marks i.revision i.history in
    let good = c.self.invariant.good.body in
    let n = c.run_tool.new.model in
    let is : c.onward.result ≡ onward s n = c.onward.ensures ∙ ap (λ (marks : Marks). let x : TriedState = record { model = n; marks = marks; created = None; turn = turns.Forward } in x) c.in_ok-marks.ensures in
    subst (λ (z : State). GoesOn z c.onward.result) c.self.view_is
    (subst (GoesOn s) (sym is)
    (tool_goes_on s n c.metamodel_is_sound.ensures good.valid good.lawful good.rooted (subst (λ (m : Contents). AreEdited m n) c.in_ok-model.ensures c.in-Ok.ensures.edited)
    (subst (λ (m : Contents). m.next ≤ n.next) c.in_ok-model.ensures c.in-Ok.ensures.next) good.checked))
