use Rattle.std.proofs.Common.{◌≡◌, ◌∙◌, ℕ, Result, Ok, Err, ap, sym, subst}
use Rattle.wb_diagram.specs.declared.commands.Action.TheVariants.{Redo}
use Rattle.wb_session.specs.declared.entries.TriedState.{TriedState}
use Rattle.wb_session.specs.declared.refusal.Refusal.{Refusal}
use Rattle.wb_session.specs.declared.refusal.Refusal.TheVariants as r
use Rattle.wb_session.specs.declared.turn.Turn.TheVariants as turns
use Rattle.wb_session.specs.States.{State}
use Rattle.wb_session.specs.Tries.{Tried, tried}
use Rattle.wb_session.specs.invariants.Keeping.{GoesOn, state_of, tried_of}
use Rattle.wb_session.proofs.Restored.{restored_state, redo_goes_on, redoes, redoes_nothing}
use Rattle.wb_session.proofs.session.Session.try_redo.Goals as goal

pub returns-in_ok-restored-in-Some-clause-given : goal.returns-in_ok-restored-in-Some-clause-given
returns-in_ok-restored-in-Some-clause-given g c =
    let i = c.self.inside in
    let is : c.in_ok-restored-in-Some.field-0 ≡ restored_state c.in-Some.entry.now i.model.next turns.Again =
    c.in_ok-restored-in-Some.ensures ∙ ap (λ (n : ℕ). restored_state c.in-Some.entry.now n turns.Again) c.next.ensures in
    subst (λ (z : State). tried g.E.Evaluator.outcome_by z Redo ≡ Ok (tried_of c.in_ok-restored-in-Some.field-0)) c.self.view_is
    (subst (λ (t : TriedState). let answer : Result Tried Refusal = Ok (tried_of t) in tried g.E.Evaluator.outcome_by (state_of i.spec i.root i.model i.marks i.revision i.history) Redo ≡ answer) (sym is)
    (redoes g.E.Evaluator.outcome_by i.spec i.root i.model i.marks i.revision i.history c.in-Some.entry.now (sym c.in-Some.ensures)))

pub returns-in_ok-restored-in-Some-clause-goes_on : goal.returns-in_ok-restored-in-Some-clause-goes_on
returns-in_ok-restored-in-Some-clause-goes_on g c =
    let i = c.self.inside in
    let is : c.in_ok-restored-in-Some.field-0 ≡ restored_state c.in-Some.entry.now i.model.next turns.Again =
    c.in_ok-restored-in-Some.ensures ∙ ap (λ (n : ℕ). restored_state c.in-Some.entry.now n turns.Again) c.next.ensures in
    subst (λ (z : State). GoesOn z c.in_ok-restored-in-Some.field-0) c.self.view_is
    (subst (GoesOn (state_of i.spec i.root i.model i.marks i.revision i.history)) (sym is)
    (redo_goes_on g.E.Evaluator.outcome_by i.spec i.root i.model i.marks i.revision i.history c.in-Some.entry.now c.self.invariant.good (sym c.in-Some.ensures)))

pub returns-in-None-clause-given : goal.returns-in-None-clause-given
returns-in-None-clause-given g c =
    let i = c.self.inside in
    subst (λ (z : State). tried g.E.Evaluator.outcome_by z Redo ≡ Err r.NothingToRedo) c.self.view_is
    (redoes_nothing g.E.Evaluator.outcome_by i.spec i.root i.model i.marks i.revision i.history (sym c.in-None.ensures))
