use Rattle.std.proofs.Common.{◌≡◌, refl, subst, List, ℕ}
use Rattle.std.specs.Prelude.{IfOk}
use Rattle.wb_session.specs.Pictures.{served}
use Rattle.wb_session.specs.States.{State, subject_of}
use Rattle.wb_session.specs.invariants.Keeping.{state_of}
use Rattle.wb_session.proofs.Showable.{can_be_shown}
use Rattle.wb_session.proofs.session.Session.served.Goals as goal

pub served_of-requires : goal.served_of-requires
served_of-requires g c =
    let i = c.self.inside in
    can_be_shown g.E.Evaluator.outcome_by (subject_of (state_of i.spec i.root i.model i.marks i.revision i.history)) i.diagram c.self.invariant.opened

pub returns : goal.returns
unfolding served
returns g c =
    let i = c.self.inside in
    subst (λ (s : State). IfOk c.served_of.result (λ (it : List ℕ). it ≡ served g.E.Evaluator.outcome_by s)) c.self.view_is
    (c.served_of.ensures g.E.Evaluator.outcome_by (subject_of (state_of i.spec i.root i.model i.marks i.revision i.history)) refl c.self.invariant.opened)
