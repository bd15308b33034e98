use Rattle.std.proofs.Common.{◌≡◌, refl, subst}
use Rattle.std.specs.Prelude.{IfOk}
use Rattle.wb_diagram.specs.declared.diagrams.Diagram.{Diagram}
use Rattle.wb_session.specs.Pictures.{picture}
use Rattle.wb_session.specs.States.{State, subject_of}
use Rattle.wb_session.specs.invariants.Keeping.{state_of}
use Rattle.wb_session.proofs.Showable.{can_be_shown}
use Rattle.wb_session.proofs.session.Session.diagram.Goals as goal

pub picture_of-requires : goal.picture_of-requires
picture_of-requires g c =
    let i = c.self.inside in
    can_be_shown g.E.Evaluator.outcome_by (subject_of (state_of i.spec i.root i.model i.marks i.revision i.history)) i.diagram c.self.invariant.opened

pub returns : goal.returns
unfolding picture
returns g c =
    let i = c.self.inside in
    subst (λ (s : State). IfOk c.picture_of.result (λ (it : Diagram). it ≡ picture g.E.Evaluator.outcome_by s)) c.self.view_is
    (c.picture_of.ensures g.E.Evaluator.outcome_by (subject_of (state_of i.spec i.root i.model i.marks i.revision i.history)) refl c.self.invariant.opened)
