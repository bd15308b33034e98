use Rattle.std.proofs.Common.{◌≡◌, ◌∙◌, ℕ, List, Result, Ok, ap, subst, sym}
use Rattle.std.specs.Prelude.{IfSome}
use Rattle.std.specs.FinMap as positions
use Rattle.wb_base.specs.Answering.{IsRefusal}
use Rattle.wb_diagram.specs.declared.keys.EdgeKey.{EdgeKey}
use Rattle.wb_diagram.specs.declared.keys.Key.{Key}
use Rattle.wb_layout.specs.Positions.{IsInRange}
use Rattle.wb_spec_check.specs.Checked.{Specification}
use Rattle.wb_refresh.specs.Openings.{IsOpened}
use Rattle.wb_refresh.specs.Outcomes.{Gives as Outcomes}
use Rattle.wb_refresh.specs.Subjects.{setting, subject}
use Rattle.wb_declared.specs.Declarations.{declared_edges, declared_nodes}
use Rattle.wb_declared.proofs.MarkLaws.{settled_is_alike}
use Rattle.wb_marks.specs.Marks.{settled}
use Rattle.wb_marks.specs.declared.marks.Marks.{Marks}
use Rattle.wb_session.specs.declared.entries.TriedState.{TriedState}
use Rattle.wb_session.specs.declared.planning.Planned.{Planned}
use Rattle.wb_session.specs.declared.standing.Settled.{Settled}
use Rattle.wb_session.specs.declared.refusal.Refusal.{Refusal}
use Rattle.wb_session.specs.Answering.{named}
use Rattle.wb_session.specs.States.{IsGoodBody, State, body, subject_at}
use Rattle.wb_session.specs.Planning.{stepped_to}
use Rattle.wb_session.specs.Steps.{Stepped, settled_body, stands}
use Rattle.wb_session.specs.invariants.Keeping.{GoesOn, state_of, tried_of}
use Rattle.wb_session.proofs.Becoming.{accepts, can_rise}
use Rattle.wb_session.proofs.Goods.{becomes_good, it_stands}
use Rattle.wb_session.proofs.Opened.{opened_stays}
use Rattle.wb_session.proofs.Stepping.{gives_refusal, exactly, stopped_first, stopped_standing, stopped_tried, went}
use Rattle.wb_session.proofs.session.Session.plan.Goals as goal

-- a plan, as the step that it is
abbrev seen : (X : Type 0) → State → Planned X → Stepped
seen X s it = stepped_to s it.model it.marks it.turn it.created

pub returns-in_err-current-clause-given : goal.returns-in_err-current-clause-given
returns-in_err-current-clause-given g c =
    let gives = g.E.Evaluator.outcome_by in
    let s = c.args.self.now in
    let command = c.args.command.now in
    gives_refusal (seen _ c.args.self.now) _ c.from_residual.result c.in_err-current.field-0.0 c.from_residual.ensures.1
    (stopped_first gives s command c.in_err-current.field-0.0 (exactly c.in_err-current.field-0.0 _ c.in_err-current.ensures))

pub returns-in_err-tried-clause-given : goal.returns-in_err-tried-clause-given
returns-in_err-tried-clause-given g c =
    let gives = g.E.Evaluator.outcome_by in
    let s = c.args.self.now in
    let command = c.args.command.now in
    let k = c.from_residual-in_err-tried in
    gives_refusal (seen _ c.args.self.now) _ k.result c.in_err-tried.field-0.0 k.ensures.1
    (stopped_tried gives s command c.in_err-tried.field-0.0 (sym c.in_ok-current.ensures) c.in_err-tried.ensures.given)

pub returns-in_err-settled-clause-given : goal.returns-in_err-settled-clause-given
returns-in_err-settled-clause-given g c =
    let gives = g.E.Evaluator.outcome_by in
    let s = c.args.self.now in
    let command = c.args.command.now in
    let k = c.from_residual-in_err-settled in
    let e = c.in_err-settled.field-0.0 in
    gives_refusal (seen _ c.args.self.now) _ k.result e k.ensures.1
    (stopped_standing gives s command e (tried_of c.in_ok-tried.tried) (sym c.in_ok-current.ensures) c.in_ok-tried.ensures.given
    (subst (λ (z : State). IsRefusal (named e) (stands gives z.spec z.root (tried_of c.in_ok-tried.tried))) c.self.view_is c.in_err-settled.ensures.given))

-- the marks are those that stand on what is declared
marks_are : (X : Type 0) (gives : Outcomes) (spec : Specification) (root : ℕ) (t : TriedState) (left : Settled X) → IsOpened gives (subject spec t.model root t.marks.shown) left.diagram
    → left.marks ≡ settled left.diagram.nodes left.diagram.edges t.marks → left.marks ≡ settled (declared_nodes gives (subject spec t.model root t.marks.shown)) (declared_edges gives (subject spec t.model root t.marks.shown)) t.marks
marks_are X gives spec root t left opened is =
    let here = subject spec t.model root t.marks.shown in
    is ∙ (ap (λ (ns : List Key). settled ns left.diagram.edges t.marks) opened.nodes ∙ ap (λ (es : List EdgeKey). settled (declared_nodes gives here) es t.marks) opened.edges)

pub returns-clause-follows : goal.returns-clause-follows
returns-clause-follows g c =
    let gives = g.E.Evaluator.outcome_by in
    let i = c.self.inside in
    let t = c.in_ok-tried.tried in
    let left = c.in_ok-settled.settled in
    let opened = c.in_ok-settled.ensures.opened in
    let marks_is = marks_are _ gives i.spec i.root t left opened c.in_ok-settled.ensures.settled in
    let goes : GoesOn (state_of i.spec i.root i.model i.marks i.revision i.history) t = subst (λ (z : State). GoesOn z t) (sym c.self.view_is) c.in_ok-tried.ensures.goes_on in
    let there = it_stands gives i.spec i.root (tried_of t) c.in_ok-settled.ensures.given in
    let in_range = subst (λ (m : Marks). (key : Key) → IfSome (positions.get m.layout key) IsInRange) marks_is c.keeps_in_range.ensures in
    record {
      good =
          subst (λ (z : State). IsGoodBody gives z.spec z.root t.model.next (body t.model left.marks)) c.self.view_is
          (subst (λ (m : Marks). IsGoodBody gives i.spec i.root t.model.next (body t.model m)) (sym marks_is)
          (becomes_good gives (settled_is_alike gives) i.spec i.root t.model t.marks c.valid.ensures goes.checked (goes.root there.0) there.1 goes.lawful in_range));
      opened =
          subst (λ (z : State). IsOpened gives (subject z.spec t.model z.root left.marks.shown) left.diagram) c.self.view_is
          (subst (λ (m : Marks). IsOpened gives (subject i.spec t.model i.root m.shown) left.diagram) (sym marks_is)
          (opened_stays gives (setting i.spec t.model i.root) t.marks.shown left.diagram opened));
      later = c.in_ok-tried.ensures.goes_on.later;
      revision = can_rise c.args.self.now c.args.command.now.revision (sym c.in_ok-current.ensures);
      possible = c.in_ok-tried.ensures.goes_on.possible;
    }

pub returns-clause-given : goal.returns-clause-given
returns-clause-given g c =
    let gives = g.E.Evaluator.outcome_by in
    let i = c.self.inside in
    let t = c.in_ok-tried.tried in
    let left = c.in_ok-settled.settled in
    let marks_is = marks_are _ gives i.spec i.root t left c.in_ok-settled.ensures.opened c.in_ok-settled.ensures.settled in
    let s = c.args.self.now in
    let there = subst (λ (z : State). stands gives z.spec z.root (tried_of t) ≡ Ok tt) c.self.view_is c.in_ok-settled.ensures.given in
    let body_is = subst (λ (z : State). body t.model left.marks ≡ settled_body gives (subject_at z.spec z.root t.model.next (tried_of t).body) (tried_of t).body) c.self.view_is
    (ap (λ (m : Marks). body t.model m) marks_is) in
    went gives s c.args.command.now (tried_of t) (sym c.in_ok-current.ensures) c.in_ok-tried.ensures.given there
    ∙ ap (λ (z : State). let x : Result Stepped Refusal = Ok (record { state = z; created = t.created }) in x) (accepts gives s t left.marks body_is)
