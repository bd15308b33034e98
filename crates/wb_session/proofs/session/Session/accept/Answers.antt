use Rattle.wb_declared.proofs.NextLaws.{next_is_not_seen}
use Rattle.wb_session.proofs.Becoming.{becomes, stays_kept}
use Rattle.wb_session.proofs.session.Session.accept.Goals as goal

pub invariant_of-self : goal.invariant_of-self
invariant_of-self g c =
    let i = c.self.inside in
    rw (c.go_on.ensures, c.replace.ensures.after, c.replace-2.ensures.after, c.replace.ensures.value, c.replace-2.ensures.value)
    (stays_kept c.args.self.now i.spec i.root i.model i.marks i.revision i.history c.self.view_is c.args.planned.model c.args.planned.marks c.args.planned.turn c.self.invariant.capacity
    g.E.Evaluator.outcome_by (next_is_not_seen g.E.Evaluator.outcome_by g.met.E.Evaluator.decides) i.diagram c.args.planned.diagram c.self.invariant
    c.requires.good c.requires.opened c.requires.later c.requires.revision c.requires.possible)

pub returns-clause-state : goal.returns-clause-state
returns-clause-state g c =
    let i = c.self.inside in
    rw (c.go_on.ensures, c.replace.ensures.after, c.replace-2.ensures.after, c.replace.ensures.value, c.replace-2.ensures.value)
    (becomes c.args.self.now i.spec i.root i.model i.marks i.revision i.history c.self.view_is c.args.planned.model c.args.planned.marks c.args.planned.turn c.self.invariant.capacity)
