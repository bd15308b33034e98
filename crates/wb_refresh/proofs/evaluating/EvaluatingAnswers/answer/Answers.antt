use Rattle.std.proofs.Common.{[], ◌∷◌}
use Rattle.wb_refresh.proofs.Asking.{asks_by_keeping}
use Rattle.wb_refresh.proofs.evaluating.EvaluatingAnswers.answer.Goals as goal

pub returns-clause-asks : goal.returns-clause-asks
returns-clause-asks g c =
    let p = c.args.self.now in
    asks_by_keeping g.E.Evaluator.outcome_by p.table.now c.args.unit.now (g.E.Evaluator.count p.steps.now) (g.E.Evaluator.count c.evaluate.new.steps) (p.steps.ghost_name ∷ p.table.ghost_name ∷ [])
    c.in_ok-outcome.outcome c.keep.new.table c.keep.result c.in_ok-outcome.ensures.outcome c.requires c.in_ok-outcome.ensures.counted c.keep.ensures.keeps
