use Rattle.wb_declared.proofs.NextLaws.{next_is_not_seen}
use Rattle.wb_declared.proofs.laws.next_numbers_are_not_seen.Goals as goal

pub returns : goal.returns
returns g c = next_is_not_seen g.E.Evaluator.outcome_by g.met.E.Evaluator.decides
