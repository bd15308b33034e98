use Rattle.wb_declared.proofs.OneKey.{marked_itself}
use Rattle.wb_declared.proofs.laws.unsynchronised_elements_are_marked.Goals as goal

pub returns : goal.returns
returns g c = marked_itself g.E.Evaluator.outcome_by
