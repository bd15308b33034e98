use Rattle.wb_declared.proofs.MarkLaws.{dropped_are_not_seen, settled_is_alike}
use Rattle.wb_declared.proofs.laws.undeclared_marks_are_not_seen.Goals as goal

pub returns-clause-dropped : goal.returns-clause-dropped
returns-clause-dropped g c = dropped_are_not_seen g.E.Evaluator.outcome_by

pub returns-clause-settled : goal.returns-clause-settled
returns-clause-settled g c = settled_is_alike g.E.Evaluator.outcome_by
