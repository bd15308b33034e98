use Rattle.wb_declared.proofs.MarkLaws.{settled_is_alike}
use Rattle.wb_declared.proofs.NextLaws.{next_is_not_seen}
use Rattle.wb_session.proofs.Undoing.{redo_gives}
use Rattle.wb_session.proofs.laws.redo_restores.Goals as goal

pub returns : goal.returns
returns g c = redo_gives g.E.Evaluator.outcome_by (next_is_not_seen g.E.Evaluator.outcome_by g.met.E.Evaluator.decides) (settled_is_alike g.E.Evaluator.outcome_by)
