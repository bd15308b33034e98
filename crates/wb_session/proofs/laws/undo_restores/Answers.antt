use Rattle.wb_declared.proofs.NextLaws.{next_is_not_seen}
use Rattle.wb_session.proofs.Undoing.{undo_gives}
use Rattle.wb_session.proofs.laws.undo_restores.Goals as goal

pub returns : goal.returns
returns g c = undo_gives g.E.Evaluator.outcome_by (next_is_not_seen g.E.Evaluator.outcome_by g.met.E.Evaluator.decides)
