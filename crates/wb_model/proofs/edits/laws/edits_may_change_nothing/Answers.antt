use Rattle.wb_model.proofs.EditLaws.{set-same, add-same, take-same, unset-same, move-same}
use Rattle.wb_model.proofs.edits.laws.edits_may_change_nothing.Goals as goal

pub returns-clause-set : goal.returns-clause-set
returns-clause-set c = set-same

pub returns-clause-add : goal.returns-clause-add
returns-clause-add c = add-same

pub returns-clause-take : goal.returns-clause-take
returns-clause-take c = take-same

pub returns-clause-unset : goal.returns-clause-unset
returns-clause-unset c = unset-same

pub returns-clause-move_to : goal.returns-clause-move_to
returns-clause-move_to c = move-same
