use Rattle.wb_model.proofs.EditLaws.{removed-nowhere, others-stay}
use Rattle.wb_model.proofs.edits.laws.removed_objects_are_nowhere.Goals as goal

pub returns-clause-nowhere : goal.returns-clause-nowhere
returns-clause-nowhere c = λ m n well v o. removed-nowhere m well v o n

pub returns-clause-others : goal.returns-clause-others
returns-clause-others c = λ m n well v o. others-stay m well v o n
