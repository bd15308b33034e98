use Rattle.wb_model.proofs.EditLaws.{kept, same_metamodel, kept-many}
use Rattle.wb_model.proofs.edits.laws.edits_keep_models_valid.Goals as goal

pub returns-clause-valid : goal.returns-clause-valid
returns-clause-valid c = kept

pub returns-clause-metamodel : goal.returns-clause-metamodel
returns-clause-metamodel c = same_metamodel

pub returns-clause-many : goal.returns-clause-many
returns-clause-many c = kept-many
