use Rattle.wb_model.proofs.GivenEdits.{given-edited, given-valid, given-metamodel, given-next}
use Rattle.wb_model.proofs.edits.laws.given_edits_are_edits.Goals as goal

pub returns-clause-edited : goal.returns-clause-edited
returns-clause-edited c = given-edited

pub returns-clause-valid : goal.returns-clause-valid
returns-clause-valid c = given-valid

pub returns-clause-metamodel : goal.returns-clause-metamodel
returns-clause-metamodel c = given-metamodel

pub returns-clause-next : goal.returns-clause-next
returns-clause-next c = given-next
