use Rattle.wb_model.proofs.EditEffects.{create-kind, create-root, create-holder, create-slot}
use Rattle.wb_model.proofs.edits.laws.created_objects_have_their_place.Goals as goal

pub returns-clause-class : goal.returns-clause-class
returns-clause-class c = create-kind

pub returns-clause-root : goal.returns-clause-root
returns-clause-root c = create-root

pub returns-clause-holder : goal.returns-clause-holder
returns-clause-holder c = create-holder

pub returns-clause-slot : goal.returns-clause-slot
returns-clause-slot c = create-slot
