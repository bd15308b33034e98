use Rattle.wb_model.proofs.EditEffects.{move-holder, move-slot}
use Rattle.wb_model.proofs.edits.laws.moved_objects_have_their_container.Goals as goal

pub returns-clause-holder : goal.returns-clause-holder
returns-clause-holder c = move-holder

pub returns-clause-slot : goal.returns-clause-slot
returns-clause-slot c = move-slot
