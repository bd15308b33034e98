use Rattle.wb_model.proofs.EditEffects.{set-slot, add-slot, take-slot, unset-slot}
use Rattle.wb_model.proofs.edits.laws.edits_change_their_slot.Goals as goal

pub returns-clause-set : goal.returns-clause-set
returns-clause-set c = set-slot

pub returns-clause-add : goal.returns-clause-add
returns-clause-add c = add-slot

pub returns-clause-take : goal.returns-clause-take
returns-clause-take c = take-slot

pub returns-clause-unset : goal.returns-clause-unset
returns-clause-unset c = unset-slot
