use Rattle.std.proofs.Common.{◌≡◌, drop}
use Rattle.std.specs.List.{list_all}
use Rattle.wb_store.specs.Parts.{is_listed_slot}
use Rattle.wb_model.proofs.building.slots_are_listed.Given as goal

abbrev pub invariant-loop-slot : goal.invariant-loop-slot
invariant-loop-slot l = list_all (is_listed_slot l.metamodel) (drop l.slot-index l.slots) ≡ list_all (is_listed_slot l.metamodel) l.slots
