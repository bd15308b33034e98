use Rattle.std.proofs.Common.{◌≡◌, true, take}
use Rattle.std.specs.List.{list_all}
use Rattle.wb_model_json.specs.declared.rows.RowSlot.{RowSlot}
use Rattle.wb_validity.specs.Ranges.{is_in_range}
use Rattle.wb_model_json.proofs.ranges.slots_are_in_range.Given as goal

abbrev pub invariant-loop-slot : goal.invariant-loop-slot
invariant-loop-slot l = list_all (λ (slot : RowSlot). list_all is_in_range slot.values) (take l.slot-index l.slots) ≡ true
