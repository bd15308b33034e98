use Rattle.std.proofs.Common.{◌≡◌, map}
use Rattle.wb_store.specs.Parts.{slot_of}
use Rattle.wb_store.proofs.arranged.slots_in_order.Given as goal

abbrev pub invariant-loop-part : goal.invariant-loop-part
invariant-loop-part l = l.slots.items ≡ map slot_of l.yielded
