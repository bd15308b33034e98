use Rattle.std.proofs.Common.{◌≡◌, ◌++◌, map, take, drop}
use Rattle.wb_store.specs.invariants.Removals.{slot_left}
use Rattle.wb_store.proofs.removals.drop_from_each.Given as goal

abbrev pub invariant-loop-i : goal.invariant-loop-i
invariant-loop-i l = l.slots.items ≡ map (slot_left l.dead) (take l.i l.fn.slots.items) ++ drop l.i l.fn.slots.items
