use Rattle.std.proofs.Common.{◌≡◌, ◌++◌, drop}
use Rattle.std.specs.List.{flat_map}
use Rattle.wb_store.specs.invariants.Links.{slot_links}
use Rattle.wb_store.proofs.links.push_slots.Given as goal

abbrev pub invariant-loop-slot : goal.invariant-loop-slot
invariant-loop-slot l = l.links.items ++ flat_map (slot_links l.metamodel l.container) (drop l.slot-index l.slots) ≡ l.fn.links.items ++ flat_map (slot_links l.metamodel l.container) l.slots
