use Rattle.std.proofs.Common.{◌≡◌, ◌&&◌, ◌||◌, ℕ, drop, eqb}
use Rattle.std.specs.List.{list_any}
use Rattle.wb_validity.specs.invariants.LinkSets.{has_link, slot_has}
use Rattle.wb_validity.proofs.link_set.insert_slots.Given as goal

abbrev pub invariant-loop-slot : goal.invariant-loop-slot
invariant-loop-slot l =
    (q g o : ℕ) → (has_link l.links.keys q g o || (eqb q l.p && list_any (slot_has l.metamodel g o) (drop l.slot-index l.slots)))
    ≡ (has_link l.fn.links.keys q g o || (eqb q l.p && list_any (slot_has l.metamodel g o) l.slots))
