use Rattle.std.proofs.Common.{◌≡◌, ℕ, drop}
use Rattle.std.specs.List.{list_all, flat_map}
use Rattle.wb_store.specs.Contents.{Filled, members}
use Rattle.wb_validity.specs.Conditions.{meets}
use Rattle.wb_store.specs.Records.{slot_entry}
use Rattle.wb_validity.proofs.conditions.slots_meet.Given as goal

abbrev pub invariant-loop-slot : goal.invariant-loop-slot
invariant-loop-slot l = list_all (λ (e : (ℕ × ℕ) × Filled). meets l.store l.condition e.0.0 e.0.1 (members e.1)) (flat_map (slot_entry l.o) (drop l.slot-index l.slots)) ≡ list_all (λ (e : (ℕ × ℕ) × Filled). meets l.store l.condition e.0.0 e.0.1 (members e.1)) (flat_map (slot_entry l.o) l.slots)
