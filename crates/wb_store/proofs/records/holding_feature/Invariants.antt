use Rattle.std.proofs.Common.{◌≡◌, ℕ, drop}
use Rattle.std.specs.List.{find, flat_map}
use Rattle.wb_store.specs.Records.{slot_entry}
use Rattle.wb_store.specs.Cells.{holds}
use Rattle.wb_store.proofs.records.holding_feature.Given as goal

abbrev pub invariant-loop-slot : goal.invariant-loop-slot
invariant-loop-slot l = (p : ℕ) → find (holds l.metamodel l.o) (flat_map (slot_entry p) (drop l.slot-index l.slots)) ≡ find (holds l.metamodel l.o) (flat_map (slot_entry p) l.slots)
