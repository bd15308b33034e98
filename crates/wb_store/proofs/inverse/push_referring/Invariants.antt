use Rattle.std.proofs.Common.{◌≡◌, ◌++◌, ℕ, drop, map}
use Rattle.std.specs.Prelude.{filter}
use Rattle.std.specs.List.{flat_map}
use Rattle.wb_store.specs.Contents.{Filled}
use Rattle.wb_store.specs.Cells.{refers}
use Rattle.wb_store.specs.Records.{slot_entry}
use Rattle.wb_store.proofs.inverse.push_referring.Given as goal

abbrev pub invariant-loop-slot : goal.invariant-loop-slot
invariant-loop-slot l = l.pairs.items ++ map (λ (e : (ℕ × ℕ) × Filled). e.0) (filter (refers l.metamodel l.o) (flat_map (slot_entry l.p) (drop l.slot-index l.slots))) ≡ l.fn.pairs.items ++ map (λ (e : (ℕ × ℕ) × Filled). e.0) (filter (refers l.metamodel l.o) (flat_map (slot_entry l.p) l.slots))
