use Rattle.std.proofs.Common.{◌≡◌, ◌++◌, ℕ, drop, map}
use Rattle.std.specs.Prelude.{filter}
use Rattle.std.specs.List.{flat_map}
use Rattle.wb_store.specs.Contents.{Filled}
use Rattle.wb_store.specs.Cells.{refers, inverse}
use Rattle.wb_store.specs.Records.{slot_entries}
use Rattle.wb_store.proofs.store.Store.inverse.Given as goal

abbrev pub invariant-loop-record : goal.invariant-loop-record
invariant-loop-record l = l.pairs.items ++ map (λ (e : (ℕ × ℕ) × Filled). e.0) (filter (refers l.self.metamodel l.o) (flat_map slot_entries (drop l.record-index l.record-items))) ≡ inverse l.self l.o
