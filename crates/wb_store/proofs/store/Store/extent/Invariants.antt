use Rattle.std.proofs.Common.{◌≡◌, ◌++◌, ℕ, drop, map}
use Rattle.std.specs.Prelude.{filter}
use Rattle.wb_metamodel.specs.Metamodel.{conforms}
use Rattle.wb_store.specs.Cells.{extent}
use Rattle.wb_store.specs.Records.{kind_entry}
use Rattle.wb_store.proofs.store.Store.extent.Given as goal

abbrev pub invariant-loop-record : goal.invariant-loop-record
invariant-loop-record l = l.objects.items ++ map (λ (e : ℕ × ℕ). e.0) (filter (λ (e : ℕ × ℕ). conforms l.self.metamodel e.1 l.c) (map kind_entry (drop l.record-index l.record-items))) ≡ extent l.self l.c
