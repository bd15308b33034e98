use Rattle.std.proofs.Common.{◌≡◌, ◌++◌, ℕ, drop, map}
use Rattle.std.specs.FinMap.{keys}
use Rattle.wb_store.specs.Records.{kind_entry}
use Rattle.wb_store.proofs.store.Store.objects.Given as goal

abbrev pub invariant-loop-record : goal.invariant-loop-record
invariant-loop-record l = l.objects.items ++ map (λ (e : ℕ × ℕ). e.0) (map kind_entry (drop l.record-index l.record-items)) ≡ keys l.self.kinds
