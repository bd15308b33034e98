use Rattle.std.proofs.Common.{◌≡◌, length, All, false}
use Rattle.wb_store.proofs.holding.none_twice.Given as goal

abbrev pub invariant-loop-record : goal.invariant-loop-record
invariant-loop-record l = record { long : length l.twice.items ≡ l._record-index; none : All (λ t. t ≡ false) l.twice.items }
