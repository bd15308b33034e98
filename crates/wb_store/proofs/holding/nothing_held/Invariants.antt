use Rattle.std.proofs.Common.{◌≡◌, length, All, None}
use Rattle.wb_store.proofs.holding.nothing_held.Given as goal

abbrev pub invariant-loop-record : goal.invariant-loop-record
invariant-loop-record l = record { long : length l.holders.items ≡ l._record-index; none : All (λ holder. holder ≡ None) l.holders.items }
