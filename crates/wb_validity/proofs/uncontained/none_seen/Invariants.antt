use Rattle.std.proofs.Common.{◌≡◌, length, All, false}
use Rattle.wb_validity.proofs.uncontained.none_seen.Given as goal

abbrev pub invariant-loop-record : goal.invariant-loop-record
invariant-loop-record l = record { long : length l.seen.items ≡ l._record-index; none : All (λ s. s ≡ false) l.seen.items }
