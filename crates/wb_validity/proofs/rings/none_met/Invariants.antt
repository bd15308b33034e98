use Rattle.std.proofs.Common.{◌≡◌, length, All, false}
use Rattle.wb_validity.proofs.rings.none_met.Given as goal

abbrev pub invariant-loop-place : goal.invariant-loop-place
invariant-loop-place l = record { long : length l.met.items ≡ l._place-index; none : All (λ m. m ≡ false) l.met.items }
