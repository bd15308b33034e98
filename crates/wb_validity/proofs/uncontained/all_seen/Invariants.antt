use Rattle.std.proofs.Common.{◌≡◌, ◌<◌, ℕ, Some, None, true}
use Rattle.std.specs.List.{slice_get}
use Rattle.wb_validity.proofs.uncontained.all_seen.Given as goal

abbrev pub invariant-loop-i : goal.invariant-loop-i
invariant-loop-i l = (k : ℕ) → k < l.i → slice_get l.holders k ≡ Some None → slice_get l.seen k ≡ Some true
