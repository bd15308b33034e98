use Rattle.std.proofs.Common.{◌≡◌, take, map}
use Rattle.wb_validity.specs.invariants.Rings.{beyond}
use Rattle.wb_validity.proofs.rings.twice_as_far.Given as goal

abbrev pub invariant-loop-place : goal.invariant-loop-place
invariant-loop-place l = l.further.items ≡ map (beyond l.above) (take l.place-index l.above)
