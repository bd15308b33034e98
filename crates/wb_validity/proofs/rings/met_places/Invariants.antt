use Rattle.wb_validity.proofs.RingLemmas.{Meeting}
use Rattle.wb_validity.proofs.rings.met_places.Given as goal

abbrev pub invariant-loop-place : goal.invariant-loop-place
invariant-loop-place l = Meeting l.above l.place-index l.met.items
