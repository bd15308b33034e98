use Rattle.wb_validity.proofs.RingLemmas.{Placed}
use Rattle.wb_validity.proofs.rings.containers.Given as goal

abbrev pub invariant-loop-at : goal.invariant-loop-at
invariant-loop-at l = Placed l.store l.records l.at l.above.items
