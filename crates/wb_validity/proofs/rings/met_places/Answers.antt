use Rattle.wb_validity.proofs.RingLemmas.{meeting_begins, meeting_reads, meeting_ends}
use Rattle.wb_validity.proofs.rings.met_places.Goals as goal

pub loop-place-init : goal.loop-place-init
loop-place-init c = meeting_begins c.args.above.now c.in_ok-met.met.items c.in_ok-met.ensures.each c.in_ok-met.ensures.none

pub loop-place-preserved : goal.loop-place-preserved
loop-place-preserved c = meeting_reads c.args.above.now c.loop-place.place-index c.loop-place.met.items c.meet.new.met.items _ c.loop-place-test.true c.loop-place.invariant c.meet.ensures

pub returns : goal.returns
returns c = meeting_ends c.args.above.now c.loop-place.place-index c.loop-place.met.items c.loop-place-test.false c.loop-place.invariant
