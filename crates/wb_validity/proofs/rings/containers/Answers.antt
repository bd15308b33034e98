use Rattle.wb_validity.proofs.RingLemmas.{none_placed, placed_more, placed_above}
use Rattle.wb_validity.proofs.rings.containers.Goals as goal

pub loop-at-init : goal.loop-at-init
loop-at-init c = none_placed c.args.store.now c.args.records.now c.new-above.result.items c.new-above.ensures.items

pub loop-at-preserved : goal.loop-at-preserved
loop-at-preserved c = placed_more c.args.store.now c.args.records.now c.loop-at.at c.loop-at.above.items c.push.new.self.items c.container_place.result c.loop-at.invariant c.container_place.ensures c.in_ok-push.ensures.items

pub returns : goal.returns
returns c = placed_above c.args.store.now c.args.records.now c.loop-at.at c.loop-at.above.items c.loop-at-test.false c.loop-at.auto.at-end c.loop-at.invariant
