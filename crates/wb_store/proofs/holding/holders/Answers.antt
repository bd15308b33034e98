use Rattle.wb_store.proofs.HolderLemmas.{noted_more}
use Rattle.wb_store.proofs.holding.holders.Goals as goal

pub loop-link-preserved : goal.loop-link-preserved
loop-link-preserved c = noted_more c.args.records.now c.requires c.args.links.now c.loop-link.link-index c.link-item.result c.loop-link.first.items c.loop-link.twice.items c.loop-link-test.true c.link-item.is c.loop-link.invariant c.note.new.first.items c.note.new.twice.items c.note.ensures
