use Rattle.std.proofs.Common.{arith}
use Rattle.wb_layout.proofs.Maps.{one_more}
use Rattle.wb_layout.proofs.growing.copied.Goals as goal

pub loop-entry-preserved : goal.loop-entry-preserved
loop-entry-preserved c = one_more c.args.entries.now c.loop-entry.copy.entries c.insert.new.self.entries c.loop-entry.entry-index c.entry-item.result c.in_ok-copy.field-0
    c.requires (omega arith) c.entry-item.is c.loop-entry.invariant c.in_ok-copy.ensures c.in_ok-insert.ensures.entries
