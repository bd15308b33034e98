use Rattle.wb_layout.proofs.Counts.{counted_more}
use Rattle.std.specs.BTreeMap.{get}
use Rattle.wb_layout.specs.Orders.{key_cmp}
use Rattle.wb_layout.proofs.siblings.Siblings.see.Goals as goal

pub returns-clause-counted : goal.returns-clause-counted
returns-clause-counted c = λ q. counted_more (get key_cmp c.args.self.now.seen) (get key_cmp c.insert.new.self) c.in_ok-parent.parent _ c.number-number.result q
    c.in_ok-parent.ensures c.number-number.ensures (c.in_ok-insert.ensures.updates.0 q)
