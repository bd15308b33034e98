use Rattle.std.proofs.Common.{◌∙◌}
use Rattle.wb_looks.proofs.KeyLaws.{one_more_mark}
use Rattle.wb_looks.proofs.conditions.marks.Goals as goal

pub loop-key-preserved : goal.loop-key-preserved
loop-key-preserved c = λ it.
    one_more_mark it c.in_ok-copy.field-0 c.key-item.result c.loop-key.set.keys c.insert_full.new.self.keys c.args.hidden.now c.loop-key.key-index c.loop-key-test.true (c.in_ok-copy.ensures ∙ c.key-item.is) (c.in_ok-insert_full.ensures.updates.0 it) (c.loop-key.invariant it)
