use Rattle.std.proofs.Common.{◌∙◌, sym}
use Rattle.wb_looks.proofs.BlockLaws.{put_blocked}
use Rattle.wb_looks.proofs.visibility.block.Goals as goal

pub returns-in_ok-insert_full : goal.returns-in_ok-insert_full
returns-in_ok-insert_full c = λ it.
    put_blocked c.args.conditions.now c.args.place c.args.key.now c.in-Node.node c.in_ok-copy.field-0 it c.args.set.now.keys c.insert_full.new.self.keys c.in-Node.is c.in_ok-copy.ensures (sym c.is_clear.ensures ∙ c.if-not-is_clear.true) (c.in_ok-insert_full.ensures.updates.0 it)
