use Rattle.wb_rows.specs.Rows.{hidden_row}
use Rattle.wb_rows.proofs.Steps.{rows_more}
use Rattle.wb_rows.proofs.marked.put_hidden.Goals as goal

pub loop-key-preserved : goal.loop-key-preserved
loop-key-preserved c =
    let more = rows_more hidden_row c.args.keys.now c.loop-key.key-index c.key-item.result c.args.rows.now c.loop-key-test.true c.key-item.is in
    cc (more, c.in_ok-put.ensures, c.in_ok-any_key.ensures, c.new.ensures.items, c.loop-key.invariant)
