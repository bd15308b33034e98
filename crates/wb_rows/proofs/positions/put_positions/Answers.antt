use Rattle.std.proofs.Common.{◌≡◌, Some, ap, sym, ◌∙◌}
use Rattle.std.specs.FinMap.{entries, get, insert}
use Rattle.wb_layout.specs.Positions.{Position}
use Rattle.wb_layout.proofs.KeyOrder.{key_cmp_total}
use Rattle.wb_rows.specs.Rows.{position_row}
use Rattle.wb_rows.specs.Texts.{Texts}
use Rattle.wb_rows.proofs.Found.{entry_is, entry_there, has_value}
use Rattle.wb_rows.proofs.Steps.{rows_more}
use Rattle.wb_rows.proofs.positions.put_positions.Goals as goal
use Rattle.wb_rows.proofs.positions.put_positions.Goals.{in-Some-at+in_ok-put_position, in_default-at}

pub loop-i-preserved : goal.loop-i-preserved
loop-i-preserved c =
    let m = c.args.layout.now in
    let i = c.loop-i.i in
    let key = c.in-Some.key.now in
    elim c.match-at.branch [
      | in-Some-at+in_ok-put_position w ↦
          let at : Position = w.in-Some-at.at in
          let value : get m key ≡ Some at = sym c.at.ensures.position ∙ w.in-Some-at.is in
          let more = rows_more position_row (entries m) i (key, at) c.args.rows.now (entry_there key_cmp_total m i key (sym c.in-Some.ensures) at value) (entry_is key_cmp_total m i key (sym c.in-Some.ensures) at value) in
          w.rows-is ∙ w.in_ok-put_position.ensures ∙ ap (λ (rows : Texts). insert rows (position_row (key, at)).key (position_row (key, at)).text) c.loop-i.invariant ∙ sym more
      | in_default-at w ↦ absurd (has_value key_cmp_total m i key (sym c.in-Some.ensures) (sym c.at.ensures.position ∙ w.in_default-at.is))
    ]
