use Rattle.std.proofs.Common.{ℕ, sym}
use Rattle.wb_viewpoint.specs.declared.layers.Layer.{Layer}
use Rattle.wb_picture.specs.Opening.{is_opened}
use Rattle.wb_picture.proofs.Numbering.{one_more, no_more}
use Rattle.wb_picture.proofs.opening.opened.Goals as goal
use Rattle.wb_picture.proofs.opening.opened.Goals.{then-is_opened+in_ok-push, else-is_opened}

pub loop-number-preserved : goal.loop-number-preserved
loop-number-preserved c =
    let number = λ (it : ℕ × Layer). it.0 in
    let more = one_more number is_opened c.args.layers.now c.loop-number.number c.index-layers-number.result c.loop-number-test.true c.index-layers-number.is in
    let none = no_more number is_opened c.args.layers.now c.loop-number.number c.index-layers-number.result c.loop-number-test.true c.index-layers-number.is in
    elim c.if-is_opened.branch [
      | then-is_opened+in_ok-push w ↦
          let same = more (sym w.if-is_opened.ensures) in
          cc (same, w.numbers-is, w.in_ok-push.ensures.items, c.loop-number.invariant)
      | else-is_opened w ↦
          let same = none (sym w.if-is_opened.ensures) in
          cc (same, w.numbers-is, c.loop-number.invariant)
    ]
