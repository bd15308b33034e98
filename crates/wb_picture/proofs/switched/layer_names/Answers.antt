use Rattle.std.proofs.Common.{ℕ, sym}
use Rattle.wb_viewpoint.specs.declared.layers.Layer.{Layer}
use Rattle.wb_picture.specs.Picture.{is_active_layer}
use Rattle.wb_picture.proofs.Numbering.{one_more, no_more}
use Rattle.wb_picture.proofs.switched.layer_names.Goals as goal
use Rattle.wb_picture.proofs.switched.layer_names.Goals.{then-is_active_layer+in_ok-text_of+in_ok-push, else-is_active_layer}

pub loop-number-preserved : goal.loop-number-preserved
loop-number-preserved c =
    let name = λ (it : ℕ × Layer). it.1.name in
    let passes = λ (it : ℕ × Layer). is_active_layer c.args.on.now it.0 in
    let more = one_more name passes c.args.layers.now c.loop-number.number c.index-layers-number.result c.loop-number-test.true c.index-layers-number.is in
    let none = no_more name passes c.args.layers.now c.loop-number.number c.index-layers-number.result c.loop-number-test.true c.index-layers-number.is in
    elim c.if-is_active_layer.branch [
      | then-is_active_layer+in_ok-text_of+in_ok-push w ↦
          let same = more (sym w.if-is_active_layer.ensures) in
          cc (same, w.names-is, w.in_ok-push.ensures.items, w.in_ok-text_of.ensures, c.loop-number.invariant)
      | else-is_active_layer w ↦
          let same = none (sym w.if-is_active_layer.ensures) in
          cc (same, w.names-is, c.loop-number.invariant)
    ]
