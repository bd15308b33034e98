use Rattle.std.proofs.Common.{ℕ, ◌++◌, ap, map, sym, ◌∙◌}
use Rattle.std.specs.Prelude.{codes}
use Rattle.std.specs.FinMap.{insert}
use Rattle.wb_viewpoint.specs.declared.layers.Layer.{Layer}
use Rattle.wb_picture.specs.Picture.{is_active_layer}
use Rattle.wb_picture.proofs.Numbering.{one_more, no_more}
use Rattle.wb_rows.specs.Rows.{layer_row}
use Rattle.wb_rows.specs.Texts.{Texts, with_rows}
use Rattle.wb_rows.proofs.Steps.{named_more, puts}
use Rattle.wb_rows.proofs.switched.put_active_layers.Goals as goal
use Rattle.wb_rows.proofs.switched.put_active_layers.Goals.{then-is_active_layer+in_ok-key_of+in_ok-put, else-is_active_layer}

pub loop-number-preserved : goal.loop-number-preserved
loop-number-preserved c =
    let name = λ (it : ℕ × Layer). it.1.name in
    let passes = λ (it : ℕ × Layer). is_active_layer c.args.on.now it.0 in
    let it = c.index-layers-number.result in
    let i = c.loop-number.number in
    let more = one_more name passes c.args.layers.now i it c.loop-number-test.true c.index-layers-number.is in
    let none = no_more name passes c.args.layers.now i it c.loop-number-test.true c.index-layers-number.is in
    elim c.if-is_active_layer.branch [
      | then-is_active_layer+in_ok-key_of+in_ok-put w ↦
          let put = puts c.loop-number.rows w.put.new.self (layer_row it.name) _ _ w.in_ok-put.ensures (w.in_ok-key_of.ensures ∙ ap (λ name. codes "l/" ++ name) w.as_str.ensures.same) w.new.ensures.items in
          w.rows-is ∙ put ∙ ap (λ (rows : Texts). insert rows (layer_row it.name).key (layer_row it.name).text) c.loop-number.invariant
          ∙ sym (named_more layer_row _ _ it.name c.args.rows.now (more (sym w.if-is_active_layer.ensures)))
      | else-is_active_layer w ↦ w.rows-is ∙ c.loop-number.invariant ∙ ap (λ names. with_rows (map layer_row names) c.args.rows.now) (none (sym w.if-is_active_layer.ensures))
    ]
