use Rattle.std.proofs.Common.{◌≡◌, map, take}
use Rattle.wb_viewpoint.specs.declared.layers.Layer.{Layer}
use Rattle.wb_picture.specs.Picture.{is_active_layer, names_where}
use Rattle.wb_rows.specs.Rows.{layer_row}
use Rattle.wb_rows.specs.Texts.{with_rows}
use Rattle.wb_rows.proofs.switched.put_active_layers.Given as goal

abbrev pub invariant-loop-number : goal.invariant-loop-number
invariant-loop-number l = l.rows ≡ with_rows (map layer_row (names_where (λ (it : Layer). it.name) (is_active_layer l.on) (take l.number l.layers))) l.initial.rows
