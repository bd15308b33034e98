use Rattle.std.proofs.Common.{◌≡◌, take}
use Rattle.wb_viewpoint.specs.declared.layers.Layer.{Layer}
use Rattle.wb_picture.specs.Picture.{is_active_layer, names_where}
use Rattle.wb_picture.proofs.switched.layer_names.Given as goal

abbrev pub invariant-loop-number : goal.invariant-loop-number
invariant-loop-number l = l.names.items ≡ names_where (λ (it : Layer). it.name) (is_active_layer l.on) (take l.number l.layers)
