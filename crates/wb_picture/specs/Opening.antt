-- What is switched on in a diagram that nobody has switched yet.
use Rattle.std.specs.Prelude.{ℕ, Bool, ◌&&◌, List, map, filter}
use Rattle.std.specs.List.{enumerate_from}
use Rattle.wb_viewpoint.specs.declared.layers.Layer.{Layer}
use Rattle.wb_spec_check.specs.Checked.{Specification}
use Rattle.wb_picture.specs.Picture.{is_additional}

-- is this layer beside the first declared active?
abbrev pub is_opened : ℕ × Layer → Bool
is_opened item = is_additional item.0 && item.1.active

-- the numbers of those of the layers
abbrev pub opened : List Layer → List ℕ
opened layers = map (λ (item : ℕ × Layer). item.0) (filter is_opened (enumerate_from 0 layers))

-- the numbers of the layers beside the first that are declared active
unfoldable pub opening_layers : Specification → List ℕ
opening_layers spec = opened spec.0.layers
