-- Places in the text of a viewpoint, from the whole (`#`) down to the part.
use Rattle.std.specs.Prelude.{ℕ, List, ◌++◌, codes}
use Rattle.wb_json.specs.Place.{Place, pointer_segment, index_segment}
use Rattle.wb_spec_check.specs.declared.path.Path.{Path, fold-Path}
use Rattle.wb_spec_check.specs.declared.path.Path.TheOpen.{Path-F}

-- the member of that name, of what stands at a place
abbrev pub ◌▸◌ : Place → List ℕ → Place
place ▸ name = place ++ pointer_segment name

infixl 30 ◌▸◌
-- the item of that number
abbrev pub ◌!◌ : Place → ℕ → Place
place ! n = place ++ index_segment n

infixl 30 ◌!◌
-- the diagram of a viewpoint
abbrev pub diagram : Place
diagram = codes "#" ▸ codes "diagram"

-- the place to which a path leads
abbrev pub path_step : Path-F Place → Place
path_step Path-F.Root = codes "#"
path_step (Path-F.Member outer name) = outer.now ▸ name.now
path_step (Path-F.Item outer n) = outer.now ! n

unfoldable pub place_of : Path → Place
place_of = fold-Path Place path_step
