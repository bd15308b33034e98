-- One row of each sort. Numbers are decimal, and the key of an element or edge is written as in the diagram.
use Rattle.std.specs.Prelude.{ℕ, List, [], ◌++◌, map, codes, decimal}
use Rattle.std.specs.Fmt.{signed_decimal}
use Rattle.std.specs.List.{join_with_byte}
use Rattle.std.specs.FinMap as maps
use Rattle.wb_outer.specs.declared.keeper.Row.{Row}
use Rattle.wb_metamodel.specs.Metamodel.{Metamodel}
use Rattle.wb_store.specs.Contents.{Contents}
use Rattle.wb_model_json.specs.Written.{row_text}
use Rattle.wb_diagram.specs.Keys.{any_key_text, key_text}
use Rattle.wb_diagram.specs.declared.keys.AnyKey.{AnyKey}
use Rattle.wb_diagram.specs.declared.keys.Key.{Key}
use Rattle.wb_viewpoint.specs.declared.content.Content.{Content}
use Rattle.wb_layout.specs.Positions.{Position}
use Rattle.wb_rows.specs.Texts.{row}

-- ---- one row of each sort

abbrev pub version_row : Row
version_row = row (codes "version") (codes "1")

-- the name of the metamodel's package, and that of the viewpoint
abbrev pub spec_row : Metamodel → Content → Row
spec_row mm content = row (codes "spec") (mm.package_name ++ codes "/" ++ content.viewpoint_name)

abbrev pub number_row : (key : List ℕ) → ℕ → Row
number_row key n = row key (decimal n)

-- the numbers of the roots in their order, with `,` between them
abbrev pub roots_text : List ℕ → List ℕ
roots_text roots = join_with_byte 44 (map decimal roots)

abbrev pub roots_row : List ℕ → Row
roots_row roots = row (codes "roots") (roots_text roots)

-- a live object, by its number: its class and its slots
abbrev pub object_row : Contents → ℕ → Row
object_row m o = row (codes "o/" ++ decimal o) (row_text m o)

abbrev pub object_rows : Contents → List Row
object_rows m = map (object_row m) (maps.keys m.kinds)

-- right and down from the parent
abbrev pub position_text : Position → List ℕ
position_text at = signed_decimal at.0 ++ codes "," ++ signed_decimal at.1

abbrev pub position_row : Key × Position → Row
position_row e = row (codes "p/" ++ key_text e.0) (position_text e.1)

abbrev pub shown_row : Key → Row
shown_row key = row (codes "s/" ++ key_text key) []

abbrev pub hidden_row : AnyKey → Row
hidden_row key = row (codes "h/" ++ any_key_text key) []

abbrev pub layer_row : (name : List ℕ) → Row
layer_row name = row (codes "l/" ++ name) []

abbrev pub filter_row : (name : List ℕ) → Row
filter_row name = row (codes "f/" ++ name) []
