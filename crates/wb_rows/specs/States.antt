-- The rows of a session's state.
use Rattle.std.specs.Prelude.{All, List, [], ◌∷◌, ◌++◌, map, codes}
use Rattle.std.specs.FinMap as maps
use Rattle.wb_outer.specs.declared.keeper.Row.{Row}
use Rattle.wb_diagram.specs.Keys.{IsPath, IsWritable}
use Rattle.wb_viewpoint.specs.declared.content.Content.{Content}
use Rattle.wb_spec_check.specs.Checked.{Specification}
use Rattle.wb_marks.specs.declared.marks.Marks.{Marks}
use Rattle.wb_picture.specs.Picture.{active_filters, active_layers}
use Rattle.wb_rows.specs.Rows.{filter_row, hidden_row, layer_row, number_row, object_rows, position_row, roots_row, shown_row, spec_row, version_row}
use Rattle.wb_rows.specs.Texts.{rows_in, with_rows}
use Rattle.wb_rows.specs.declared.state.KeptState.{KeptState}
use Rattle.wb_rows.specs.declared.state.StateParts.{StateParts}

-- the rows that every state has
abbrev pub head_rows : Specification → KeptState → List Row
head_rows spec s =
    version_row
    ∷ spec_row s.model.metamodel spec.0
    ∷ number_row (codes "root") s.root
    ∷ number_row (codes "next") s.model.next
    ∷ number_row (codes "revision") s.revision
    ∷ roots_row s.model.roots
    ∷ []

-- where elements were placed, what is marked, and the active layers beside the first and filters by their names
abbrev pub mark_rows : Content → Marks → List Row
mark_rows content m =
    map position_row (maps.entries m.layout)
    ++ map shown_row m.shown
    ++ map hidden_row m.hidden
    ++ map layer_row (active_layers m.layers content)
    ++ map filter_row (active_filters m.filters content)

abbrev pub listed_rows : Specification → KeptState → List Row
listed_rows spec s = head_rows spec s ++ object_rows s.model ++ mark_rows spec.0 s.marks

-- the rows of a state, ascending by key
unfoldable pub rows_of : Specification → KeptState → List Row
rows_of spec s = rows_in (with_rows (listed_rows spec s) maps.empty)

-- ---- what is lent

abbrev pub state_of : StateParts → KeptState
state_of s = record { model = s.model.now; root = s.root; revision = s.revision; marks = s.marks.now }

-- what is marked or placed has a key of 1 to 32 pairs
pub record CanBeWritten (m : Marks) : Type 0 where
  pub shown : All IsPath m.shown
  pub hidden : All IsWritable m.hidden
  pub placed : All IsPath (maps.keys m.layout)
