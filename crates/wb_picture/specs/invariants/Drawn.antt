-- What is drawn of keys whose looks and flags go beside them.
use Rattle.std.specs.Prelude.{ℕ, Bool, false, List, [], ◌∷◌, ◌++◌, length, drop, Option, Some, None, slice_get, slice_index_or, if◌then◌else◌}
use Rattle.std.specs.FinMap as positions
use Rattle.wb_diagram.specs.declared.diagrams.Diagram.{Diagram}
use Rattle.wb_diagram.specs.declared.diagrams.Edge.{Edge}
use Rattle.wb_diagram.specs.declared.diagrams.Element.{Element}
use Rattle.wb_diagram.specs.declared.diagrams.Look.{Look}
use Rattle.wb_diagram.specs.declared.keys.EdgeKey.{EdgeKey}
use Rattle.wb_diagram.specs.declared.keys.Key.{Key}
use Rattle.wb_viewpoint.specs.declared.content.Content.{Content}
use Rattle.wb_layout.specs.Positions.{Positions}
use Rattle.wb_picture.specs.Picture.{active_filters, active_layers}
use Rattle.wb_picture.specs.declared.views.Declared.{Declared}
use Rattle.wb_picture.specs.declared.views.View.{View}

-- the look at a place, if the flag there is set
abbrev pub visible_look : List Look → List Bool → ℕ → Option Look
visible_look looks flags place = if slice_index_or flags place false then slice_get looks place else None

abbrev pub drawn_with : {A B : Type 0} → (A → Look → B) → A → Option Look → List B
drawn_with draw key None = []
drawn_with draw key (Some look) = draw key look ∷ []

-- each key whose flag is set, with its look
abbrev pub drawn : {A B : Type 0} → (A → Look → B) → List A → List Look → List Bool → List B
drawn draw [] looks flags = []
drawn draw (key ∷ keys) [] flags = []
drawn draw (key ∷ keys) (look ∷ looks) [] = []
drawn draw (key ∷ keys) (look ∷ looks) (flag ∷ flags) = (if flag then draw key look ∷ [] else []) ++ drawn draw keys looks flags

abbrev pub element_with : Positions → Key → Look → Element
element_with placed key look = record { key = key; look = look; position = positions.get placed key }

abbrev pub edge_with : EdgeKey → Look → Edge
edge_with key look = record { key = key; look = look }

-- the picture with these flags, which go by key as the looks do
unfoldable pub diagram_with : Content → Declared → View → List Bool → Diagram
diagram_with content declared view flags = record {
  elements = drawn (element_with view.layout.now) declared.nodes.now declared.looks.now flags;
  edges = drawn edge_with declared.edges.now (drop (length declared.nodes.now) declared.looks.now) (drop (length declared.nodes.now) flags);
  filters = active_filters view.switches.filters.now content;
  layers = active_layers view.switches.layers.now content;
  problems = declared.problems.now;
  revision = view.revision;
}
