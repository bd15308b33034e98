-- The picture that is served: what is visible of what is declared, how it looks and where it stands, and what is switched on.
use Rattle.std.specs.Prelude.{ℕ, Bool, not, ◌&&◌, nat_eq, List, ◌++◌, map, filter}
use Rattle.std.specs.FinMap as positions
use Rattle.std.specs.List.{enumerate_from, list_any}
use Rattle.wb_metamodel.specs.Metamodel.{Metamodel}
use Rattle.wb_diagram.specs.Diagrams.{diagram_text}
use Rattle.wb_diagram.specs.declared.diagrams.Diagram.{Diagram}
use Rattle.wb_diagram.specs.declared.diagrams.Edge.{Edge}
use Rattle.wb_diagram.specs.declared.diagrams.Element.{Element}
use Rattle.wb_diagram.specs.declared.diagrams.Problem.{Problem}
use Rattle.wb_diagram.specs.declared.keys.AnyKey.{AnyKey}
use Rattle.wb_diagram.specs.declared.keys.AnyKey.TheVariants.{Node as NodeKey, Edge as EdgeKeyOf}
use Rattle.wb_diagram.specs.declared.keys.EdgeKey.{EdgeKey}
use Rattle.wb_diagram.specs.declared.keys.Key.{Key}
use Rattle.wb_viewpoint.specs.declared.content.Content.{Content}
use Rattle.wb_viewpoint.specs.declared.filters.Filter.{Filter}
use Rattle.wb_viewpoint.specs.declared.layers.Layer.{Layer}
use Rattle.wb_viewpoint.specs.declared.mappings.Mapping.{Mapping}
use Rattle.wb_spec_check.specs.Checked.{Specification}
use Rattle.wb_answers.specs.Seen.{Told}
use Rattle.wb_looks.specs.Looks.{look}
use Rattle.wb_looks.specs.Visible.{Switches, is_visible}
use Rattle.wb_layout.specs.Positions.{Positions}

-- what is seen: a viewpoint, what is told of its units over a metamodel, what is switched, and where elements were placed
pub record Scene : Type 0 where
  pub spec : Specification
  pub metamodel : Metamodel
  pub told : Told
  pub switches : Switches
  pub placed : Positions

-- the keys of what is declared, in declared order, and the problems in the order of units
pub record Declarations : Type 0 where
  pub nodes : List Key
  pub edges : List EdgeKey
  pub problems : List Problem

-- all keys: those of elements first, and then those of edges
abbrev pub all_keys : List Key → List EdgeKey → List AnyKey
all_keys nodes edges = map NodeKey nodes ++ map EdgeKeyOf edges

-- ---- what is visible

-- an element with its look, and its position if it was placed
abbrev pub element : Scene → Key → Element
element s key = record { key = key; look = look s.spec s.metamodel s.told (NodeKey key); position = positions.get s.placed key }

abbrev pub edge : Scene → EdgeKey → Edge
edge s key = record { key = key; look = look s.spec s.metamodel s.told (EdgeKeyOf key) }

-- the visible elements, in declared order
abbrev pub visible_elements : Scene → List Key → List Element
visible_elements s nodes = map (element s) (filter (λ (key : Key). is_visible s.spec s.told s.switches (NodeKey key)) nodes)

-- the visible edges, in declared order
abbrev pub visible_edges : Scene → List EdgeKey → List Edge
visible_edges s edges = map (edge s) (filter (λ (key : EdgeKey). is_visible s.spec s.told s.switches (EdgeKeyOf key)) edges)

-- ---- what is switched on

-- is the number among those that are switched on?
abbrev pub is_on : List ℕ → ℕ → Bool
is_on numbers n = list_any (nat_eq n) numbers

-- the first layer has number 0; it is always active
abbrev pub is_additional : ℕ → Bool
is_additional n = not (nat_eq n 0)

-- is this an active layer beside the first?
abbrev pub is_active_layer : List ℕ → ℕ → Bool
is_active_layer on n = is_additional n && is_on on n

-- the names of those of the items whose numbers pass, in the items' order
abbrev pub names_where : {A : Type 0} → (A → List ℕ) → (ℕ → Bool) → List A → List (List ℕ)
names_where {A} name passes items = map (λ (item : ℕ × A). name item.1) (filter (λ (item : ℕ × A). passes item.0) (enumerate_from 0 items))

-- the names of the active filters, in the viewpoint's order
unfoldable pub active_filters : List ℕ → Content → List (List ℕ)
active_filters on content = names_where (λ (it : Filter). it.name) (is_on on) content.filters

-- the names of the active layers but the first, in the viewpoint's order
unfoldable pub active_layers : List ℕ → Content → List (List ℕ)
active_layers on content = names_where (λ (it : Layer). it.name) (is_active_layer on) content.layers

-- ---- the picture

unfoldable pub picture : Scene → Declarations → (revision : ℕ) → Diagram
picture s declared revision = record {
  elements = visible_elements s declared.nodes;
  edges = visible_edges s declared.edges;
  filters = active_filters s.switches.filters s.spec.0;
  layers = active_layers s.switches.layers s.spec.0;
  problems = declared.problems;
  revision = revision;
}

-- the names of the mappings, by number
abbrev pub mapping_names : Content → List (List ℕ)
mapping_names content = map (λ (it : Mapping). it.name) content.mappings

-- the JSON text of the picture
unfoldable pub served : Scene → Declarations → (revision : ℕ) → List ℕ
served s declared revision = diagram_text (mapping_names s.spec.0) (picture s declared revision)
