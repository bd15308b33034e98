-- The JSON of a diagram and of its parts. The members of each object ascend by their bytes.
use Rattle.std.specs.Prelude.{ℕ, ℤ, ◌<◌, List, [], ◌∷◌, length, codes, All}
use Rattle.std.specs.List.{slice_index_or}
use Rattle.serde_json.specs.Data.{Data, null, string, number, unsigned, array, object, item, no_items, no_members, member}
use Rattle.serde_json.specs.Find.{of_integer}
use Rattle.serde_json.specs.Written.{compact_text}
use Rattle.wb_json.specs.ToJson.{list_json, option_json}
use Rattle.wb_diagram.specs.Keys.{IsPath, JoinsPaths, own_pair, parent_pairs, key_text, path_text, edge_key_text}
use Rattle.wb_diagram.specs.Units.{NamesPaths, unit_text}
use Rattle.wb_diagram.specs.declared.keys.Pair.{Pair}
use Rattle.wb_diagram.specs.declared.diagrams.Element.{Element}
use Rattle.wb_diagram.specs.declared.diagrams.Edge.{Edge}
use Rattle.wb_diagram.specs.declared.diagrams.Problem.{Problem}
use Rattle.wb_diagram.specs.declared.diagrams.Diagram.{Diagram}

-- the name of a mapping, by its number
unfoldable pub name_of : List (List ℕ) → ℕ → List ℕ
name_of names mapping = slice_index_or names mapping []

-- ---- what can be written with these names of mappings

pub record IsWritableElement (names : List (List ℕ)) (e : Element) : Type 0 where
  pub path : IsPath e.key
  pub named : (own_pair e.key).mapping < length names

pub record IsWritableEdge (names : List (List ℕ)) (e : Edge) : Type 0 where
  pub paths : JoinsPaths e.key
  pub named : e.key.mapping < length names

pub record IsWritableDiagram (names : List (List ℕ)) (d : Diagram) : Type 0 where
  pub elements : All (IsWritableElement names) d.elements
  pub edges : All (IsWritableEdge names) d.edges
  pub problems : All (λ (problem : Problem). NamesPaths problem.at) d.problems

-- ---- the JSON

abbrev pub whole_number : ℕ → Data
whole_number n = number (unsigned n)

-- the key of the parent, or null where that is the diagram
abbrev pub path_data : List Pair → Data
path_data [] = null
path_data (pair ∷ pairs) = string (path_text (pair ∷ pairs))

-- right and down from the parent
abbrev pub place_data : ℤ × ℤ → Data
place_data p = array (item (number (of_integer p.0)) (item (number (of_integer p.1)) no_items))

unfoldable pub element_data : List (List ℕ) → Element → Data
element_data names e =
    object
    (member (codes "color") (string e.look.color)
    (member (codes "key") (string (key_text e.key))
    (member (codes "label") (string e.look.label)
    (member (codes "mapping") (string (name_of names (own_pair e.key).mapping))
    (member (codes "object") (whole_number (own_pair e.key).object)
    (member (codes "parent") (path_data (parent_pairs e.key))
    (member (codes "position") (option_json place_data e.position)
    (member (codes "shape") (string e.look.shape)
    no_members))))))))

unfoldable pub edge_data : List (List ℕ) → Edge → Data
edge_data names e =
    object
    (member (codes "color") (string e.look.color)
    (member (codes "key") (string (edge_key_text e.key))
    (member (codes "label") (string e.look.label)
    (member (codes "mapping") (string (name_of names e.key.mapping))
    (member (codes "object") (whole_number e.key.object)
    (member (codes "shape") (string e.look.shape)
    (member (codes "source") (string (key_text e.key.source))
    (member (codes "target") (string (key_text e.key.target))
    no_members))))))))

unfoldable pub problem_data : Problem → Data
problem_data problem = object (member (codes "at") (string (unit_text problem.at)) (member (codes "fault") (string problem.fault) no_members))

unfoldable pub diagram_data : List (List ℕ) → Diagram → Data
diagram_data names d =
    object
    (member (codes "edges") (list_json (edge_data names) d.edges)
    (member (codes "elements") (list_json (element_data names) d.elements)
    (member (codes "filters") (list_json string d.filters)
    (member (codes "layers") (list_json string d.layers)
    (member (codes "problems") (list_json problem_data d.problems)
    (member (codes "revision") (whole_number d.revision)
    no_members))))))

-- ---- the texts

unfoldable pub element_text : List (List ℕ) → Element → List ℕ
element_text names e = compact_text (element_data names e)

unfoldable pub edge_text : List (List ℕ) → Edge → List ℕ
edge_text names e = compact_text (edge_data names e)

unfoldable pub diagram_text : List (List ℕ) → Diagram → List ℕ
diagram_text names d = compact_text (diagram_data names d)
