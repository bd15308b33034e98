-- No float stands in what is written.
use Rattle.std.proofs.Common.{◌≡◌, ℕ, ℤ, List, [], ◌∷◌, false, refl}
use Rattle.serde_json.specs.Data.{string}
use Rattle.serde_json.specs.Written.{has_float}
use Rattle.wb_json.specs.NoFloats.{integer_no_float, list_no_float, option_no_float}
use Rattle.wb_diagram.specs.Keys.{parent_pairs}
use Rattle.wb_diagram.specs.Diagrams.{path_data, place_data, element_data, edge_data, problem_data, diagram_data}
use Rattle.wb_diagram.specs.declared.keys.Pair.{Pair}
use Rattle.wb_diagram.specs.declared.diagrams.Element.{Element}
use Rattle.wb_diagram.specs.declared.diagrams.Edge.{Edge}
use Rattle.wb_diagram.specs.declared.diagrams.Problem.{Problem}
use Rattle.wb_diagram.specs.declared.diagrams.Diagram.{Diagram}

path_has_no_float : (path : List Pair) → has_float (path_data path) ≡ false
path_has_no_float [] = refl
path_has_no_float (p ∷ ps) = refl

place_has_no_float : (p : ℤ × ℤ) → has_float (place_data p) ≡ false
place_has_no_float p = rw (integer_no_float p.0, integer_no_float p.1)

pub element_has_no_float : (names : List (List ℕ)) (e : Element) → has_float (element_data names e) ≡ false
unfolding element_data
element_has_no_float names e = rw (path_has_no_float (parent_pairs e.key), option_no_float place_data place_has_no_float e.position)

pub edge_has_no_float : (names : List (List ℕ)) (e : Edge) → has_float (edge_data names e) ≡ false
unfolding edge_data
edge_has_no_float names e = refl

problem_has_no_float : (problem : Problem) → has_float (problem_data problem) ≡ false
unfolding problem_data
problem_has_no_float problem = refl

pub diagram_has_no_float : (names : List (List ℕ)) (d : Diagram) → has_float (diagram_data names d) ≡ false
unfolding diagram_data
diagram_has_no_float names d =
    rw (
      list_no_float (edge_data names) (edge_has_no_float names) d.edges,
      list_no_float (element_data names) (element_has_no_float names) d.elements,
      list_no_float (λ (t : List ℕ). string t) (λ t. refl) d.filters,
      list_no_float (λ (t : List ℕ). string t) (λ t. refl) d.layers,
      list_no_float problem_data problem_has_no_float d.problems,
    )
