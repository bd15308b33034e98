-- The edges that a viewpoint declares between declared elements over answers, in order, and the units that are asked for them.
use Rattle.std.specs.Prelude.{ℕ, Bool, true, not, is_some, nat_eq, ◌&&◌, List, [], ◌∷◌, ◌++◌, length, map, filter, Option, Some, None, if◌then◌else◌}
use Rattle.std.specs.Option.{option_map_or}
use Rattle.std.specs.List.{flat_map, list_any}
use Rattle.wb_base.specs.Lists.{first_places, numbers}
use Rattle.wb_base.specs.Options.{◌>>=◌}
use Rattle.wb_store.specs.Contents.{Contents}
use Rattle.wb_validity.specs.Valid.{conforms_to}
use Rattle.wb_diagram.specs.Keys.{own_pair}
use Rattle.wb_diagram.specs.declared.keys.EdgeKey.{EdgeKey}
use Rattle.wb_diagram.specs.declared.keys.Key.{Key}
use Rattle.wb_diagram.specs.declared.keys.Pair.{Pair}
use Rattle.wb_diagram.specs.declared.units.Unit.{Unit}
use Rattle.wb_diagram.specs.declared.units.Unit.TheVariants.{EdgeCandidates, EdgePrecondition, Source, Target}
use Rattle.wb_spec_check.specs.Checked.{Specification}
use Rattle.wb_spec_check.specs.Units.{mapping_of, precondition_of}
use Rattle.wb_spec_check.specs.declared.checked_mappings.CheckedEdge.{CheckedEdge}
use Rattle.wb_spec_check.specs.declared.checked_mappings.CheckedForm.{CheckedForm}
use Rattle.wb_spec_check.specs.declared.checked_mappings.CheckedForm.TheVariants.{Node as NodeForm, Edge as EdgeForm}
use Rattle.wb_spec_check.specs.declared.checked_mappings.CheckedMapping.{CheckedMapping}
use Rattle.wb_spec_check.specs.declared.checked_mappings.CheckedSource.{CheckedSource}
use Rattle.wb_answers.specs.Meanings.{is_true, objects_of}
use Rattle.wb_answers.specs.SameKeys.{same_edge}
use Rattle.wb_answers.specs.Seen.{Told}

-- a model under a viewpoint, with the declared elements in order
pub record Scene : Type 0 where
  pub spec : Specification
  pub model : Contents
  pub nodes : List Key

abbrev pub scene_of : Specification → Contents → (nodes : List Key) → Scene
scene_of spec m nodes = record { spec = spec; model = m; nodes = nodes }

-- ---- mappings

abbrev pub edge_in : CheckedForm → Option CheckedEdge
edge_in (NodeForm node) = None
edge_in (EdgeForm edge) = Some edge

-- the mapping to edges of this number
unfoldable pub edge_mapping : Specification → ℕ → Option CheckedEdge
edge_mapping spec n = mapping_of spec n >>= (λ (mapping : CheckedMapping). edge_in mapping.form)

-- has the mapping of this number a precondition?
unfoldable pub is_conditional : Specification → ℕ → Bool
is_conditional spec n = is_some (precondition_of spec n)

-- do its edges stand for objects of their own?
abbrev pub is_element_based : CheckedEdge → Bool
is_element_based edge = is_some edge.object_edge

-- ---- elements by object

-- the element is of one of these mappings
abbrev pub is_of : (mappings : List ℕ) → Key → Bool
is_of mappings key = list_any (nat_eq (own_pair key).mapping) mappings

-- the element represents the object
abbrev pub represents : ℕ → Key → Bool
represents o key = nat_eq (own_pair key).object o

-- the declared elements of these mappings, in declared order
abbrev pub elements_of : Scene → (mappings : List ℕ) → List Key
elements_of s mappings = filter (is_of mappings) s.nodes

-- those of them that represent an object
abbrev pub elements_for : Scene → (mappings : List ℕ) → ℕ → List Key
elements_for s mappings o = filter (represents o) (elements_of s mappings)

-- the objects of elements, each once
abbrev pub objects_by : List Key → List ℕ
objects_by elements = first_places (map (λ (key : Key). (own_pair key).object) elements)

-- ---- the objects that edges stand for

-- the candidates, each at its first place, that are live and of the mapping's class
abbrev pub candidates_by : Scene → Told → ℕ → CheckedSource → List ℕ
candidates_by s told n source = filter (conforms_to s.model source.objects.domain) (objects_of (told (EdgeCandidates n)))

-- the semantic objects: the candidates, or the objects of the declared source elements
unfoldable pub semantic : Scene → Told → ℕ → CheckedEdge → List ℕ
semantic s told n edge = option_map_or (candidates_by s told n) edge.object_edge (objects_by (elements_of s edge.sources))

abbrev pub pair_of : ℕ → ℕ → Pair
pair_of n o = record { mapping = n; object = o }

-- the precondition is true, if there is one
abbrev pub passes : Scene → Told → Pair → Bool
passes s told pair = if is_conditional s.spec pair.mapping then is_true (told (EdgePrecondition pair)) else true

-- ---- the edges of a semantic object

-- the found source objects, each at its first place; where the edges stand for no objects of their own, the semantic object alone
abbrev pub found_sources : Told → CheckedEdge → Pair → List ℕ
found_sources told edge pair = if is_element_based edge then objects_of (told (Source pair)) else pair.object ∷ []

-- the found target objects, each at its first place
abbrev pub found_targets : Told → Pair → List ℕ
found_targets told pair = objects_of (told (Target pair))

abbrev pub edge_between : Pair → (source target : Key) → EdgeKey
edge_between pair source target = record { mapping = pair.mapping; object = pair.object; source = source; target = target }

-- over source objects, the source elements for each, target objects, and the target elements for each
abbrev pub edges_between : Scene → CheckedEdge → Pair → (sources targets : List ℕ) → List EdgeKey
edges_between s edge pair sources targets =
    flat_map (λ (from : ℕ). flat_map (λ (source : Key).
    flat_map (λ (to : ℕ). map (edge_between pair source) (elements_for s edge.targets to)) targets)
    (elements_for s edge.sources from)) sources

-- what a semantic object declares
unfoldable pub edges_at : Scene → Told → CheckedEdge → Pair → List EdgeKey
edges_at s told edge pair = if passes s told pair then edges_between s edge pair (found_sources told edge pair) (found_targets told pair) else []

-- ---- all edges

abbrev pub edges_with : Scene → Told → ℕ → CheckedEdge → List EdgeKey
edges_with s told n edge = flat_map (λ (o : ℕ). edges_at s told edge (pair_of n o)) (semantic s told n edge)

-- what the mapping of this number declares
unfoldable pub edges_by : Scene → Told → ℕ → List EdgeKey
edges_by s told n = option_map_or (edges_with s told n) (edge_mapping s.spec n) []

-- each edge at its first place alone
unfoldable pub each_once : List EdgeKey → List EdgeKey
each_once [] = []
each_once (e ∷ es) = e ∷ filter (λ (other : EdgeKey). not (same_edge e other)) (each_once es)

-- the declared edges, by mapping in order
unfoldable pub edges : Scene → Told → List EdgeKey
edges s told = each_once (flat_map (edges_by s told) (numbers (length s.spec.1.mappings)))

-- ---- the units that are asked

abbrev pub precondition_at : Scene → Pair → List Unit
precondition_at s pair = if is_conditional s.spec pair.mapping then EdgePrecondition pair ∷ [] else []

abbrev pub source_finder : CheckedEdge → Pair → List Unit
source_finder edge pair = if is_element_based edge then Source pair ∷ [] else []

abbrev pub finders : CheckedEdge → Pair → List Unit
finders edge pair = source_finder edge pair ++ Target pair ∷ []

-- the units of a semantic object: its precondition, and then its finders where that is true
unfoldable pub units_at : Scene → Told → CheckedEdge → Pair → List Unit
units_at s told edge pair = precondition_at s pair ++ (if passes s told pair then finders edge pair else [])

abbrev pub candidates_at : ℕ → CheckedEdge → List Unit
candidates_at n edge = if is_element_based edge then EdgeCandidates n ∷ [] else []

abbrev pub units_with : Scene → Told → ℕ → CheckedEdge → List Unit
units_with s told n edge = candidates_at n edge ++ flat_map (λ (o : ℕ). units_at s told edge (pair_of n o)) (semantic s told n edge)

-- the units of the mapping of this number: its candidates, and then those of each semantic object
unfoldable pub units_by : Scene → Told → ℕ → List Unit
units_by s told n = option_map_or (units_with s told n) (edge_mapping s.spec n) []

-- the units of all edges, by mapping in order
unfoldable pub edge_units : Scene → Told → List Unit
edge_units s told = flat_map (units_by s told) (numbers (length s.spec.1.mappings))
