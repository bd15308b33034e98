-- The elements that a viewpoint declares over answers, in order, and the units that are asked for them.
use Rattle.std.specs.Prelude.{ℕ, zero, suc, Bool, true, not, is_some, nat_le, ◌&&◌, ◌||◌, List, [], ◌∷◌, ◌++◌, length, map, filter, Option, Some, None, if◌then◌else◌}
use Rattle.std.specs.Option.{option_map_or}
use Rattle.std.specs.List.{flat_map, list_any}
use Rattle.wb_base.specs.Options.{◌>>=◌}
use Rattle.wb_store.specs.Contents.{Contents}
use Rattle.wb_validity.specs.Valid.{conforms_to}
use Rattle.wb_diagram.specs.declared.keys.Key.{Key}
use Rattle.wb_diagram.specs.declared.keys.Pair.{Pair}
use Rattle.wb_diagram.specs.declared.units.Unit.{Unit}
use Rattle.wb_diagram.specs.declared.units.Unit.TheVariants.{Candidates, Precondition}
use Rattle.wb_spec_check.specs.Checked.{Specification}
use Rattle.wb_spec_check.specs.Units.{last_pair, mapping_of, precondition_of}
use Rattle.wb_spec_check.specs.declared.checked_mappings.CheckedForm.{CheckedForm}
use Rattle.wb_spec_check.specs.declared.checked_mappings.CheckedForm.TheVariants.{Node as NodeForm, Edge as EdgeForm}
use Rattle.wb_spec_check.specs.declared.checked_mappings.CheckedMapping.{CheckedMapping}
use Rattle.wb_spec_check.specs.declared.checked_mappings.CheckedNode.{CheckedNode}
use Rattle.wb_answers.specs.Meanings.{is_true, objects_of}
use Rattle.wb_answers.specs.SameKeys.{among, same_pair}
use Rattle.wb_answers.specs.Seen.{Told}

-- a model under a viewpoint, with the test that says which keys are marked shown
pub record Scene : Type 0 where
  pub spec : Specification
  pub model : Contents
  pub marked : Key → Bool

-- the same where these keys are marked shown
abbrev pub scene_of : Specification → Contents → (shown : List Key) → Scene
scene_of spec m shown = record { spec = spec; model = m; marked = among shown }

-- ---- mappings

abbrev pub node_in : CheckedForm → Option CheckedNode
node_in (NodeForm node) = Some node
node_in (EdgeForm edge) = None

-- the mapping to nodes, containers, lists or borders of this number
unfoldable pub node_mapping : Specification → ℕ → Option CheckedNode
node_mapping spec n = mapping_of spec n >>= (λ (mapping : CheckedMapping). node_in mapping.form)

-- has the mapping of this number a precondition?
unfoldable pub is_conditional : Specification → ℕ → Bool
is_conditional spec n = is_some (precondition_of spec n)

-- what may stand in an element: the children of its mapping, and then its borders
abbrev pub mappings_inside : CheckedNode → List ℕ
mappings_inside node = node.children ++ node.borders

-- the mappings of what may stand directly under a path, which is that of an element, or empty for the diagram
unfoldable pub child_mappings : Specification → List Pair → List ℕ
child_mappings spec path =
    option_map_or (λ (own : Pair). option_map_or mappings_inside (node_mapping spec own.mapping) []) (last_pair path) spec.1.top

-- ---- candidates

abbrev pub pair_of : ℕ → ℕ → Pair
pair_of n o = record { mapping = n; object = o }

-- the key of an object of a mapping under a path
abbrev pub child : List Pair → ℕ → ℕ → Key
child path n o = record { pairs = path ++ pair_of n o ∷ [] }

-- a pair under a path is cut where it stands in the path, or the path has 32 pairs already
abbrev pub is_cut : List Pair → Pair → Bool
is_cut path pair = list_any (same_pair pair) path || nat_le 32 (length path)

-- an object can stand there where it is live, of the mapping's class, and not cut
abbrev pub fits : Scene → List Pair → ℕ → CheckedNode → ℕ → Bool
fits s path n node o = conforms_to s.model node.objects.domain o && not (is_cut path (pair_of n o))

-- the keys of those of the objects that can stand there
abbrev pub fitting : Scene → List Pair → ℕ → CheckedNode → List ℕ → List Key
fitting s path n node objects = map (child path n) (filter (fits s path n node) objects)

abbrev pub parent_of : List Pair → Option Key
parent_of [] = None
parent_of (pair ∷ pairs) = Some (record { pairs = pair ∷ pairs })

-- the unit of the candidates of a mapping under a path
abbrev pub candidates_at : List Pair → ℕ → Unit
candidates_at path n = Candidates n (parent_of path)

-- the keys of the candidates of a mapping under a path, each object at its first place
unfoldable pub candidates_by : Scene → Told → List Pair → ℕ → CheckedNode → List Key
candidates_by s told path n node = fitting s path n node (objects_of (told (candidates_at path n)))

-- ---- which of them are declared

-- the unit of the precondition, if the mapping has one
abbrev pub precondition_at : Scene → ℕ → Key → List Unit
precondition_at s n key = if is_conditional s.spec n then Precondition key ∷ [] else []

-- the precondition is true, if there is one
abbrev pub passes : Scene → Told → ℕ → Key → Bool
passes s told n key = if is_conditional s.spec n then is_true (told (Precondition key)) else true

-- in an unsynchronised mapping an element must be marked shown
abbrev pub is_shown : Scene → CheckedNode → Key → Bool
is_shown s node key = node.synchronised || s.marked key

abbrev pub is_declared : Scene → Told → ℕ → CheckedNode → Key → Bool
is_declared s told n node key = passes s told n key && is_shown s node key

abbrev pub children_with : Scene → Told → List Pair → ℕ → CheckedNode → List Key
children_with s told path n node = filter (is_declared s told n node) (candidates_by s told path n node)

-- what a mapping declares directly under a path
unfoldable pub children_by : Scene → Told → List Pair → ℕ → List Key
children_by s told path n = option_map_or (children_with s told path n) (node_mapping s.spec n) []

-- what is declared directly under a path, by mapping in order
unfoldable pub children : Scene → Told → List Pair → List Key
children s told path = flat_map (children_by s told path) (child_mappings s.spec path)

-- what is declared under a path, each element before what is declared in it, so many levels deep
unfoldable pub below : ℕ → Scene → Told → List Pair → List Key
below zero s told path = []
below (suc levels) s told path = flat_map (λ (key : Key). key ∷ below levels s told key.pairs) (children s told path)

-- the declared elements, parents before their children; a key has at most 32 pairs
unfoldable pub nodes : Scene → Told → List Key
nodes s told = below 32 s told []

-- ---- the units that are asked

abbrev pub units_with : Scene → Told → List Pair → ℕ → CheckedNode → List Unit
units_with s told path n node = candidates_at path n ∷ flat_map (precondition_at s n) (candidates_by s told path n node)

-- the units of a mapping under a path: its candidates, and then their preconditions
unfoldable pub units_by : Scene → Told → List Pair → ℕ → List Unit
units_by s told path n = option_map_or (units_with s told path n) (node_mapping s.spec n) []

-- the units directly under a path, by mapping in order
unfoldable pub units_under : Scene → Told → List Pair → List Unit
units_under s told path = flat_map (units_by s told path) (child_mappings s.spec path)

-- the units of all elements: those under the diagram, and then those under each declared element in order
unfoldable pub node_units : Scene → Told → List Unit
node_units s told = units_under s told [] ++ flat_map (λ (key : Key). units_under s told key.pairs) (nodes s told)
