-- What is declared over answers, how it looks, and the units that are asked for it.
use Rattle.std.specs.Prelude.{◌≡◌, ℕ, ◌+◌, Bool, List, ◌++◌, length, map, flat_map}
use Rattle.wb_metamodel.specs.Metamodel.{Metamodel}
use Rattle.wb_diagram.specs.declared.diagrams.Look.{Look}
use Rattle.wb_diagram.specs.declared.keys.AnyKey.{AnyKey}
use Rattle.wb_diagram.specs.declared.keys.AnyKey.TheVariants.{Node, Edge}
use Rattle.wb_diagram.specs.declared.keys.EdgeKey.{EdgeKey}
use Rattle.wb_diagram.specs.declared.keys.Key.{Key}
use Rattle.wb_diagram.specs.declared.units.Unit.{Unit}
use Rattle.wb_spec_check.specs.Checked.{Specification}
use Rattle.wb_answers.specs.Seen.{Told}
use Rattle.wb_nodes.specs.Nodes.{Scene, nodes, node_units}
use Rattle.wb_edges.specs.Edges.{edges, edge_units, scene_of as among}
use Rattle.wb_looks.specs.Filters.{filtered, filter_units}
use Rattle.wb_looks.specs.Looks.{look, look_units}

-- ---- what is declared

-- the edges between the declared elements
abbrev pub edges_of : Scene → Told → List EdgeKey
edges_of s told = edges (among s.spec s.model (nodes s told)) told

-- elements, and then edges
abbrev pub all_keys : List Key → List EdgeKey → List AnyKey
all_keys nodes edges = map Node nodes ++ map Edge edges

abbrev pub keys_of : Scene → Told → List AnyKey
keys_of s told = all_keys (nodes s told) (edges_of s told)

-- how many elements and edges are declared
abbrev pub size_of : Scene → Told → ℕ
size_of s told = length (nodes s told) + length (edges_of s told)

-- ---- how it looks

-- the looks, by key
abbrev pub looks_at : Specification → Metamodel → Told → List AnyKey → List Look
looks_at spec mm told keys = map (look spec mm told) keys

abbrev pub looks_of : Scene → Told → List Look
looks_of s told = looks_at s.spec s.model.metamodel told (keys_of s told)

-- by filter, and then by key: does the filter hide the key where it is active?
abbrev pub filtered_of : Scene → Told → List (List Bool)
filtered_of s told = filtered s.spec told (keys_of s told)

-- ---- the units

abbrev pub edge_units_of : Scene → Told → List Unit
edge_units_of s told = edge_units (among s.spec s.model (nodes s told)) told

-- the units of the looks of these keys, and then those of filters at them
abbrev pub units_at : Specification → Told → List AnyKey → List Unit
units_at spec told keys = flat_map (look_units spec told) keys ++ filter_units spec keys

-- those that elements are declared by, those that edges are declared by, those of looks, and those of filters
unfoldable pub units_of : Scene → Told → List Unit
units_of s told = node_units s told ++ (edge_units_of s told ++ units_at s.spec told (keys_of s told))
