-- What a command names in a viewpoint, and what it may be asked for.
use Rattle.std.specs.Prelude.{ℕ, zero, suc, Bool, true, false, not, ◌&&◌, nat_eq, List, position, filter, Option, Some, None}
use Rattle.std.specs.Option.{option_map_or}
use Rattle.std.specs.List.{list_any}
use Rattle.wb_base.specs.Names.{same_name}
use Rattle.wb_base.specs.Options.{◌>>=◌}
use Rattle.wb_diagram.specs.declared.keys.AnyKey.{AnyKey}
use Rattle.wb_diagram.specs.declared.keys.Key.{Key}
use Rattle.wb_diagram.specs.declared.keys.Pair.{Pair}
use Rattle.wb_viewpoint.specs.declared.content.Content.{Content}
use Rattle.wb_viewpoint.specs.declared.filters.Filter.{Filter}
use Rattle.wb_viewpoint.specs.declared.nodes.NodeKind.{NodeKind}
use Rattle.wb_viewpoint.specs.declared.nodes.NodeKind.TheVariants as kind
use Rattle.wb_spec_check.specs.Checked.{Specification}
use Rattle.wb_spec_check.specs.Findings.{layer_named}
use Rattle.wb_spec_check.specs.Findings as found
use Rattle.wb_spec_check.specs.Units.{last_pair, mapping_of_key}
use Rattle.wb_spec_check.specs.declared.checked_mappings.CheckedNode.{CheckedNode}
use Rattle.wb_answers.specs.Environments.{front}
use Rattle.wb_nodes.specs.Nodes.{node_mapping}

-- ---- names

-- the first layer is always active, and no command switches it
abbrev pub beside_first : ℕ → Option ℕ
beside_first zero = None
beside_first (suc n) = Some (suc n)

-- the number of the layer of a name, unless it is the first
unfoldable pub additional_layer_named : Specification → List ℕ → Option ℕ
additional_layer_named spec name = layer_named spec.0 name >>= beside_first

-- the number of the filter of a name
unfoldable pub filter_named : Specification → List ℕ → Option ℕ
filter_named spec name = position (λ (it : Filter). same_name it.name name) spec.0.filters

-- the number of the mapping of a name
unfoldable pub mapping_named : Specification → List ℕ → Option ℕ
mapping_named spec name = found.mapping_named spec.0 name

-- ---- what may be shown by hand

abbrev pub is_by_hand : CheckedNode → Bool
is_by_hand node = not node.synchronised

-- is it a mapping to elements that shows those candidates alone that were explicitly shown?
unfoldable pub is_unsynchronised : Specification → ℕ → Bool
is_unsynchronised spec n = option_map_or is_by_hand (node_mapping spec n) false

-- ---- what can be placed

abbrev pub is_list : NodeKind → Bool
is_list kind.List = true
is_list kind.Node = false
is_list kind.Container = false
is_list kind.Border = false

-- does a list have elements of this mapping as its children?
abbrev pub lists : (child : ℕ) → CheckedNode → Bool
lists child node = is_list node.kind && list_any (nat_eq child) node.children

abbrev pub is_listed_by : Specification → (child parent : Pair) → Bool
is_listed_by spec child parent = option_map_or (lists child.mapping) (node_mapping spec parent.mapping) false

abbrev pub is_listed_in : Specification → List Pair → Pair → Bool
is_listed_in spec path child = option_map_or (is_listed_by spec child) (last_pair (front path)) false

-- is the element one that a list has by its children?
abbrev pub is_list_item : Specification → List Pair → Bool
is_list_item spec path = option_map_or (is_listed_in spec path) (last_pair path) false

-- an element can be placed, unless a list has it by its children
unfoldable pub is_placeable : Specification → Key → Bool
is_placeable spec key = not (is_list_item spec key.pairs)

-- those of the elements that can be placed
abbrev pub placeable : Specification → List Key → List Key
placeable spec keys = filter (is_placeable spec) keys
