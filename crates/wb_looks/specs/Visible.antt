-- Which elements and edges are visible.
use Rattle.std.specs.Prelude.{ℕ, zero, suc, ◌≤◌, Bool, true, false, not, ◌&&◌, ◌||◌, nat_eq, List, length, Contains}
use Rattle.std.specs.Option.{option_map_or}
use Rattle.std.specs.List.{list_any}
use Rattle.wb_base.specs.Options.{◌>>=◌}
use Rattle.wb_diagram.specs.declared.keys.AnyKey.{AnyKey}
use Rattle.wb_diagram.specs.declared.keys.AnyKey.TheVariants.{Node, Edge}
use Rattle.wb_diagram.specs.declared.keys.Key.{Key}
use Rattle.wb_diagram.specs.declared.keys.Pair.{Pair}
use Rattle.wb_spec_check.specs.Checked.{Specification}
use Rattle.wb_spec_check.specs.Units.{mapping_of, mapping_of_key}
use Rattle.wb_spec_check.specs.declared.checked_mappings.CheckedMapping.{CheckedMapping}
use Rattle.wb_answers.specs.Environments.{front}
use Rattle.wb_answers.specs.SameKeys.{same_any}
use Rattle.wb_answers.specs.Seen.{Told}
use Rattle.wb_looks.specs.Filters.{hides}
use Rattle.wb_looks.specs.declared.switches.Switches.{Switches as Lent}

-- what a user switches: the active layers beside the first and the active filters, by their numbers, and the keys that are marked hidden
pub record Switches : Type 0 where
  pub layers : List ℕ
  pub filters : List ℕ
  pub hidden : List AnyKey

abbrev pub switches_of : Lent → Switches
switches_of s = record { layers = s.layers.now; filters = s.filters.now; hidden = s.hidden.now }

-- ---- a key by itself

-- the first layer is always active
abbrev pub is_active : (layers : List ℕ) → ℕ → Bool
is_active layers layer = nat_eq layer 0 || list_any (nat_eq layer) layers

-- is the layer of the key's mapping active?
unfoldable pub is_on_active_layer : Specification → Switches → AnyKey → Bool
is_on_active_layer spec s key = option_map_or (λ (it : CheckedMapping). is_active s.layers it.layer) (mapping_of_key key >>= mapping_of spec) false

-- does an active filter hide the key?
abbrev pub is_filtered_out : Specification → Told → Switches → AnyKey → Bool
is_filtered_out spec told s key = list_any (λ (f : ℕ). hides spec told f key) s.filters

-- is the key marked hidden?
abbrev pub is_hidden : Switches → AnyKey → Bool
is_hidden s key = list_any (same_any key) s.hidden

-- its layer is active, no active filter hides it, and it has no hidden mark
unfoldable pub is_clear : Specification → Told → Switches → AnyKey → Bool
is_clear spec told s key = is_on_active_layer spec s key && not (is_filtered_out spec told s key) && not (is_hidden s key)

-- ---- with what it stands on, where this test says which keys are clear

abbrev pub node_of : List Pair → AnyKey
node_of pairs = Node (record { pairs = pairs })

-- the diagram is visible, and so is an element, with so many pairs, that is clear and whose parent is visible
unfoldable pub is_path_visible : (clear : AnyKey → Bool) → ℕ → List Pair → Bool
is_path_visible clear zero path = true
is_path_visible clear (suc n) path = clear (node_of path) && is_path_visible clear n (front path)

abbrev pub is_node_visible : (clear : AnyKey → Bool) → Key → Bool
is_node_visible clear key = is_path_visible clear (length key.pairs) key.pairs

-- an edge is visible where it is clear and both its ends are visible
unfoldable pub is_visible_by : (clear : AnyKey → Bool) → AnyKey → Bool
is_visible_by clear (Node key) = is_node_visible clear key
is_visible_by clear (Edge key) = clear (Edge key) && is_node_visible clear key.source && is_node_visible clear key.target

-- the element or edge of the key is visible
abbrev pub is_visible : Specification → Told → Switches → AnyKey → Bool
is_visible spec told s key = is_visible_by (is_clear spec told s) key

-- what a key stands on is among these keys: the parent of an element, unless that is the diagram, and both ends of an edge
abbrev pub HasGround : List AnyKey → AnyKey → Type 0
HasGround keys (Node key) = 2 ≤ length key.pairs → Contains keys (node_of (front key.pairs))
HasGround keys (Edge key) = Contains keys (Node key.source) × Contains keys (Node key.target)
