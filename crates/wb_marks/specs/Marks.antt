-- What becomes of marks.
use Rattle.std.specs.Prelude.{◌≡◌, ℕ, Bool, true, nat_eq, if◌then◌else◌, List, [], filter, IsSome}
use Rattle.std.specs.FinMap as map
use Rattle.std.specs.List.{list_any, list_all, IsDistinct}
use Rattle.wb_diagram.specs.declared.keys.AnyKey.{AnyKey}
use Rattle.wb_diagram.specs.declared.keys.AnyKey.TheVariants.{Node, Edge}
use Rattle.wb_diagram.specs.declared.keys.EdgeKey.{EdgeKey}
use Rattle.wb_diagram.specs.declared.keys.Key.{Key}
use Rattle.wb_layout.specs.Grid as grid
use Rattle.wb_layout.specs.Positions as positions
use Rattle.wb_layout.specs.Positions.{Position}
use Rattle.wb_answers.specs.SameKeys.{among, same_any, same_edge, same_key}
use Rattle.wb_marks.specs.Ones.{with_one, without_one}
use Rattle.wb_marks.specs.declared.marks.Marks.{Marks}

-- nothing is marked or placed, these layers are active, and no filter is
abbrev pub unmarked : (layers : List ℕ) → Marks
unmarked layers = record { shown = []; hidden = []; layout = map.empty; layers = layers; filters = [] }

-- ---- marks of keys

abbrev pub shown_too : Key → Marks → Marks
shown_too key m = record m { shown = with_one same_key key m.shown }

abbrev pub unshown : Key → Marks → Marks
unshown key m = record m { shown = without_one same_key key m.shown }

abbrev pub hidden_too : AnyKey → Marks → Marks
hidden_too key m = record m { hidden = with_one same_any key m.hidden }

abbrev pub revealed : AnyKey → Marks → Marks
revealed key m = record m { hidden = without_one same_any key m.hidden }

-- ---- places

abbrev pub placed : Key → Position → Marks → Marks
placed key at m = record m { layout = positions.placed m.layout key at }

-- the elements of these keys are laid in the grids of their parents
abbrev pub arranged : List Key → Marks → Marks
arranged keys m = record m { layout = grid.arranged m.layout keys }

-- ---- switches

-- the numbers of what is active, once this one is switched
abbrev pub switched : (number : ℕ) → (active : Bool) → List ℕ → List ℕ
switched number active numbers = if active then with_one nat_eq number numbers else without_one nat_eq number numbers

abbrev pub with_layer : (number : ℕ) → (active : Bool) → Marks → Marks
with_layer number active m = record m { layers = switched number active m.layers }

abbrev pub with_filter : (number : ℕ) → (active : Bool) → Marks → Marks
with_filter number active m = record m { filters = switched number active m.filters }

-- ---- what is declared

-- is the key one of these elements' or edges'?
abbrev pub is_declared : (nodes : List Key) → (edges : List EdgeKey) → AnyKey → Bool
is_declared nodes edges (Node key) = among nodes key
is_declared nodes edges (Edge key) = list_any (same_edge key) edges

-- only what these keys name keeps its marks and its place; what is switched stays
abbrev pub settled : (nodes : List Key) → (edges : List EdgeKey) → Marks → Marks
settled nodes edges m = record {
  shown = filter (among nodes) m.shown;
  hidden = filter (is_declared nodes edges) m.hidden;
  layout = positions.restricted m.layout nodes;
  layers = m.layers;
  filters = m.filters;
}

-- ---- what may be true of marks

-- what is marked or placed is one of these elements or edges
pub record AreOf (nodes : List Key) (edges : List EdgeKey) (m : Marks) : Type 0 where
  pub shown : list_all (among nodes) m.shown ≡ true
  pub hidden : list_all (is_declared nodes edges) m.hidden ≡ true
  pub placed : (key : Key) → IsSome (map.get m.layout key) → among nodes key ≡ true

-- nothing is marked or switched twice
pub record AreDistinct (m : Marks) : Type 0 where
  pub shown : IsDistinct same_key m.shown
  pub hidden : IsDistinct same_any m.hidden
  pub layers : IsDistinct nat_eq m.layers
  pub filters : IsDistinct nat_eq m.filters
