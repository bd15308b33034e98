-- The grid in which the children of each parent are laid.
use Rattle.std.specs.Prelude.{ℕ, ◌*◌, ◌/◌, ◌%◌, pos, List, [], ◌∷◌, length, map}
use Rattle.std.specs.List.{filter}
use Rattle.wb_diagram.specs.declared.keys.Key.{Key}
use Rattle.wb_diagram.specs.Keys.{parent_pairs}
use Rattle.wb_layout.specs.Orders.{same_key}
use Rattle.wb_layout.specs.Positions.{Position, Positions, placed}

-- the key of what an element stands in, which has no pairs where that is the diagram
abbrev pub parent_of : Key → Key
parent_of key = record { pairs = parent_pairs key }

-- those of the keys that stand in this parent
abbrev pub children_of : Key → List Key → List Key
children_of parent keys = filter (λ key. same_key (parent_of key) parent) keys

-- the k-th place from 0: eight in a row, 120 from one to the next, and the rows 80 apart
abbrev pub grid : ℕ → Position
grid k = (pos (120 * (k % 8)), pos (80 * (k / 8)))

-- each item, with those that stand before it
abbrev pub with_earlier : {A : Type 0} → List A → List (List A × A)
with_earlier [] = []
with_earlier (x ∷ xs) = ([], x) ∷ map (λ p. (x ∷ p.0, p.1)) (with_earlier xs)

-- a key goes to the place whose number is that of the earlier keys with its parent
abbrev pub place : List Key × Key → Key × Position
place p = (p.1, grid (length (children_of (parent_of p.1) p.0)))

-- these are put one after the other
abbrev pub placed_all : Positions → List (Key × Position) → Positions
placed_all positions [] = positions
placed_all positions (e ∷ es) = placed_all (placed positions e.0 e.1) es

-- the keys are laid in the grids of their parents, in order, and the other positions stay
unfoldable pub arranged : Positions → List Key → Positions
arranged positions keys = placed_all positions (map place (with_earlier keys))
