-- Positions of elements, by their keys.
use Rattle.std.specs.Prelude.{◌≤◌, ℤ, nat_abs, List}
use Rattle.std.specs.FinMap as map
use Rattle.std.specs.FinMap.{FinMap}
use Rattle.wb_diagram.specs.declared.keys.Key.{Key}
use Rattle.wb_layout.specs.Orders.{key_cmp, is_key}

-- right and down from the parent
abbrev pub Position : Type 0
Position = ℤ × ℤ

-- a finite map from keys to positions
abbrev pub Positions : Type 0
Positions = FinMap key_cmp Position

-- both numbers are from -1,000,000 to 1,000,000
abbrev pub IsInRange : Position → Type 0
IsInRange at = (nat_abs at.0 ≤ 1000000) × (nat_abs at.1 ≤ 1000000)

-- the element of this key is put there, and the others stay
abbrev pub placed : Positions → Key → Position → Positions
placed positions key at = map.insert positions key at

-- the positions of these keys alone
abbrev pub restricted : Positions → List Key → Positions
restricted positions keys = map.retain_keys positions (is_key keys)
