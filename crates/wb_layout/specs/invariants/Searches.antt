-- What a search in an ascending list of entries comes to.
use Rattle.std.specs.Prelude.{◌≡◌, ℕ, ◌≤◌, Bool, true, false, List, [], ◌∷◌, length, take, drop, slice_get, Some}
use Rattle.std.specs.List.{AllByRecursion}
use Rattle.std.specs.Ordering.{is_lt}
use Rattle.wb_diagram.specs.declared.keys.Key.{Key}
use Rattle.wb_layout.specs.Orders.{key_cmp, same_key}
use Rattle.wb_layout.specs.Positions.{Position}

-- the first of the entries does not come before a key
abbrev pub IsNotBefore : Key → List (Key × Position) → Type 0
IsNotBefore key [] = Unit {0}
IsNotBefore key (e ∷ es) = is_lt (key_cmp e.0 key) ≡ false

-- so many entries come before a key
pub record IsPlace (key : Key) (entries : List (Key × Position)) (i : ℕ) : Type 0 where
  pub within : i ≤ length entries
  pub before : AllByRecursion (λ (e : Key × Position). is_lt (key_cmp e.0 key) ≡ true) (take i entries)
  pub behind : IsNotBefore key (drop i entries)

-- is the entry at a place that of the key?
abbrev pub StandsAt : Key → List (Key × Position) → ℕ → Bool → Type 0
StandsAt key entries i true = (e : Key × Position) × ((slice_get entries i ≡ Some e) × (same_key key e.0 ≡ true))
StandsAt key entries i false = (e : Key × Position) → slice_get entries i ≡ Some e → same_key key e.0 ≡ false
