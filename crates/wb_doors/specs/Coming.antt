-- What is to come at a door in memory, as lists of pieces.
use Rattle.std.specs.Prelude.{◌≡◌, ℕ, Bool, true, false, List, [], ◌∷◌}
use Rattle.wb_outer.specs.Pieces.{filled}

-- the pieces that are left of the connection at hand, and those of each one that waits
pub record ComingState : Type 0 where
  pub left : List (List ℕ)
  pub waiting : List (List (List ℕ))

-- the first connection that waits comes to hand, or there is none
abbrev pub TakesFirst : ComingState → ComingState → Bool → Type 0
TakesFirst old new true = (pieces : List (List ℕ)) × (old.waiting ≡ pieces ∷ new.waiting) × (new.left ≡ filled pieces)
TakesFirst old new false = (old.waiting ≡ []) × (new.waiting ≡ []) × (new.left ≡ [])
