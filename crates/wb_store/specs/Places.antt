-- Where a number stands in a list that rises.
use Rattle.std.specs.Prelude.{◌≡◌, ◌≢◌, ℕ, ◌<◌, nat_eq, nat_lt, List, [], ◌∷◌, length, Bool, true, not, ◌&&◌, slice_index_or, Option, Some, None}
use Rattle.std.specs.List.{list_all, list_any, find}

-- do the numbers of a list strictly rise?
abbrev pub rises : {A : Type 0} → (A → ℕ) → List A → Bool
rises number [] = true
rises number (x ∷ xs) = list_all (λ y. nat_lt (number x) (number y)) xs && rises number xs

-- the first that has the number
abbrev pub numbered : {A : Type 0} → (A → ℕ) → ℕ → List A → Option A
numbered number n xs = find (λ x. nat_eq n (number x)) xs

-- the place of the one that has the number, or none where there is none
abbrev pub IsPlaceOf : {A : Type 0} → (A → ℕ) → List A → ℕ → Option ℕ → Type 0
IsPlaceOf {A} number xs n None = (k : ℕ) (d : A) → k < length xs → number (slice_index_or xs k d) ≢ n
IsPlaceOf {A} number xs n (Some i) = (i < length xs) × ((d : A) → number (slice_index_or xs i d) ≡ n)

-- does each number of a list stand there once?
abbrev pub once : List ℕ → Bool
once [] = true
once (o ∷ os) = not (list_any (λ other. nat_eq other o) os) && once os
