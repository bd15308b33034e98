-- Lists of numbers.
use Rattle.std.specs.Prelude.{ℕ, nat_eq, not, List, [], ◌∷◌, filter}
use Rattle.std.specs.List.{range_with_len}

-- the numbers below n, ascending
abbrev pub numbers : ℕ → List ℕ
numbers n = range_with_len 0 n

-- each number at its first place alone
abbrev pub first_places : List ℕ → List ℕ
first_places [] = []
first_places (x ∷ xs) = x ∷ filter (λ y. not (nat_eq x y)) (first_places xs)
