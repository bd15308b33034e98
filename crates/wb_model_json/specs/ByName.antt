-- Members by their names.
use Rattle.std.specs.Prelude.{ℕ, List, [], ◌∷◌}
use Rattle.std.specs.Ordering.{nat_cmp, match_ordering}
use Rattle.std.specs.Cmp.Lexicographic.{slice_cmp}

-- the members with this one at its name, by the bytes of the names
abbrev pub put_named : {A : Type 0} → List ℕ × A → List (List ℕ × A) → List (List ℕ × A)
put_named m [] = m ∷ []
put_named m (n ∷ ns) = match_ordering (slice_cmp nat_cmp m.0 n.0) (m ∷ n ∷ ns) ((n.0, m.1) ∷ ns) (n ∷ put_named m ns)

abbrev pub by_name_onto : {A : Type 0} → List (List ℕ × A) → List (List ℕ × A) → List (List ℕ × A)
by_name_onto [] there = there
by_name_onto (m ∷ ms) there = by_name_onto ms (put_named m there)

-- the members, ascending by the bytes of their names
abbrev pub by_name : {A : Type 0} → List (List ℕ × A) → List (List ℕ × A)
by_name ms = by_name_onto ms []
