-- Lists with one item more or less, where this test says which items are one.
use Rattle.std.specs.Prelude.{◌≡◌, Bool, not, if◌then◌else◌, List, [], ◌∷◌, ◌++◌, filter}
use Rattle.std.specs.List.{list_any}

-- the item last, unless it is there
abbrev pub with_one : {A : Type 0} → (same : A → A → Bool) → A → List A → List A
with_one same x xs = if list_any (same x) xs then xs else xs ++ x ∷ []

-- all but the item
abbrev pub without_one : {A : Type 0} → (same : A → A → Bool) → A → List A → List A
without_one same x xs = filter (λ y. not (same x y)) xs

-- the same items are among both lists
abbrev pub SameItems : {A : Type 0} → (same : A → A → Bool) → (xs ys : List A) → Type 0
SameItems {A} same xs ys = (x : A) → list_any (same x) ys ≡ list_any (same x) xs
