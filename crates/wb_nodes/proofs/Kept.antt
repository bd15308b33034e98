-- The members that pass a test, one by one.
use Rattle.std.proofs.Common.{◌≡◌, Bool, true, false, List, [], ◌∷◌, ◌++◌, filter, cond, refl, ap, if◌then◌else◌}
use Rattle.std.specs.List.{flat_map}

pub one_by_one : {X : Type 0} (p : X → Bool) (xs : List X) → flat_map (λ x. if p x then x ∷ [] else []) xs ≡ filter p xs
one_by_one p [] = refl
one_by_one p (x ∷ xs) = by (p x) (one_by_one p xs)
  where
    by : (b : Bool) → flat_map (λ y. if p y then y ∷ [] else []) xs ≡ filter p xs → ((if b then x ∷ [] else []) ++ flat_map (λ y. if p y then y ∷ [] else []) xs) ≡ cond b (x ∷ filter p xs) (filter p xs)
    by true rest = ap (λ ys. x ∷ ys) rest
    by false rest = rest
