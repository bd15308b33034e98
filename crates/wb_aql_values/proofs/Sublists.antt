-- Lists that leave out items of a list.
use Rattle.std.proofs.Common.{◌≡◌, ◌≤◌, Bool, true, false, not, ◌&&◌, ◌||◌, List, [], ◌∷◌, ◌++◌, length, refl, sym, arith}
use Rattle.std.proofs.lemmas.Bool.{false≢true}
use Rattle.std.specs.List.{list_all, list_any}
use Rattle.wb_metamodel.specs.Metamodel.{Metamodel}
use Rattle.wb_store.specs.declared.scalars.Scalar.{Scalar}
use Rattle.wb_store.specs.Scalars.{same}
use Rattle.wb_validity.specs.Valid.{differ}
use Rattle.wb_aql_values.specs.declared.values.Value.{Value}
use Rattle.wb_aql_values.specs.declared.values.Value.TheVariants.{Null, One, Sequence, OrderedSet}
use Rattle.wb_aql_values.specs.Values.{members, sort_of, collection}
use Rattle.wb_aql_values.specs.Bounds.{AreBounded, IsBounded, is_bounded}

-- ---- tests

pub and_both : (a b : Bool) → (a && b) ≡ true → (a ≡ true) × (b ≡ true)
and_both true b h = (refl, h)
and_both false b h = (h, absurd (false≢true h))

pub both_true : (a b : Bool) → a ≡ true → b ≡ true → (a && b) ≡ true
both_true true b e h = h
both_true false b e h = e

pub or_neither : (a b : Bool) → (a || b) ≡ false → (a ≡ false) × (b ≡ false)
or_neither false b h = (refl, h)
or_neither true b h = (h, absurd (false≢true (sym h)))

pub both_false : (a b : Bool) → a ≡ false → b ≡ false → (a || b) ≡ false
both_false false b e h = h
both_false true b e h = e

pub not_true : (b : Bool) → not b ≡ true → b ≡ false
not_true true h = sym h
not_true false h = refl

pub not_false : (b : Bool) → b ≡ false → not b ≡ true
not_false true h = sym h
not_false false h = refl

-- ---- sublists

-- the items of the one list are among those of the other, in their order
pub data IsSublist {A : Type 0} : List A → List A → Type 0 where
  none : IsSublist [] []
  kept : {x : A} {xs ys : List A} → IsSublist xs ys → IsSublist (x ∷ xs) (x ∷ ys)
  left_out : {x : A} {xs ys : List A} → IsSublist xs ys → IsSublist xs (x ∷ ys)

module _ {A : Type 0} where
  pub one_kept : {xs ys : List A} → IsSublist xs ys → (x : A) → IsSublist (xs ++ x ∷ []) (ys ++ x ∷ [])
  one_kept none x = kept none
  one_kept (kept h) x = kept (one_kept h x)
  one_kept (left_out h) x = left_out (one_kept h x)

  pub one_left_out : {xs ys : List A} → IsSublist xs ys → (x : A) → IsSublist xs (ys ++ x ∷ [])
  one_left_out none x = left_out none
  one_left_out (kept h) x = kept (one_left_out h x)
  one_left_out (left_out h) x = left_out (one_left_out h x)

  pub not_longer : {xs ys : List A} → IsSublist xs ys → length xs ≤ length ys
  not_longer none = omega arith
  not_longer (kept h) = let e = not_longer h in omega arith
  not_longer (left_out h) = let e = not_longer h in omega arith

  pub all_of_sublist : {xs ys : List A} (test : A → Bool) → IsSublist xs ys → list_all test ys ≡ true → list_all test xs ≡ true
  all_of_sublist test none h = refl
  all_of_sublist test (kept {x} s) h = let e = and_both _ _ h in both_true _ _ e.0 (all_of_sublist test s e.1)
  all_of_sublist test (left_out s) h = all_of_sublist test s (and_both _ _ h).1

  pub none_of_sublist : {xs ys : List A} (test : A → Bool) → IsSublist xs ys → list_any test ys ≡ false → list_any test xs ≡ false
  none_of_sublist test none h = refl
  none_of_sublist test (kept s) h = let e = or_neither _ _ h in both_false _ _ e.0 (none_of_sublist test s e.1)
  none_of_sublist test (left_out s) h = none_of_sublist test s (or_neither _ _ h).1

pub differ_in_sublist : {xs ys : List Scalar} → IsSublist xs ys → differ ys ≡ true → differ xs ≡ true
differ_in_sublist none h = refl
differ_in_sublist (kept {x} s) h =
    let e = and_both _ _ h in
    both_true _ _ (not_false _ (none_of_sublist (λ other. same other x) s (not_true _ e.0))) (differ_in_sublist s e.1)
differ_in_sublist (left_out s) h = differ_in_sublist s (and_both _ _ h).1

pub bounded_sublist : (mm : Metamodel) {xs ys : List Scalar} → IsSublist xs ys → AreBounded mm ys → AreBounded mm xs
bounded_sublist mm s h = let e = not_longer s in let f = h.not_long in record { not_long = omega arith; bounded = all_of_sublist (is_bounded mm) s h.bounded }

-- what is left of a collection is within the bounds of its sort
pub bounded_kept : (mm : Metamodel) (v : Value) (xs : List Scalar) → IsSublist xs (members v) → IsBounded mm v → IsBounded mm (collection (sort_of v) xs)
bounded_kept mm Null xs s h = (bounded_sublist mm s (record { not_long = omega arith; bounded = refl }), differ_in_sublist s refl)
bounded_kept mm (One x) xs s h = (bounded_sublist mm s (record { not_long = omega arith; bounded = both_true _ _ h refl }), differ_in_sublist s refl)
bounded_kept mm (Sequence ys) xs s h = bounded_sublist mm s h
bounded_kept mm (OrderedSet ys) xs s h = (bounded_sublist mm s h.0, differ_in_sublist s h.1)
