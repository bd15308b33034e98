-- What is put together is within its bounds.
use Rattle.std.proofs.Common.{◌≡◌, ◌≤◌, ℕ, Bool, true, false, nat_le, List, [], ◌∷◌, ◌++◌, length, Result, Ok, Err, OnOk, refl, sym, subst, arith, if◌then◌else◌}
use Rattle.std.specs.List.{list_all, list_any}
use Rattle.std.proofs.lemmas.Bool.Decides.{nat_tests}
use Rattle.wb_metamodel.specs.Metamodel.{Metamodel}
use Rattle.wb_store.specs.declared.scalars.Scalar.{Scalar}
use Rattle.wb_store.specs.Scalars.{same}
use Rattle.wb_validity.specs.Valid.{differ}
use Rattle.wb_aql_values.specs.declared.faults.Fault.{Fault}
use Rattle.wb_aql_values.specs.declared.faults.Fault.TheVariants.{TooLong}
use Rattle.wb_aql_values.specs.declared.values.Sort.{Sort}
use Rattle.wb_aql_values.specs.declared.values.Sort.TheVariants as sort
use Rattle.wb_aql_values.specs.declared.values.Value.{Value}
use Rattle.wb_aql_values.specs.declared.values.Value.TheVariants.{Null, One, Sequence, OrderedSet}
use Rattle.wb_aql_values.specs.Values.{members, collection, has, with_member, with_members, short, put}
use Rattle.wb_aql_values.specs.Bounds.{IsBounded, is_bounded}
use Rattle.wb_aql_values.specs.declared.faults.Halt.{Halt}
use Rattle.wb_aql_values.specs.Runs.{Became}
use Rattle.wb_aql_values.proofs.Sublists.{and_both, both_true, or_neither, both_false, not_true, not_false}

pub le_of_test : (m n : ℕ) → nat_le m n ≡ true → m ≤ n
le_of_test m n h = grind (arith, nat_tests)

none_more : {A : Type 0} (test : A → Bool) (xs : List A) (x : A) → list_any test xs ≡ false → test x ≡ false → list_any test (xs ++ x ∷ []) ≡ false
none_more test [] x h e = both_false _ _ e refl
none_more test (y ∷ ys) x h e = let n = or_neither _ _ h in both_false _ _ n.0 (none_more test ys x n.1 e)

-- one more that differs from all
differ_more : (xs : List Scalar) (x : Scalar) → differ xs ≡ true → has xs x ≡ false → differ (xs ++ x ∷ []) ≡ true
differ_more [] x h e = refl
differ_more (y ∷ ys) x h e =
    let a = and_both _ _ h in
    let n = or_neither _ _ e in
    both_true _ _ (not_false _ (none_more (λ other. same other y) ys x (not_true _ a.0) n.0)) (differ_more ys x a.1 n.1)

module _ (mm : Metamodel) where
  -- what holds of the members of a collection of a sort, but for their number
  HasSort : Sort → List Scalar → Type 0
  HasSort sort.Sequence xs = list_all (is_bounded mm) xs ≡ true
  HasSort sort.OrderedSet xs = (list_all (is_bounded mm) xs ≡ true) × (differ xs ≡ true)

  all_more : (xs : List Scalar) (x : Scalar) → list_all (is_bounded mm) xs ≡ true → is_bounded mm x ≡ true → list_all (is_bounded mm) (xs ++ x ∷ []) ≡ true
  all_more [] x h e = both_true _ _ e refl
  all_more (y ∷ ys) x h e = let a = and_both _ _ h in both_true _ _ a.0 (all_more ys x a.1 e)

  with_one : (kind : Sort) (xs : List Scalar) (x : Scalar) → HasSort kind xs → is_bounded mm x ≡ true → HasSort kind (with_member kind xs x)
  unfolding HasSort
  with_one sort.Sequence xs x h e = all_more xs x h e
  with_one sort.OrderedSet xs x h e = one (has xs x) refl
    where
      one : (there : Bool) → has xs x ≡ there → (list_all (is_bounded mm) (if there then xs else xs ++ x ∷ []) ≡ true) × (differ (if there then xs else xs ++ x ∷ []) ≡ true)
      one true f = h
      one false f = (all_more xs x h.0 e, differ_more xs x h.1 f)

  with_more : (kind : Sort) (xs ys : List Scalar) → HasSort kind xs → list_all (is_bounded mm) ys ≡ true → HasSort kind (with_members kind xs ys)
  unfolding with_members
  with_more kind xs [] h e = h
  with_more kind xs (y ∷ ys) h e = let a = and_both _ _ e in with_more kind (with_member kind xs y) ys (with_one kind xs y h a.0) a.1

  -- the members of a value are within their bounds
  pub bounded_members : (v : Value) → IsBounded mm v → list_all (is_bounded mm) (members v) ≡ true
  bounded_members Null h = refl
  bounded_members (One x) h = both_true _ _ h refl
  bounded_members (Sequence xs) h = h.bounded
  bounded_members (OrderedSet xs) h = h.0.bounded

  has_sort : (kind : Sort) (xs : List Scalar) → IsBounded mm (collection kind xs) → HasSort kind xs
  unfolding HasSort
  has_sort sort.Sequence xs h = h.bounded
  has_sort sort.OrderedSet xs h = (h.0.bounded, h.1)

  is_short : (kind : Sort) (xs ys : List Scalar) → HasSort kind xs → short xs ≡ Ok ys → IsBounded mm (collection kind ys)
  unfolding HasSort
  is_short kind xs ys h e = one kind (nat_le (length xs) 65536) refl h e
    where
      one : (kind : Sort) (short_enough : Bool) → nat_le (length xs) 65536 ≡ short_enough → HasSort kind xs → ◌≡◌ {A = Result (List Scalar) Fault} (if short_enough then Ok xs else Err TooLong) (Ok ys) → IsBounded mm (collection kind ys)
      one sort.Sequence true f h e = subst (λ zs. IsBounded mm (collection sort.Sequence zs)) (let g : xs ≡ ys = cc in g) (record { not_long = le_of_test _ _ f; bounded = h })
      one sort.OrderedSet true f h e = subst (λ zs. IsBounded mm (collection sort.OrderedSet zs)) (let g : xs ≡ ys = cc in g) (record { not_long = le_of_test _ _ f; bounded = h.0 }, h.1)
      one kind false f h e = absurd (let g : ⊥ = cc in g)

  -- a value whose members are within their bounds
  pub put_bounded : (kind : Sort) (xs ys : List Scalar) (v : Value) → IsBounded mm (collection kind xs) → list_all (is_bounded mm) (members v) ≡ true → put kind xs v ≡ Ok ys → IsBounded mm (collection kind ys)
  unfolding put
  put_bounded kind xs ys v h all e = is_short kind (with_members kind xs (members v)) ys (with_more kind xs (members v) (has_sort kind xs h) all) e

  pub bounded_put : (kind : Sort) (xs ys : List Scalar) (v : Value) → IsBounded mm (collection kind xs) → IsBounded mm v → put kind xs v ≡ Ok ys → IsBounded mm (collection kind ys)
  bounded_put kind xs ys v h b e = put_bounded kind xs ys v h (bounded_members v b) e

  pub became_bounded : (kind other : Sort) (xs ys : List Scalar) (v : Value) (result : Result Unit Halt) → IsBounded mm (collection kind xs) → IsBounded mm v
      → Became result (put kind xs v) ys → OnOk result (other ≡ kind) → OnOk result (IsBounded mm (collection other ys))
  became_bounded kind other xs ys v (Ok _) h b e s = subst (λ k. IsBounded mm (collection k ys)) (sym s) (bounded_put kind xs ys v h b e)
  became_bounded kind other xs ys v (Err stop) h b e s = tt

  pub empty_bounded : (kind : Sort) → IsBounded mm (collection kind [])
  empty_bounded sort.Sequence = record { not_long = omega arith; bounded = refl }
  empty_bounded sort.OrderedSet = (record { not_long = omega arith; bounded = refl }, refl)
