-- What is put together stays within its bounds, and so does what a run gives.
use Rattle.std.proofs.Common.{◌≡◌, Bool, true, false, not, List, [], ◌∷◌, ◌++◌, length, Result, Ok, Err, refl, sym, subst, ◌∙◌, arith, if◌then◌else◌}
use Rattle.std.proofs.lemmas.Bool.{leb-true, and_parts, and_from, or_parts, or_from, not_from_false, not-true}
use Rattle.std.proofs.lemmas.List.{length-append, append_assoc}
use Rattle.std.proofs.lemmas.List.Folds.{list_any-append, list_all-append}
use Rattle.std.specs.Prelude.{⊤, nat_le, IfOk, filter}
use Rattle.std.specs.List.{list_any, list_all}
use Rattle.wb_metamodel.specs.Metamodel.{Metamodel}
use Rattle.wb_store.specs.declared.scalars.Scalar.{Scalar}
use Rattle.wb_store.specs.declared.scalars.Cell.{Cell}
use Rattle.wb_store.specs.Scalars.{same}
use Rattle.wb_store.specs.ScalarLaws.{same_equiv}
use Rattle.wb_validity.specs.Valid.{differ}
use Rattle.wb_aql_values.specs.declared.faults.Fault.{Fault}
use Rattle.wb_aql_values.specs.declared.faults.Fault.TheVariants.{TooLong}
use Rattle.wb_aql_values.specs.declared.values.Sort.{Sort}
use Rattle.wb_aql_values.specs.declared.values.Sort.TheVariants as sort
use Rattle.wb_aql_values.specs.declared.values.Value.{Value}
use Rattle.wb_aql_values.specs.declared.values.Value.TheVariants.{Null, One, Sequence, OrderedSet}
use Rattle.wb_aql_values.specs.Values.{members, collection, has, with_member, with_members, put}
use Rattle.wb_aql_values.specs.Bounds.{is_bounded, AreBounded, IsBounded}
use Rattle.wb_aql_values.specs.Readings.{Content, Reading, ◌>>=◌, each, given, done, gather, of_each, lifted}
use Rattle.wb_aql_values.specs.Runs.{Ran, run}
use Rattle.wb_aql_values.proofs.RunLemmas.{onward, goes_on}

-- ---- members that differ

-- a member that is none of them differs from each
none_is : (xs : List Scalar) (x : Scalar) → has xs x ≡ false → list_any (λ other. same other x) xs ≡ false
none_is [] x h = refl
none_is (y ∷ ys) x h = let p = or_parts _ _ h in or_from _ _ (same_equiv.symm y x ∙ p.0) (none_is ys x p.1)

differ_more : (xs : List Scalar) (x : Scalar) → differ xs ≡ true → has xs x ≡ false → differ (xs ++ x ∷ []) ≡ true
differ_more [] x d h = refl
differ_more (y ∷ ys) x d h =
    let p = and_parts _ _ d in
    let q = or_parts _ _ h in
    and_from _ _
    (not_from_false _ (list_any-append (λ other. same other y) ys (x ∷ []) ∙ or_from _ _ (not-true _ p.0) (or_from _ _ q.0 refl)))
    (differ_more ys x p.1 q.1)

-- are these the members of a collection of the sort?
abbrev Differ : Sort → List Scalar → Type 0
Differ sort.Sequence xs = ⊤
Differ sort.OrderedSet xs = differ xs ≡ true

one_differs : (b : Bool) (xs : List Scalar) (x : Scalar) → has xs x ≡ b → differ xs ≡ true → differ (if b then xs else xs ++ x ∷ []) ≡ true
one_differs true xs x h d = d
one_differs false xs x h d = differ_more xs x d h

member_differs : (kind : Sort) (xs : List Scalar) (x : Scalar) → Differ kind xs → Differ kind (with_member kind xs x)
member_differs sort.Sequence xs x d = tt
member_differs sort.OrderedSet xs x d = one_differs (has xs x) xs x refl d

members_differ : (kind : Sort) (ys xs : List Scalar) → Differ kind xs → Differ kind (with_members kind xs ys)
unfolding with_members
members_differ kind [] xs d = d
members_differ kind (y ∷ ys) xs d = members_differ kind ys (with_member kind xs y) (member_differs kind xs y d)

-- ---- members within their bounds

module _ (mm : Metamodel) where
  one_within : (b : Bool) (xs : List Scalar) (x : Scalar) → list_all (is_bounded mm) xs ≡ true → is_bounded mm x ≡ true → list_all (is_bounded mm) (if b then xs else xs ++ x ∷ []) ≡ true
  one_within true xs x h k = h
  one_within false xs x h k = list_all-append (is_bounded mm) xs (x ∷ []) ∙ and_from _ _ h (and_from _ _ k refl)

  member_within : (kind : Sort) (xs : List Scalar) (x : Scalar) → list_all (is_bounded mm) xs ≡ true → is_bounded mm x ≡ true → list_all (is_bounded mm) (with_member kind xs x) ≡ true
  member_within sort.Sequence xs x h k = one_within false xs x h k
  member_within sort.OrderedSet xs x h k = one_within (has xs x) xs x h k

  members_within : (kind : Sort) (ys xs : List Scalar) → list_all (is_bounded mm) xs ≡ true → list_all (is_bounded mm) ys ≡ true → list_all (is_bounded mm) (with_members kind xs ys) ≡ true
  unfolding with_members
  members_within kind [] xs h k = h
  members_within kind (y ∷ ys) xs h k = let p = and_parts _ _ k in members_within kind ys (with_member kind xs y) (member_within kind xs y h p.0) p.1

  -- the members of a value are within their bounds
  pub within_value : (value : Value) → IsBounded mm value → list_all (is_bounded mm) (members value) ≡ true
  within_value Null h = refl
  within_value (One x) h = and_from _ _ h refl
  within_value (Sequence xs) h = h.bounded
  within_value (OrderedSet xs) h = h.0.bounded

  short_within : (kind : Sort) (xs : List Scalar) (b : Bool) → nat_le (length xs) 65536 ≡ b → list_all (is_bounded mm) xs ≡ true → Differ kind xs
      → IfOk {E = Fault} (if b then Ok xs else Err TooLong) (λ ys. IsBounded mm (collection kind ys))
  short_within sort.Sequence xs true e h d = record { not_long = leb-true _ _ e; bounded = h }
  short_within sort.OrderedSet xs true e h d = (record { not_long = leb-true _ _ e; bounded = h }, d)
  short_within kind xs false e h d = tt

  -- what is put together is within the bounds of a value
  pub put_within : (kind : Sort) (xs : List Scalar) (value : Value) → IsBounded mm (collection kind xs) → IsBounded mm value → IfOk (put kind xs value) (λ ys. IsBounded mm (collection kind ys))
  unfolding put
  put_within sort.Sequence xs value h k =
      short_within sort.Sequence (with_members sort.Sequence xs (members value)) _ refl (members_within sort.Sequence (members value) xs h.bounded (within_value value k)) tt
  put_within sort.OrderedSet xs value h k =
      short_within sort.OrderedSet (with_members sort.OrderedSet xs (members value)) _ refl (members_within sort.OrderedSet (members value) xs h.0.bounded (within_value value k)) (members_differ sort.OrderedSet (members value) xs h.1)

-- an empty collection
pub empty_within : (mm : Metamodel) (kind : Sort) → IsBounded mm (collection kind [])
empty_within mm sort.Sequence = record { not_long = omega arith; bounded = refl }
empty_within mm sort.OrderedSet = (record { not_long = omega arith; bounded = refl }, refl)

-- ---- members that are left out

differ_less : (ks xs : List Scalar) (x : Scalar) → differ (ks ++ x ∷ xs) ≡ true → differ (ks ++ xs) ≡ true
differ_less [] xs x d = (and_parts _ _ d).1
differ_less (k ∷ ks) xs x d =
    let test = λ (other : Scalar). same other k in
    let p = and_parts (not (list_any test (ks ++ x ∷ xs))) (differ (ks ++ x ∷ xs)) d in
    let q = or_parts (list_any test ks) (list_any test (x ∷ xs)) (sym (list_any-append test ks (x ∷ xs)) ∙ not-true (list_any test (ks ++ x ∷ xs)) p.0) in
    let r = or_parts (same x k) (list_any test xs) q.1 in
    and_from (not (list_any test (ks ++ xs))) (differ (ks ++ xs))
    (not_from_false (list_any test (ks ++ xs)) (list_any-append test ks xs ∙ or_from (list_any test ks) (list_any test xs) q.0 r.1)) (differ_less ks xs x p.1)

module _ (mm : Metamodel) where
  are_less : (ks xs : List Scalar) (x : Scalar) → AreBounded mm (ks ++ x ∷ xs) → AreBounded mm (ks ++ xs)
  are_less ks xs x h =
      let fits = list_all (is_bounded mm) in
      let p = and_parts (fits ks) (fits (x ∷ xs)) (sym (list_all-append (is_bounded mm) ks (x ∷ xs)) ∙ h.bounded) in
      let q = and_parts (is_bounded mm x) (fits xs) p.1 in
      let not_long = h.not_long in
      record { not_long = omega (arith, not_long, length-append ks (x ∷ xs), length-append ks xs); bounded = list_all-append (is_bounded mm) ks xs ∙ and_from (fits ks) (fits xs) p.0 q.1 }

  pub within_less : (kind : Sort) (ks xs : List Scalar) (x : Scalar) → IsBounded mm (collection kind (ks ++ x ∷ xs)) → IsBounded mm (collection kind (ks ++ xs))
  within_less sort.Sequence ks xs x h = are_less ks xs x h
  within_less sort.OrderedSet ks xs x h = (are_less ks xs x h.0, differ_less ks xs x h.1)

  -- one more of what was left is put with what was done
  pub within_moved : (kind : Sort) (ks xs : List Scalar) (x : Scalar) → IsBounded mm (collection kind (ks ++ x ∷ xs)) → IsBounded mm (collection kind ((ks ++ x ∷ []) ++ xs))
  within_moved kind ks xs x h = subst (λ ys. IsBounded mm (collection kind ys)) (sym (append_assoc ks (x ∷ []) xs)) h

  filter_one : (kind : Sort) (test : Scalar → Bool) (x : Scalar) (xs ks : List Scalar) (b : Bool) → ((ks : List Scalar) → IsBounded mm (collection kind (ks ++ xs)) → IsBounded mm (collection kind (ks ++ filter test xs)))
      → IsBounded mm (collection kind (ks ++ x ∷ xs)) → IsBounded mm (collection kind (ks ++ (if b then x ∷ filter test xs else filter test xs)))
  filter_one kind test x xs ks true more h =
      subst (λ ys. IsBounded mm (collection kind ys)) (append_assoc ks (x ∷ []) (filter test xs)) (more (ks ++ x ∷ []) (within_moved kind ks xs x h))
  filter_one kind test x xs ks false more h = more ks (within_less kind ks xs x h)

  filter_from : (kind : Sort) (test : Scalar → Bool) (xs ks : List Scalar) → IsBounded mm (collection kind (ks ++ xs)) → IsBounded mm (collection kind (ks ++ filter test xs))
  filter_from kind test [] ks h = h
  filter_from kind test (x ∷ xs) ks h = filter_one kind test x xs ks (test x) (λ ls. filter_from kind test xs ls) h

  pub filter_within : (kind : Sort) (test : Scalar → Bool) (xs : List Scalar) → IsBounded mm (collection kind xs) → IsBounded mm (collection kind (filter test xs))
  filter_within kind test xs h = filter_from kind test xs [] h

-- ---- what a run gives

module _ {A B : Type 0} (P : A → Type 0) (Q : B → Type 0) (next : A → Reading B) (m : (c : Cell) → Content c) where
  on_within : (r : Result A Fault) (reads : List Cell) → IfOk r P → ((x : A) (reads : List Cell) → P x → IfOk (run (next x) m reads).gave Q) → IfOk (onward next m r reads).gave Q
  on_within (Ok x) reads h k = k x reads h
  on_within (Err fault) reads h k = tt

  -- what holds of all that the first gives, and after that of all that the second gives, holds of what both give
  pub both_within : (r : Reading A) (old : List Cell) → IfOk (run r m old).gave P → ((x : A) (reads : List Cell) → P x → IfOk (run (next x) m reads).gave Q) → IfOk (run (r >>= next) m old).gave Q
  both_within r old h k = subst (λ (ran : Ran B). IfOk ran.gave Q) (sym (goes_on next m r old)) (on_within (run r m old).gave (run r m old).reads h k)

-- what is given at once
pub given_within : {A : Type 0} (P : A → Type 0) (m : (c : Cell) → Content c) (r : Result A Fault) (old : List Cell) → IfOk r P → IfOk (run (given r) m old).gave P
unfolding run
given_within P m (Ok x) old h = h
given_within P m (Err fault) old h = tt

-- what each step keeps stands at the end
pub each_within : {A B : Type 0} (q : A → Bool) (P : B → Type 0) (step : B → A → Reading B) (m : (c : Cell) → Content c)
    → ((b : B) (x : A) (old : List Cell) → q x ≡ true → P b → IfOk (run (step b x) m old).gave P)
    → (xs : List A) (b : B) (old : List Cell) → list_all q xs ≡ true → P b → IfOk (run (each step b xs) m old).gave P
unfolding run each
each_within q P step m keeps [] b old all h = h
each_within q P step m keeps (x ∷ xs) b old all h =
    let p = and_parts _ _ all in
    both_within P P (λ c. each step c xs) m (step b x) old (keeps b x old p.0 h) (λ c reads k. each_within q P step m keeps xs c reads p.1 k)

-- what each step keeps of what was done and what is left stands at the end
pub each_down : {A B : Type 0} (P : B → List A → Type 0) (step : B → A → Reading B) (m : (c : Cell) → Content c)
    → ((b : B) (x : A) (xs : List A) (old : List Cell) → P b (x ∷ xs) → IfOk (run (step b x) m old).gave (λ c. P c xs))
    → (xs : List A) (b : B) (old : List Cell) → P b xs → IfOk (run (each step b xs) m old).gave (λ c. P c [])
unfolding run each
each_down P step m keeps [] b old h = h
each_down P step m keeps (x ∷ xs) b old h = both_within (λ c. P c xs) (λ c. P c []) (λ c. each step c xs) m (step b x) old (keeps b x xs old h) (λ c reads k. each_down P step m keeps xs c reads k)

-- a function of scalars that keeps within the bounds keeps so on every value
module _ (mm : Metamodel) (m : (c : Cell) → Content c) (f : Scalar → Reading Value) (keeps : (x : Scalar) (old : List Cell) → is_bounded mm x ≡ true → IfOk (run (f x) m old).gave (IsBounded mm)) where
  gather_within : (kind : Sort) (xs : List Scalar) (x : Scalar) (old : List Cell) → is_bounded mm x ≡ true → IsBounded mm (collection kind xs) → IfOk (run (gather kind f xs x) m old).gave (λ ys. IsBounded mm (collection kind ys))
  unfolding gather
  gather_within kind xs x old b h =
      both_within (IsBounded mm) (λ ys. IsBounded mm (collection kind ys)) (λ value. given (put kind xs value)) m (f x) old (keeps x old b)
      (λ value reads k. given_within (λ ys. IsBounded mm (collection kind ys)) m (put kind xs value) reads (put_within mm kind xs value h k))

  of_each_within : (kind : Sort) (xs : List Scalar) (old : List Cell) → list_all (is_bounded mm) xs ≡ true → IfOk (run (of_each kind f xs) m old).gave (IsBounded mm)
  unfolding of_each run
  of_each_within kind xs old all =
      both_within (λ ys. IsBounded mm (collection kind ys)) (IsBounded mm) (λ ys. done (collection kind ys)) m (each (gather kind f) [] xs) old
      (each_within (is_bounded mm) (λ ys. IsBounded mm (collection kind ys)) (gather kind f) m (λ ys x reads b h. gather_within kind ys x reads b h) xs [] old all (empty_within mm kind))
      (λ ys reads k. k)

  pub lifted_within : (null : Reading Value) (value : Value) (old : List Cell) → IfOk (run null m old).gave (IsBounded mm) → IsBounded mm value → IfOk (run (lifted null f value) m old).gave (IsBounded mm)
  unfolding lifted
  lifted_within null Null old n h = n
  lifted_within null (One x) old n h = keeps x old h
  lifted_within null (Sequence xs) old n h = of_each_within sort.Sequence xs old h.bounded
  lifted_within null (OrderedSet xs) old n h = of_each_within sort.OrderedSet xs old h.0.bounded
