-- Which objects are live, and which slots an object stands in, as tests over the entries of the maps.
use Rattle.std.proofs.Common.{◌≡◌, ℕ, ◌≤◌, Bool, true, false, List, [], ◌∷◌, map, length, Option, Some, None, refl, sym, ap, subst, ◌∙◌, cond, leb, eqb, arith, ⊎_elim, T}
use Rattle.std.proofs.lemmas.Bool.{and_parts, false≢true, or_cases, or_left, or_right, and_from, eqb-true, eq-eqb, leb-true, le-leb}
use Rattle.std.proofs.lemmas.Bool.Decides.{nat_tests}
use Rattle.std.specs.Prelude.{filter, IsSome, is_some}
use Rattle.std.specs.Option.{option_map_or}
use Rattle.std.specs.List.{list_any, list_all}
use Rattle.std.specs.Ordering.{nat_cmp, eq_by_cmp, is_lt, is_eq}
use Rattle.std.specs.declared.cmp.Ordering.{Ordering}
use Rattle.std.specs.declared.cmp.Ordering.TheVariants.{Less, Equal, Greater}
use Rattle.std.specs.FinMap.{entries, get, is_sorted, contains_key-keys, entries_sorted, nat_cmp-IsAntisymmetric}
use Rattle.std.specs.FinMap.Entries.{below_all}
use Rattle.wb_store.specs.Contents.{Contents, Filled, members, slot_cmp, kind, has_object, contains}
use Rattle.wb_validity.specs.Valid.{every_object}
use Rattle.wb_store.proofs.Maps.{slot_cmp-IsAntisymmetric}
use Rattle.wb_validity.specs.ValidTest.{filled_slots, holders, is_container, owners, is_contained}

-- ---- keys

level : (r : Ordering) → is_eq r ≡ true → r ≡ Equal
level Less h = absurd (false≢true h)
level Equal h = refl
level Greater h = absurd (false≢true h)

tied : (a b : ℕ) → eq_by_cmp nat_cmp a b ≡ true → a ≡ b
tied a b h = nat_cmp-IsAntisymmetric a b (level _ h)

itself : (a : ℕ) → eq_by_cmp nat_cmp a a ≡ true
itself a = grind (arith, nat_tests)

tied_slots : (k l : ℕ × ℕ) → eq_by_cmp slot_cmp k l ≡ true → k ≡ l
tied_slots k l h = slot_cmp-IsAntisymmetric k l (level _ h)

same_slot : (k : ℕ × ℕ) → eq_by_cmp slot_cmp k k ≡ true
same_slot k = grind (arith, nat_tests)

not_below_itself : (k : ℕ × ℕ) → is_lt (slot_cmp k k) ≡ true → ⊥
not_below_itself k h = grind (arith, nat_tests)

-- is the slot among these?
abbrev pub has_slot : List (ℕ × ℕ) → ℕ × ℕ → Bool
has_slot ks k = list_any (eq_by_cmp slot_cmp k) ks

-- ---- live objects

all_at : (passes : ℕ → Bool) (es : List (ℕ × ℕ)) (o : ℕ) → list_all (λ (e : ℕ × ℕ). passes e.0) es ≡ true → list_any (eq_by_cmp nat_cmp o) (map (λ (e : ℕ × ℕ). e.0) es) ≡ true → passes o ≡ true
all_at passes [] o h l = absurd (false≢true l)
all_at passes (e ∷ es) o h l =
    ⊎_elim
    (λ t. subst (λ x. passes x ≡ true) (sym (tied o e.0 t)) (and_parts _ _ h).0)
    (λ r. all_at passes es o (and_parts _ _ h).1 r)
    (or_cases (eq_by_cmp nat_cmp o e.0) _ l)

all_from : (passes : ℕ → Bool) (es : List (ℕ × ℕ)) → ((o : ℕ) → list_any (eq_by_cmp nat_cmp o) (map (λ (e : ℕ × ℕ). e.0) es) ≡ true → passes o ≡ true) → list_all (λ (e : ℕ × ℕ). passes e.0) es ≡ true
all_from passes [] h = refl
all_from passes (e ∷ es) h =
    and_from _ _ (h e.0 (or_left _ _ (itself e.0))) (all_from passes es (λ o l. h o (or_right (eq_by_cmp nat_cmp o e.0) _ l)))

-- a test that every object passes is passed by each that is live
pub at_object : (m : Contents) (passes : ℕ → Bool) → every_object m (λ o c. passes o) ≡ true → (o : ℕ) → IsSome (kind m o) → passes o ≡ true
at_object m passes h o l = all_at passes (entries m.kinds) o h (sym (contains_key-keys m.kinds o) ∙ l)

pub for_objects : (m : Contents) (passes : ℕ → Bool) → ((o : ℕ) → IsSome (kind m o) → passes o ≡ true) → every_object m (λ o c. passes o) ≡ true
for_objects m passes h = all_from passes (entries m.kinds) (λ o l. h o (contains_key-keys m.kinds o ∙ l))

-- ---- the slots that an object stands in

any_at : (passes : ℕ × ℕ → Bool) (ks : List (ℕ × ℕ)) (k : ℕ × ℕ) → has_slot ks k ≡ true → passes k ≡ true → list_any passes ks ≡ true
any_at passes [] k m h = absurd (false≢true m)
any_at passes (l ∷ ks) k m h =
    ⊎_elim
    (λ t. or_left _ _ (subst (λ x. passes x ≡ true) (tied_slots k l t) h))
    (λ r. or_right (passes l) _ (any_at passes ks k r h))
    (or_cases (eq_by_cmp slot_cmp k l) _ m)

any_from : (passes : ℕ × ℕ → Bool) (ks : List (ℕ × ℕ)) → list_any passes ks ≡ true → (k : ℕ × ℕ) × (has_slot ks k ≡ true) × (passes k ≡ true)
any_from passes [] h = absurd (false≢true h)
any_from passes (l ∷ ks) h =
    ⊎_elim
    (λ p. (l, or_left _ _ (same_slot l), p))
    (λ r. let found = any_from passes ks r in (found.0, or_right (eq_by_cmp slot_cmp found.0 l) _ found.1, found.2))
    (or_cases (passes l) _ h)

filter_at : (passes : ℕ × ℕ → Bool) (ks : List (ℕ × ℕ)) (k : ℕ × ℕ) → has_slot ks k ≡ true → passes k ≡ true → has_slot (filter passes ks) k ≡ true
filter_at passes [] k m h = m
filter_at passes (l ∷ ks) k m h =
    elim (passes l) as (λ b. passes l ≡ b → has_slot (cond b (l ∷ filter passes ks) (filter passes ks)) k ≡ true) [
      | true ↦ λ p. ⊎_elim (λ t. or_left _ _ t) (λ r. or_right (eq_by_cmp slot_cmp k l) _ (filter_at passes ks k r h)) (or_cases (eq_by_cmp slot_cmp k l) _ m)
      | false ↦ λ p. ⊎_elim
          (λ t. absurd (false≢true (sym p ∙ subst (λ x. passes x ≡ true) (tied_slots k l t) h)))
          (λ r. filter_at passes ks k r h)
          (or_cases (eq_by_cmp slot_cmp k l) _ m)
    ] refl

filter_from : (passes : ℕ × ℕ → Bool) (ks : List (ℕ × ℕ)) (k : ℕ × ℕ) → has_slot (filter passes ks) k ≡ true → (has_slot ks k ≡ true) × (passes k ≡ true)
filter_from passes [] k m = absurd (false≢true m)
filter_from passes (l ∷ ks) k m =
    elim (passes l) as (λ b. passes l ≡ b → has_slot (cond b (l ∷ filter passes ks) (filter passes ks)) k ≡ true → (has_slot (l ∷ ks) k ≡ true) × (passes k ≡ true)) [
      | true ↦ λ p n. ⊎_elim
          (λ t. (or_left _ _ t, subst (λ x. passes x ≡ true) (sym (tied_slots k l t)) p))
          (λ r. let rest = filter_from passes ks k r in (or_right (eq_by_cmp slot_cmp k l) _ rest.0, rest.1))
          (or_cases (eq_by_cmp slot_cmp k l) _ n)
      | false ↦ λ p n. let rest = filter_from passes ks k n in (or_right (eq_by_cmp slot_cmp k l) _ rest.0, rest.1)
    ] refl m

filled_if : (v : Option Filled) (o : ℕ) → has_object (option_map_or members v []) o ≡ true → is_some v ≡ true
filled_if None o h = absurd (false≢true h)
filled_if (Some v) o h = refl

-- a slot that contains an object is not empty
pub slot_filled : (m : Contents) (p f o : ℕ) → contains m p f o ≡ true → has_slot (filled_slots m) (p, f) ≡ true
slot_filled m p f o h = sym (contains_key-keys m.slots (p, f)) ∙ filled_if (get m.slots (p, f)) o (and_parts _ _ h).1

-- the slots of `holders` are the containment slots that have the object
pub holders_at : (m : Contents) (p f o : ℕ) → contains m p f o ≡ true → has_slot (holders m o) (p, f) ≡ true
holders_at m p f o h = filter_at (λ (k : ℕ × ℕ). contains m k.0 k.1 o) (filled_slots m) (p, f) (slot_filled m p f o h) h

pub holders_from : (m : Contents) (o : ℕ) (k : ℕ × ℕ) → has_slot (holders m o) k ≡ true → contains m k.0 k.1 o ≡ true
holders_from m o k h = (filter_from (λ (k : ℕ × ℕ). contains m k.0 k.1 o) (filled_slots m) k h).1

-- ---- at most one slot

two_in_one : (ks : List (ℕ × ℕ)) (k l : ℕ × ℕ) → length ks ≤ 1 → has_slot ks k ≡ true → has_slot ks l ≡ true → k ≡ l
two_in_one [] k l few p q = absurd (false≢true p)
two_in_one (x ∷ []) k l few p q =
    let only : (y : ℕ × ℕ) → has_slot (x ∷ []) y ≡ true → y ≡ x = λ y r. ⊎_elim (λ t. tied_slots y x t) (λ n. absurd (false≢true n)) (or_cases (eq_by_cmp slot_cmp y x) _ r) in
    only k p ∙ sym (only l q)
two_in_one (x ∷ y ∷ ks) k l few p q = absurd (omega arith)

abbrev slots_of : List ((ℕ × ℕ) × Filled) → List (ℕ × ℕ)
slots_of es = map (λ (e : (ℕ × ℕ) × Filled). e.0) es

none_passes : (passes : ℕ × ℕ → Bool) (k : ℕ × ℕ) (es : List ((ℕ × ℕ) × Filled)) → below_all slot_cmp k es ≡ true
    → ((l : ℕ × ℕ) → has_slot (slots_of es) l ≡ true → passes l ≡ true → k ≡ l) → length (filter passes (slots_of es)) ≡ 0
none_passes passes k [] below same = refl
none_passes passes k (e ∷ es) below same =
    elim (passes e.0) as (λ b. passes e.0 ≡ b → length (cond b (e.0 ∷ filter passes (slots_of es)) (filter passes (slots_of es))) ≡ 0) [
      | true ↦ λ p. absurd (not_below_itself k (subst (λ l. is_lt (slot_cmp k l) ≡ true) (sym (same e.0 (or_left _ _ (same_slot e.0)) p)) (and_parts _ _ below).0))
      | false ↦ λ p. none_passes passes k es (and_parts _ _ below).1 (λ l r. same l (or_right (eq_by_cmp slot_cmp l e.0) _ r))
    ] refl

one_passes : (passes : ℕ × ℕ → Bool) (es : List ((ℕ × ℕ) × Filled)) → is_sorted slot_cmp es ≡ true
    → ((k l : ℕ × ℕ) → has_slot (slots_of es) k ≡ true → passes k ≡ true → has_slot (slots_of es) l ≡ true → passes l ≡ true → k ≡ l)
    → length (filter passes (slots_of es)) ≤ 1
one_passes passes [] sorted same = omega arith
one_passes passes (e ∷ es) sorted same =
    elim (passes e.0) as (λ b. passes e.0 ≡ b → length (cond b (e.0 ∷ filter passes (slots_of es)) (filter passes (slots_of es))) ≤ 1) [
      | true ↦ λ p.
          let none : length (filter passes (slots_of es)) ≡ 0 = none_passes passes e.0 es (and_parts _ _ sorted).0 (λ l r q. same e.0 l (or_left _ _ (same_slot e.0)) p (or_right (eq_by_cmp slot_cmp l e.0) _ r) q) in
          omega arith
      | false ↦ λ p. one_passes passes es (and_parts _ _ sorted).1 (λ k l r q s t. same k l (or_right (eq_by_cmp slot_cmp k e.0) _ r) q (or_right (eq_by_cmp slot_cmp l e.0) _ s) t)
    ] refl

true-of : (b : Bool) → T b → b ≡ true
true-of true t = refl
true-of false t = absurd t

-- the slots that an object stands in are one at most exactly where any two of them are the same
pub holders_same : (m : Contents) (o : ℕ) → leb (length (holders m o)) 1 ≡ true → (p q f g : ℕ) → contains m p f o ≡ true → contains m q g o ≡ true → (p ≡ q) × (f ≡ g)
holders_same m o few p q f g h k =
    let same : (p, f) ≡ (q, g) = two_in_one (holders m o) (p, f) (q, g) (leb-true _ _ few) (holders_at m p f o h) (holders_at m q g o k) in
    (λ i. (same i).0, λ i. (same i).1)

pub holders_few : (m : Contents) (o : ℕ) → ((p q f g : ℕ) → contains m p f o ≡ true → contains m q g o ≡ true → (p ≡ q) × (f ≡ g)) → leb (length (holders m o)) 1 ≡ true
holders_few m o same =
    le-leb _ _ (one_passes (λ (k : ℕ × ℕ). contains m k.0 k.1 o) (entries m.slots) (true-of _ (entries_sorted m.slots))
    (λ k l r h s j. let both = same k.0 l.0 k.1 l.1 h j in λ i. (both.0 i, both.1 i)))

-- ---- containers

pub container_at : (m : Contents) (p f o : ℕ) → contains m p f o ≡ true → is_container m p o ≡ true
container_at m p f o h = any_at (λ (k : ℕ × ℕ). eqb p k.0) (holders m o) (p, f) (holders_at m p f o h) (eq-eqb p p refl)

pub container_from : (m : Contents) (p o : ℕ) → is_container m p o ≡ true → (f : ℕ) × (contains m p f o ≡ true)
container_from m p o h =
    let found = any_from (λ (k : ℕ × ℕ). eqb p k.0) (holders m o) h in
    (found.0.1, subst (λ x. contains m x found.0.1 o ≡ true) (sym (eqb-true p found.0.0 found.2)) (holders_from m o found.0 found.1))

owner_at : (ks : List (ℕ × ℕ)) (k : ℕ × ℕ) → has_slot ks k ≡ true → list_any (eqb k.0) (map (λ (k : ℕ × ℕ). k.0) ks) ≡ true
owner_at [] k h = absurd (false≢true h)
owner_at (l ∷ ks) k h =
    ⊎_elim
    (λ t. or_left _ _ (eq-eqb k.0 l.0 (ap (λ (x : ℕ × ℕ). x.0) (tied_slots k l t))))
    (λ r. or_right (eqb k.0 l.0) _ (owner_at ks k r))
    (or_cases (eq_by_cmp slot_cmp k l) _ h)

-- a container has values in a slot
pub container_owns : (m : Contents) (p o : ℕ) → is_container m p o ≡ true → list_any (eqb p) (owners m) ≡ true
container_owns m p o h = let held = container_from m p o h in owner_at (filled_slots m) (p, held.0) (slot_filled m p held.0 o held.1)

-- ---- objects in a containment slot

pub contained_at : (m : Contents) (p f o : ℕ) → contains m p f o ≡ true → is_contained m o ≡ true
contained_at m p f o h = any_at (λ (k : ℕ × ℕ). contains m k.0 k.1 o) (filled_slots m) (p, f) (slot_filled m p f o h) h

pub contained_from : (m : Contents) (o : ℕ) → is_contained m o ≡ true → (k : ℕ × ℕ) × (contains m k.0 k.1 o ≡ true)
contained_from m o h = let found = any_from (λ (k : ℕ × ℕ). contains m k.0 k.1 o) (filled_slots m) h in (found.0, found.2)
