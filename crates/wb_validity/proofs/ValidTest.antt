-- The test `is_valid` holds exactly where a model is valid.
use Rattle.std.proofs.Common.{◌≡◌, ℕ, Bool, true, false, not, ◌||◌, List, [], ◌∷◌, length, refl, sym, ◌∙◌, subst, arith, leb, eqb, ◌↔◌, ⊎_elim}
use Rattle.std.proofs.lemmas.Bool.{and_parts, and_from, both_ways, false≢true, or_cases, or_left, or_right, eq-eqb, eqb-true, leb-true, le-leb, not-true, not_from_false, false_from_ne_true, cases_Bool}
use Rattle.std.proofs.lemmas.Bool.Decides.{nat_tests}
use Rattle.std.specs.Prelude.{IsSome}
use Rattle.std.specs.List.{list_any, list_all}
use Rattle.wb_base.specs.Paths.{Leads}
use Rattle.wb_base.specs.Paths.Leads.{directly as one_step, onward}
use Rattle.wb_base.proofs.Paths.{leads_through-decides_all}
use Rattle.wb_store.specs.Contents.{Contents, kind, contains}
use Rattle.wb_validity.specs.Valid.{AreContainedOnce, Within, NoneIsWithinItself, is_root, RootsAreUncontained, IsValid}
use Rattle.wb_validity.specs.Valid.Within.{directly, through}
use Rattle.wb_validity.specs.ValidTest.{holders, are_contained_once, is_container, owners, is_within, none_is_within_itself, is_contained, may_be_root, roots_are_uncontained, is_valid}
use Rattle.wb_validity.proofs.ValidSlots.{at_object, for_objects, holders_same, holders_few, container_at, container_from, container_owns, contained_at, contained_from}

-- ---- 8

pub contained_once-decided : (m : Contents) → (are_contained_once m ≡ true) ↔ AreContainedOnce m
contained_once-decided m = (
  λ h o p q f g live a b. holders_same m o (at_object m (λ o. leb (length (holders m o)) 1) h o live) p q f g a b,
  λ h. for_objects m (λ o. leb (length (holders m o)) 1) (λ o live. holders_few m o (λ p q f g a b. h o p q f g live a b)),
)

-- ---- 9

path_from_within : (m : Contents) (p o : ℕ) → Within m p o → Leads (is_container m) p o
path_from_within m p o (directly f h) = one_step (container_at m p f o h)
path_from_within m p o (through {q = q} f w h) = onward (path_from_within m p q w) (container_at m q f o h)

within_from_path : (m : Contents) (p o : ℕ) → Leads (is_container m) p o → Within m p o
within_from_path m p o (one_step h) = let held = container_from m p o h in directly held.0 held.1
within_from_path m p o (onward {k = q} w h) = let held = container_from m q o h in through held.0 (within_from_path m p q w) held.1

-- the test finds each object that another contains, directly or through others
pub is_within-decides : (m : Contents) (p o : ℕ) → (is_within m p o ≡ true) ↔ Within m p o
is_within-decides m p o =
    let paths = leads_through-decides_all (is_container m) (owners m) (container_owns m) p o in
    (λ h. within_from_path m p o (paths.0 h), λ w. paths.1 (path_from_within m p o w))

start_owns : (m : Contents) (p o : ℕ) → Leads (is_container m) p o → list_any (eqb p) (owners m) ≡ true
start_owns m p o (one_step h) = container_owns m p o h
start_owns m p o (onward {k = q} w h) = start_owns m p q w

all_at : (passes : ℕ → Bool) (os : List ℕ) → list_all passes os ≡ true → (o : ℕ) → list_any (eqb o) os ≡ true → passes o ≡ true
all_at passes [] h o a = absurd (false≢true a)
all_at passes (p ∷ os) h o a =
    ⊎_elim
    (λ t. subst (λ x. passes x ≡ true) (sym (eqb-true o p t)) (and_parts _ _ h).0)
    (λ r. all_at passes os (and_parts _ _ h).1 o r)
    (or_cases (eqb o p) _ a)

all_from : (passes : ℕ → Bool) (os : List ℕ) → ((o : ℕ) → list_any (eqb o) os ≡ true → passes o ≡ true) → list_all passes os ≡ true
all_from passes [] h = refl
all_from passes (p ∷ os) h =
    and_from _ _ (h p (or_left _ _ (eq-eqb p p refl))) (all_from passes os (λ o a. h o (or_right (eqb o p) _ a)))

pub none_within-decided : (m : Contents) → (none_is_within_itself m ≡ true) ↔ NoneIsWithinItself m
none_within-decided m = (
  λ h o w.
      let apart : not (is_within m o o) ≡ true = all_at (λ o. not (is_within m o o)) (owners m) h o (start_owns m o o (path_from_within m o o w)) in
      both_ways (is_within m o o) (not-true _ apart) ((is_within-decides m o o).1 w),
  λ none. all_from (λ o. not (is_within m o o)) (owners m) (λ o a. not_from_false _ (false_from_ne_true (is_within m o o) (λ h. none o ((is_within-decides m o o).0 h)))),
)

-- ---- 10

turned : (f : ℕ → Bool) (o : ℕ) → ((p : ℕ) → f p ≡ eqb o p) → (os : List ℕ) → list_any f os ≡ list_any (eqb o) os
turned f o same [] = refl
turned f o same (p ∷ os) = λ i. same p i || turned f o same os i

listed-root : (m : Contents) (o : ℕ) → is_root m o ≡ list_any (eqb o) m.roots
listed-root m o = turned _ o (λ p. grind (arith, nat_tests)) m.roots

not_contained : (m : Contents) (o : ℕ) → is_contained m o ≡ false → (p f : ℕ) → contains m p f o ≡ false
not_contained m o h p f = false_from_ne_true (contains m p f o) (λ c. both_ways (is_contained m o) h (contained_at m p f o c))

contained_nowhere : (m : Contents) (o : ℕ) → ((p f : ℕ) → contains m p f o ≡ false) → is_contained m o ≡ false
contained_nowhere m o h = false_from_ne_true _ (λ s. let k = contained_from m o s in both_ways _ (h k.0.0 k.0.1) k.1)

roots_from_test : (m : Contents) → roots_are_uncontained m ≡ true → RootsAreUncontained m
roots_from_test m h =
    let listed = (and_parts _ _ h).0 in
    let may : (o : ℕ) → is_root m o ≡ true → may_be_root m o ≡ true = λ o r. all_at (may_be_root m) m.roots (and_parts _ _ listed).1 o (sym (listed-root m o) ∙ r) in
    record {
      each_once = (and_parts _ _ listed).0;
      live = λ o r. (and_parts _ _ (may o r)).0;
      uncontained = λ o p f r. not_contained m o (not-true _ (and_parts _ _ (may o r)).1) p f;
      all = λ o live c.
          ⊎_elim
          (λ r. r)
          (λ s. absurd (both_ways _ (contained_nowhere m o c) s))
          (or_cases (is_root m o) _ (at_object m (λ o. is_root m o || is_contained m o) (and_parts _ _ h).1 o live));
    }

root_or_contained : (m : Contents) → RootsAreUncontained m → (o : ℕ) → IsSome (kind m o) → (is_root m o || is_contained m o) ≡ true
root_or_contained m roots o live =
    ⊎_elim
    (λ s. or_right (is_root m o) _ s)
    (λ none. or_left _ _ (roots.all o live (not_contained m o none)))
    (cases_Bool (is_contained m o))

roots_may : (m : Contents) → RootsAreUncontained m → list_all (may_be_root m) m.roots ≡ true
roots_may m roots =
    all_from (may_be_root m) m.roots
    (λ o a.
    let r : is_root m o ≡ true = listed-root m o ∙ a in
    and_from _ _ (roots.live o r) (not_from_false _ (contained_nowhere m o (λ p f. roots.uncontained o p f r))))

test_from_roots : (m : Contents) → RootsAreUncontained m → roots_are_uncontained m ≡ true
test_from_roots m roots =
    and_from _ _ (and_from _ _ roots.each_once (roots_may m roots)) (for_objects m (λ o. is_root m o || is_contained m o) (root_or_contained m roots))

pub roots-decided : (m : Contents) → (roots_are_uncontained m ≡ true) ↔ RootsAreUncontained m
roots-decided m = (roots_from_test m, test_from_roots m)

-- ---- all of them

valid_from_test : (m : Contents) → is_valid m ≡ true → IsValid m
unfolding is_valid IsValid
valid_from_test m h =
    let to10 = and_parts _ _ h in
    let to9 = and_parts _ _ to10.0 in
    let to8 = and_parts _ _ to9.0 in
    let to7 = and_parts _ _ to8.0 in
    let to6 = and_parts _ _ to7.0 in
    let to5 = and_parts _ _ to6.0 in
    let to4 = and_parts _ _ to5.0 in
    let to3 = and_parts _ _ to4.0 in
    let to2 = and_parts _ _ to3.0 in
    let to1 = and_parts _ _ to2.0 in
    record {
      numbers_are_spent = to1.0;
      classes_are_concrete = to1.1;
      slots_are_of_classes = to2.1;
      slots_have_room = to3.1;
      values_are_of_kinds = to4.1;
      values_differ = to5.1;
      opposites_agree = to6.1;
      are_contained_once = (contained_once-decided m).0 to7.1;
      none_is_within_itself = (none_within-decided m).0 to8.1;
      roots_are_uncontained = (roots-decided m).0 to9.1;
      few_objects = leb-true _ _ to10.1;
    }

test_from_valid : (m : Contents) → IsValid m → is_valid m ≡ true
unfolding is_valid IsValid
test_from_valid m v =
    let to2 = and_from _ _ v.numbers_are_spent v.classes_are_concrete in
    let to3 = and_from _ _ to2 v.slots_are_of_classes in
    let to4 = and_from _ _ to3 v.slots_have_room in
    let to5 = and_from _ _ to4 v.values_are_of_kinds in
    let to6 = and_from _ _ to5 v.values_differ in
    let to7 = and_from _ _ to6 v.opposites_agree in
    let to8 = and_from _ _ to7 ((contained_once-decided m).1 v.are_contained_once) in
    let to9 = and_from _ _ to8 ((none_within-decided m).1 v.none_is_within_itself) in
    let to10 = and_from _ _ to9 ((roots-decided m).1 v.roots_are_uncontained) in
    and_from _ _ to10 (le-leb _ _ v.few_objects)

-- the test decides whether a model is valid
pub is_valid-decides : (m : Contents) → (is_valid m ≡ true) ↔ IsValid m
is_valid-decides m = (valid_from_test m, test_from_valid m)

pub is_valid-false : (m : Contents) → ¬ IsValid m → is_valid m ≡ false
is_valid-false m none = false_from_ne_true (is_valid m) (λ h. none (valid_from_test m h))
