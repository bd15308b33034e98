-- What is true of each object and each slot of a valid model, said of links.
use Rattle.std.proofs.Common.{◌≡◌, ℕ, ◌^◌, ◌≤◌, Bool, true, false, not, ◌&&◌, List, [], ◌∷◌, length, Some, None, refl, sym, ap, subst, ◌∙◌, cond, ltb, leb, arith, Ordering, Less}
use Rattle.std.proofs.lemmas.Bool.{and_parts, and_from, false≢true, leb-true, le-leb}
use Rattle.std.proofs.lemmas.Cmp.{nat_cmp_total, tied_itself}
use Rattle.std.specs.Cmp.{IsTotalOrder}
use Rattle.std.specs.Ordering.{eq_by_cmp, is_lt, is_eq, ordering_reverse}
use Rattle.std.specs.Option.{option_map_or}
use Rattle.std.specs.List.{list_all}
use Rattle.std.specs.FinMap.{FinMap, find, is_sorted, IsAntisymmetric, entries, entries_sorted, get, get-entries, len, nat_cmp-IsAntisymmetric}
use Rattle.std.specs.FinMap.Entries.{below_all}
use Rattle.wb_store.specs.declared.scalars.Scalar.{Scalar}
use Rattle.wb_store.specs.declared.scalars.Scalar.TheVariants.{Int, Bool as Boolean, Text, Literal, Object}
use Rattle.wb_store.specs.Scalars.{same}
use Rattle.wb_store.specs.ScalarLaws.{same_decides}
use Rattle.wb_store.specs.Contents.{Contents, Filled, members, kind, slot, has_object, is_containment, contains}
use Rattle.wb_store.specs.Relinking.{Link, link, stands}
use Rattle.wb_store.specs.Features.{opposite}
use Rattle.wb_validity.specs.Valid.{every_object, every_slot, is_abstract, is_of_class, room, is_of_feature, differ, holds_back, is_held_back, AreContainedOnce, NoneIsWithinItself, RootsAreUncontained, Valid}
use Rattle.wb_model.proofs.Ends.{Opposed}
use Rattle.wb_validity.proofs.LinkLemmas.{any_found}
use Rattle.wb_validity.proofs.Trees.{at_slot}
use Rattle.wb_store.proofs.Maps.{slot_cmp_total, slot_cmp-IsAntisymmetric}
use Rattle.wb_store.proofs.Members.{In, all_In, In-all, any_In, find-In}
use Rattle.wb_store.proofs.Members.In.{here, there}
use Rattle.wb_store.proofs.Relinked.{true-of}

-- ---- tests of the entries of a map

less : (r : Ordering) → is_lt r ≡ true → r ≡ Less
less Less h = refl
less Ordering.Equal h = absurd (false≢true h)
less Ordering.Greater h = absurd (false≢true h)

later_apart : {K : Type 0} {R : K → K → Ordering} → IsTotalOrder R → (a b : K) → is_lt (R a b) ≡ true → eq_by_cmp R b a ≡ false
later_apart total a b h = ap is_eq (total.antisymm b a ∙ ap ordering_reverse (less _ h))

module _ {K X : Type 0} {R : K → K → Ordering} (total : IsTotalOrder R) where
  below-In : (k : K) (es : List (K × X)) (e : K × X) → below_all R k es ≡ true → In e es → is_lt (R k e.0) ≡ true
  below-In k [] e h m = elim m [ ]
  below-In k (d ∷ es) e h here = (and_parts _ _ h).0
  below-In k (d ∷ es) e h (there m) = below-In k es e (and_parts _ _ h).1 m

  sorted-find : (es : List (K × X)) (e : K × X) → is_sorted R es ≡ true → In e es → find R e.0 es ≡ Some e.1
  sorted-find [] e h m = elim m [ ]
  sorted-find (d ∷ es) e h here = ap (λ r. cond (is_eq r) (Some e.1) (find R e.0 es)) (tied_itself total e.0)
  sorted-find (d ∷ es) e h (there m) =
      ap (λ b. cond b (Some d.1) (find R e.0 es)) (later_apart total d.0 e.0 (below-In d.0 es e (and_parts _ _ h).0 m)) ∙ sorted-find es e (and_parts _ _ h).1 m

  module _ (same : IsAntisymmetric R) (m : FinMap R X) (passes : K × X → Bool) where
    -- a test that every entry passes is passed by what the map has, and the other way round
    pub every-get : list_all passes (entries m) ≡ true → (k : K) (x : X) → get m k ≡ Some x → passes (k, x) ≡ true
    every-get h k x e = In-all passes (entries m) (k, x) h (find-In total same (entries m) k x (sym (get-entries m k) ∙ e))

    pub get-every : ((k : K) (x : X) → get m k ≡ Some x → passes (k, x) ≡ true) → list_all passes (entries m) ≡ true
    get-every h = all_In passes (entries m) (λ e i. h e.0 e.1 (get-entries m e.0 ∙ sorted-find (entries m) e (true-of _ (entries_sorted m)) i))

-- an entry of the slots is what they have at its object and feature
pub entry-In : (m : Contents) (e : (ℕ × ℕ) × Filled) → In e (entries m.slots) → get m.slots e.0 ≡ Some e.1
entry-In m e i = get-entries m.slots e.0 ∙ sorted-find slot_cmp_total (entries m.slots) e (true-of _ (entries_sorted m.slots)) i

pub In-entry : (m : Contents) (o f : ℕ) (values : Filled) → get m.slots (o, f) ≡ Some values → In ((o, f), values) (entries m.slots)
In-entry m o f values e = find-In slot_cmp_total slot_cmp-IsAntisymmetric (entries m.slots) (o, f) values (sym (get-entries m.slots (o, f)) ∙ e)

-- ---- links that stand in a model

abbrev pub Stands : Contents → Link → Type 0
Stands m l = In l.value (slot m l.object l.feature)

itself : (v : Scalar) → same v v ≡ true
itself v = (same_decides v v).1 refl

pub stands-In : (m : Contents) (l : Link) → stands m l ≡ true → Stands m l
stands-In m l h =
    let r = any_found (λ v. same v l.value) (slot m l.object l.feature) h in
    subst (λ v. In v (slot m l.object l.feature)) ((same_decides r.0 l.value).0 r.2) r.1

pub In-stands : (m : Contents) (l : Link) → Stands m l → stands m l ≡ true
In-stands m l h = any_In (λ v. same v l.value) (slot m l.object l.feature) l.value h (itself l.value)

pub absent : (m : Contents) (l : Link) → stands m l ≡ false → Stands m l → ⊥
absent m l e h = false≢true (sym e ∙ In-stands m l h)

pub contains-parts : (m : Contents) (p f o : ℕ) → contains m p f o ≡ true → (is_containment m.metamodel f ≡ true) × Stands m (link p f (Object o))
contains-parts m p f o h = let both = and_parts _ _ h in (both.0, stands-In m (link p f (Object o)) both.1)

pub contains-from : (m : Contents) (p f o : ℕ) → is_containment m.metamodel f ≡ true → Stands m (link p f (Object o)) → contains m p f o ≡ true
contains-from m p f o c s = and_from _ _ c (In-stands m (link p f (Object o)) s)

-- ---- what is true of each

pub record Sound (m : Contents) : Type 0 where
  pub next_spent : (ltb 0 m.next && ltb m.next (2 ^ 32)) ≡ true
  pub numbers : (o c : ℕ) → kind m o ≡ Some c → (ltb 0 o && ltb o m.next) ≡ true
  pub concrete : (o c : ℕ) → kind m o ≡ Some c → not (is_abstract m.metamodel c) ≡ true
  pub of_class : (l : Link) → Stands m l → is_of_class m l.object l.feature ≡ true
  pub has_room : (o f : ℕ) → length (slot m o f) ≤ room m.metamodel f
  pub of_kind : (l : Link) → Stands m l → is_of_feature m l.feature l.value ≡ true
  pub values_differ : (o f : ℕ) → differ (slot m o f) ≡ true
  pub agree : (l k : Link) → Stands m l → Opposed m.metamodel l k → Stands m k
  pub few : len m.kinds ≤ 20000

pub record Housed (m : Contents) : Type 0 where
  pub once : AreContainedOnce m
  pub no_ring : NoneIsWithinItself m
  pub roots : RootsAreUncontained m

objects-pass : (m : Contents) (passes : ℕ → ℕ → Bool) → every_object m passes ≡ true → (o c : ℕ) → kind m o ≡ Some c → passes o c ≡ true
objects-pass m passes h o c e = every-get nat_cmp_total nat_cmp-IsAntisymmetric m.kinds (λ (e : ℕ × ℕ). passes e.0 e.1) h o c e

pass-objects : (m : Contents) (passes : ℕ → ℕ → Bool) → ((o c : ℕ) → kind m o ≡ Some c → passes o c ≡ true) → every_object m passes ≡ true
pass-objects m passes h = get-every nat_cmp_total nat_cmp-IsAntisymmetric m.kinds (λ (e : ℕ × ℕ). passes e.0 e.1) h

-- a test that every slot passes is passed by each, where it is passed by no values
slots-all : (m : Contents) (passes : ℕ → ℕ → List Scalar → Bool) → every_slot m passes ≡ true → (o f : ℕ) → passes o f [] ≡ true → passes o f (slot m o f) ≡ true
slots-all m passes h o f none =
    elim (slot m o f) as (λ vs. slot m o f ≡ vs → passes o f vs ≡ true) [
      | [] ↦ λ e. none
      | v ∷ vs ↦ λ e. subst (λ ws. passes o f ws ≡ true) e (at_slot m passes h o f v (subst (In v) (sym e) here))
    ] refl

pass-slots : (m : Contents) (passes : ℕ → ℕ → List Scalar → Bool) → ((o f : ℕ) (v : Scalar) → In v (slot m o f) → passes o f (slot m o f) ≡ true) → every_slot m passes ≡ true
pass-slots m passes h =
    get-every slot_cmp_total slot_cmp-IsAntisymmetric m.slots (λ (e : (ℕ × ℕ) × Filled). passes e.0.0 e.0.1 (members e.1))
    (λ k values e.
    let at : slot m k.0 k.1 ≡ members values = ap (λ r. option_map_or members r []) e in
    subst (λ vs. passes k.0 k.1 vs ≡ true) at (h k.0 k.1 values.first (subst (In values.first) (sym at) here)))

-- ---- opposites

back-held : (m : Contents) (l k : Link) → Opposed m.metamodel l k → is_held_back m l.object l.feature l.value ≡ true → Stands m k
back-held m l k o h =
    let held : holds_back m l.object l.feature k.object ≡ true = ap (is_held_back m l.object l.feature) (sym o.to) ∙ h in
    let has : has_object (slot m k.object k.feature) l.object ≡ true = ap (λ r. option_map_or (λ g. has_object (slot m k.object g) l.object) r true) (sym o.features) ∙ held in
    subst (λ v. In v (slot m k.object k.feature)) (sym o.from) (stands-In m (link k.object k.feature (Object l.object)) has)

held-back : (m : Contents) (o f : ℕ) (v : Scalar) → ((k : Link) → Opposed m.metamodel (link o f v) k → Stands m k) → is_held_back m o f v ≡ true
held-back m o f (Int n) h = refl
held-back m o f (Boolean b) h = refl
held-back m o f (Text t) h = refl
held-back m o f (Literal e n) h = refl
held-back m o f (Object p) h =
    elim (opposite m.metamodel f) as (λ r. opposite m.metamodel f ≡ r → option_map_or (λ g. has_object (slot m p g) o) r true ≡ true) [
      | None ↦ λ e. refl
      | Some g ↦ λ e. In-stands m (link p g (Object o)) (h (link p g (Object o)) (record { features = e; to = refl; from = refl }))
    ] refl

-- ---- validity in these words

pub sound-from : (m : Contents) → Valid m → Sound m
sound-from m v = record {
  next_spent = (and_parts _ _ v.numbers_are_spent).0;
  numbers = objects-pass m (λ o c. ltb 0 o && ltb o m.next) (and_parts _ _ v.numbers_are_spent).1;
  concrete = objects-pass m (λ o c. not (is_abstract m.metamodel c)) v.classes_are_concrete;
  of_class = λ l s. at_slot m (λ o f values. is_of_class m o f) v.slots_are_of_classes l.object l.feature l.value s;
  has_room = λ o f. leb-true _ _ (slots-all m (λ o f values. leb (length values) (room m.metamodel f)) v.slots_have_room o f (le-leb _ _ (omega arith)));
  of_kind = λ l s. In-all (is_of_feature m l.feature) (slot m l.object l.feature) l.value (slots-all m (λ o f values. list_all (is_of_feature m f) values) v.values_are_of_kinds l.object l.feature refl) s;
  values_differ = λ o f. slots-all m (λ o f values. differ values) v.values_differ o f refl;
  agree = λ l k s o. back-held m l k o (In-all (is_held_back m l.object l.feature) (slot m l.object l.feature) l.value (slots-all m (λ o f values. list_all (is_held_back m o f) values) v.opposites_agree l.object l.feature refl) s);
  few = v.few_objects;
}

pub housed-from : (m : Contents) → Valid m → Housed m
housed-from m v = record { once = v.are_contained_once; no_ring = v.none_is_within_itself; roots = v.roots_are_uncontained }

pub valid-from : (m : Contents) → Sound m → Housed m → Valid m
valid-from m s h = record {
  numbers_are_spent = and_from _ _ s.next_spent (pass-objects m (λ o c. ltb 0 o && ltb o m.next) s.numbers);
  classes_are_concrete = pass-objects m (λ o c. not (is_abstract m.metamodel c)) s.concrete;
  slots_are_of_classes = pass-slots m (λ o f values. is_of_class m o f) (λ o f v i. s.of_class (link o f v) i);
  slots_have_room = pass-slots m (λ o f values. leb (length values) (room m.metamodel f)) (λ o f v i. le-leb _ _ (s.has_room o f));
  values_are_of_kinds = pass-slots m (λ o f values. list_all (is_of_feature m f) values) (λ o f v i. all_In (is_of_feature m f) (slot m o f) (λ w j. s.of_kind (link o f w) j));
  values_differ = pass-slots m (λ o f values. differ values) (λ o f v i. s.values_differ o f);
  opposites_agree = pass-slots m (λ o f values. list_all (is_held_back m o f) values) (λ o f v i. all_In (is_held_back m o f) (slot m o f) (λ w j. held-back m o f w (λ k q. s.agree (link o f w) k j q)));
  are_contained_once = h.once;
  none_is_within_itself = h.no_ring;
  roots_are_uncontained = h.roots;
  few_objects = s.few;
}
