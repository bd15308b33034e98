-- The tree of an object is what it contains, directly or through others.
use Rattle.std.proofs.Common.{◌≡◌, ℕ, ◌<◌, ◌≤◌, zero, suc, true, false, not, List, [], ◌∷◌, length, map, sym, subst, ◌∙◌, cond, eqb, arith, ⊎_elim, ◌↔◌}
use Rattle.std.proofs.lemmas.Bool.{not_from_false, eqb-true, ne_eqb}
use Rattle.std.proofs.lemmas.List.{length-map}
use Rattle.std.specs.Prelude.{filter, IsSome}
use Rattle.std.specs.Option.{option_map_or}
use Rattle.std.specs.FinMap.{entries, len, len-entries}
use Rattle.wb_metamodel.specs.Metamodel.{features_of}
use Rattle.wb_store.specs.declared.scalars.Scalar.{Scalar}
use Rattle.wb_store.specs.declared.scalars.Scalar.TheVariants.{Int, Bool as Boolean, Text, Literal, Object}
use Rattle.wb_store.specs.Contents.{Contents, kind, slot, is_containment, contains}
use Rattle.wb_store.specs.Cells.{objects_in, features, content, tree_within, tree}
use Rattle.wb_validity.specs.Valid.{has_feature, is_of_class, Within, NoneIsWithinItself}
use Rattle.wb_validity.specs.Valid.Within.{directly, through}
use Rattle.wb_store.specs.Relinking.{link, is_among}
use Rattle.wb_store.proofs.Filtered.{In-cons, In-filter, filter-few}
use Rattle.wb_store.proofs.Found.{is_itself}
use Rattle.wb_validity.proofs.LinkLemmas.{any_found}
use Rattle.wb_validity.proofs.Trees.{content-contains, live_In}
use Rattle.wb_model.proofs.Live.{kind-at, holder-live, contained-live}
use Rattle.wb_store.proofs.Members.{In, In-flat_map, flat_map-In, any_In}
use Rattle.wb_store.proofs.Members.In.{here, there}
use Rattle.wb_model.proofs.Rehoused.{within-joined, within-first}
use Rattle.wb_model.proofs.Sound.{contains-parts, Sound}

-- ---- what an object contains directly

objects-later : (v : Scalar) (vs : List Scalar) (o : ℕ) → In o (objects_in vs) → In o (objects_in (v ∷ vs))
objects-later (Int n) vs o m = m
objects-later (Boolean b) vs o m = m
objects-later (Text t) vs o m = m
objects-later (Literal e n) vs o m = m
objects-later (Object p) vs o m = there m

In-objects : (vs : List Scalar) (o : ℕ) → In (Object o) vs → In o (objects_in vs)
In-objects [] o m = elim m [ ]
In-objects (v ∷ vs) o m =
    ⊎_elim (λ e. subst (λ w. In o (objects_in (w ∷ vs))) (sym e) here) (λ n. objects-later v vs o (In-objects vs o n)) (In-cons v vs (Object o) m)

In-features : (m : Contents) (o f : ℕ) → is_of_class m o f ≡ true → In f (features m o)
In-features m o f h =
    let c = kind-at m o (λ c. has_feature m.metamodel c f) h in
    let r = any_found (λ feature. eqb feature f) (features_of m.metamodel c.0) c.2 in
    subst (λ k. In f (option_map_or (features_of m.metamodel) k [])) (sym c.1) (subst (λ z. In z (features_of m.metamodel c.0)) (eqb-true r.0 f r.2) r.1)

module _ (m : Contents) (s : Sound m) where
  pub In-content : (o f p : ℕ) → contains m o f p ≡ true → In p (content m o)
  In-content o f p h =
      let parts = contains-parts m o f p h in
      In-flat_map (λ f. objects_in (slot m o f)) (filter (is_containment m.metamodel) (features m o)) f p
      (In-filter (is_containment m.metamodel) (features m o) f (In-features m o f (s.of_class (link o f (Object p)) parts.1)) parts.0)
      (In-objects (slot m o f) p parts.1)

-- ---- what it contains at all

within-In : (m : Contents) (n o p : ℕ) → In p (tree_within m n o) → Within m o p
unfolding tree_within
within-In m zero o p i = elim i [ ]
within-In m (suc n) o p i =
    let r = flat_map-In (λ p. p ∷ tree_within m n p) (content m o) p i in
    let c = content-contains m o r.0 r.1 in
    ⊎_elim
    (λ e. directly c.0 (subst (λ z. contains m o c.0 z ≡ true) e c.1))
    (λ later. within-joined m o r.0 p (directly c.0 c.1) (within-In m n r.0 p later))
    (In-cons r.0 (tree_within m n r.0) p r.2)

pub tree-within : (m : Contents) (o p : ℕ) → In p (tree m o) → Within m o p
tree-within m o p i = within-In m (len m.kinds) o p i

-- a list without a number that it has is shorter
fewer : (xs : List ℕ) (x : ℕ) → In x xs → length (filter (λ y. not (eqb y x)) xs) < length xs
fewer [] x m = elim m [ ]
fewer (z ∷ xs) x here =
    let few = filter-few (λ y. not (eqb y x)) xs in
    subst (λ b. length (cond (not b) (x ∷ filter (λ y. not (eqb y x)) xs) (filter (λ y. not (eqb y x)) xs)) < length (x ∷ xs)) (sym (is_itself x)) (omega arith)
fewer (y ∷ xs) x (there m) =
    let few = fewer xs x m in
    elim (eqb y x) as (λ b. length (cond (not b) (y ∷ filter (λ y. not (eqb y x)) xs) (filter (λ y. not (eqb y x)) xs)) < length (y ∷ xs)) [
      | true ↦ omega arith
      | false ↦ omega arith
    ]

none_fewer : (os : List ℕ) (o : ℕ) → length os ≤ 0 → In o os → ⊥
none_fewer [] o few i = elim i [ ]
none_fewer (p ∷ os) o few i = absurd (omega arith)

module _ (m : Contents) (s : Sound m) (none : NoneIsWithinItself m) where
  -- where all that is below an object stands in a list, no way down is longer than the list
  In-within : (n : ℕ) (os : List ℕ) (o p : ℕ) → length os ≤ n → In o os → ((q : ℕ) → Within m o q → In q os) → Within m o p → In p (tree_within m n o)
  unfolding tree_within
  In-within zero os o p few i below w = absurd (none_fewer os o few i)
  In-within (suc n) os o p few i below w =
      let first = within-first m o p w in
      let q = first.1 in
      let step : Within m o q = directly first.0 first.2 in
      let rest = filter (λ y. not (eqb y o)) os in
      let shorter : length rest < length os = fewer os o i in
      let left : (x : ℕ) → Within m o x → In x rest = λ x v. In-filter (λ y. not (eqb y o)) os x (below x v) (not_from_false _ (ne_eqb x o (λ e. none o (subst (Within m o) e v)))) in
      In-flat_map (λ p. p ∷ tree_within m n p) (content m o) q p (In-content m s o first.0 q first.2)
      (⊎_elim
      (λ e. subst (λ z. In z (q ∷ tree_within m n q)) e here)
      (λ v. there (In-within n rest q p (omega arith) (left q step) (λ x u. left x (within-joined m o q x step u)) v))
      first.3)

  within-live : (o p : ℕ) → Within m o p → IsSome (kind m p)
  within-live o p (directly f h) = contained-live m s o f p h
  within-live o p (through {q = q} f w h) = contained-live m s q f p h

  -- no more objects stand above each other than are live
  pub within-tree : (o p : ℕ) → Within m o p → In p (tree m o)
  within-tree o p w =
      let first = within-first m o p w in
      let few : length (map (λ (e : ℕ × ℕ). e.0) (entries m.kinds)) ≤ len m.kinds = subst (λ k. length (map (λ (e : ℕ × ℕ). e.0) (entries m.kinds)) ≤ k) (length-map (entries m.kinds) (λ (e : ℕ × ℕ). e.0) ∙ sym (len-entries m.kinds)) (omega arith) in
      In-within (len m.kinds) (map (λ (e : ℕ × ℕ). e.0) (entries m.kinds)) o p few
      (live_In m o (holder-live m s o first.0 first.1 first.2))
      (λ q v. live_In m q (within-live o q v)) w

-- ---- membership as a test

pub among-In : (os : List ℕ) (o : ℕ) → is_among os o ≡ true → In o os
among-In os o h = let r = any_found (λ p. eqb p o) os h in subst (λ z. In z os) (eqb-true r.0 o r.2) r.1

pub In-among : (os : List ℕ) (o : ℕ) → In o os → is_among os o ≡ true
In-among os o i = any_In (λ p. eqb p o) os o i (is_itself o)

-- the tree of an object in a valid model is what stands within it
pub tree-decides : (m : Contents) → Sound m → NoneIsWithinItself m → (o p : ℕ) → (is_among (tree m o) p ≡ true) ↔ Within m o p
tree-decides m s none o p = (λ h. tree-within m o p (among-In (tree m o) p h), λ w. In-among (tree m o) p (within-tree m s none o p w))
