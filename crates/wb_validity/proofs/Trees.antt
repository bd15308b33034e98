-- What an object of a valid model contains, and that a tree is made of the trees of what its object contains.
use Rattle.std.proofs.Common.{◌≡◌, ℕ, ◌<◌, ◌≤◌, suc, zero, Bool, true, false, List, [], ◌∷◌, ◌++◌, length, Some, None, refl, sym, ap, subst, ◌∙◌, cond, arith, append_assoc, reverse}
use Rattle.std.proofs.lemmas.Bool.{and_from, false≢true, false_from_ne_true}
use Rattle.std.proofs.lemmas.Cmp.{nat_cmp_total}
use Rattle.std.proofs.Math.ListN.{length-map}
use Rattle.std.proofs.lemmas.Grind.{flat_map-append}
use Rattle.std.proofs.lemmas.List.{reverse-append, reverse-reverse}
use Rattle.std.specs.Prelude.{filter, IsSome}
use Rattle.std.specs.Option.{option_map_or}
use Rattle.std.specs.List.{flat_map, list_all}
use Rattle.std.specs.FinMap.{entries, get, keys, len, get-entries, len-entries, nat_cmp-IsAntisymmetric}
use Rattle.wb_metamodel.specs.Metamodel.{features_of, feature_at, conforms}
use Rattle.wb_ecore.specs.declared.features.Feature.{Feature}
use Rattle.wb_ecore.specs.declared.features.Kind.{Kind}
use Rattle.wb_ecore.specs.declared.features.Kind.TheVariants.{Int as IntKind, Bool as BoolKind, Text as TextKind, Enum, Reference}
use Rattle.wb_store.specs.declared.scalars.Scalar.{Scalar}
use Rattle.wb_store.specs.declared.scalars.Scalar.TheVariants.{Int, Bool as Boolean, Text, Literal, Object}
use Rattle.wb_store.specs.Scalars.{same}
use Rattle.wb_store.specs.Contents.{Contents, Filled, members, kind, slot, is_containment, contains}
use Rattle.wb_store.specs.Cells.{objects_in, features, content, tree_within, tree}
use Rattle.wb_validity.specs.Valid.{every_slot, conforms_to, is_of_kind, is_of_feature, Valid, IsValid}
use Rattle.wb_validity.specs.Valid.Within.{directly}
use Rattle.wb_validity.specs.ValidTest.{is_within}
use Rattle.wb_store.proofs.Filtered.{filter-In}
use Rattle.wb_store.proofs.Found.{is_itself}
use Rattle.wb_store.proofs.Maps.{slot_cmp_total, slot_cmp-IsAntisymmetric}
use Rattle.wb_store.proofs.Members.{In, In-all, any_In, In-map, flat_map-In, find-In}
use Rattle.wb_store.proofs.Members.In.{here, there}
use Rattle.wb_validity.proofs.Climbing.{within_under}
use Rattle.wb_validity.proofs.ValidTest.{is_within-decides}

-- ---- lists

module _ {A : Type 0} where
  pub flat_map-same : {B : Type 0} (f g : A → List B) (xs : List A) → ((x : A) → In x xs → f x ≡ g x) → flat_map f xs ≡ flat_map g xs
  flat_map-same f g [] h = refl
  flat_map-same f g (x ∷ xs) h = λ i. h x here i ++ flat_map-same f g xs (λ y m. h y (there m)) i

  fewer : (p q : A → Bool) (xs : List A) → ((x : A) → p x ≡ true → q x ≡ true) → length (filter p xs) ≤ length (filter q xs)
  fewer p q [] h = omega arith
  fewer p q (x ∷ xs) h =
      let rest = fewer p q xs h in
      elim (p x) as (λ b. p x ≡ b → length (cond b (x ∷ filter p xs) (filter p xs)) ≤ length (filter q (x ∷ xs))) [
        | true ↦ λ e. subst (λ b. suc (length (filter p xs)) ≤ length (cond b (x ∷ filter q xs) (filter q xs))) (sym (h x e)) (omega (arith, rest))
        | false ↦ λ e. elim (q x) as (λ b. length (filter p xs) ≤ length (cond b (x ∷ filter q xs) (filter q xs))) [ true ↦ omega (arith, rest) | false ↦ rest ]
      ] refl

  -- one more passes the weaker test
  pub one_fewer : (p q : A → Bool) (xs : List A) (k : A) → ((x : A) → p x ≡ true → q x ≡ true) → In k xs → p k ≡ false → q k ≡ true → length (filter p xs) < length (filter q xs)
  one_fewer p q [] k h m low high = elim m [ ]
  one_fewer p q (z ∷ xs) k h here low high =
      let rest = fewer p q xs h in
      subst (λ b. length (cond b (k ∷ filter p xs) (filter p xs)) < length (filter q (k ∷ xs))) (sym low)
      (subst (λ b. length (filter p xs) < length (cond b (k ∷ filter q xs) (filter q xs))) (sym high) (omega (arith, rest)))
  one_fewer p q (x ∷ xs) k h (there m) low high =
      let rest = one_fewer p q xs k h m low high in
      elim (p x) as (λ b. p x ≡ b → length (cond b (x ∷ filter p xs) (filter p xs)) < length (filter q (x ∷ xs))) [
        | true ↦ λ e. subst (λ b. suc (length (filter p xs)) < length (cond b (x ∷ filter q xs) (filter q xs))) (sym (h x e)) (omega (arith, rest))
        | false ↦ λ e. elim (q x) as (λ b. length (filter p xs) < length (cond b (x ∷ filter q xs) (filter q xs))) [ true ↦ omega (arith, rest) | false ↦ rest ]
      ] refl

  pub all_pass : (xs : List A) → length (filter (λ x. true) xs) ≡ length xs
  all_pass [] = refl
  all_pass (x ∷ xs) = let rest = all_pass xs in omega (arith, rest)

object_in : (o : ℕ) (values : List Scalar) (p : ℕ) → (In p (objects_in values) → In (Object p) values) → In p (o ∷ objects_in values) → In (Object p) (Object o ∷ values)
object_in q values p rest here = here
object_in o values p rest (there m) = there (rest m)

pub objects-In : (values : List Scalar) (p : ℕ) → In p (objects_in values) → In (Object p) values
objects-In [] p m = elim m [ ]
objects-In (Int n ∷ values) p m = there (objects-In values p m)
objects-In (Boolean b ∷ values) p m = there (objects-In values p m)
objects-In (Text t ∷ values) p m = there (objects-In values p m)
objects-In (Literal e l ∷ values) p m = there (objects-In values p m)
objects-In (Object o ∷ values) p m = object_in o values p (objects-In values p) m

-- ---- slots

-- a test that every slot passes is passed by the values of each
pub at_slot : (m : Contents) (passes : ℕ → ℕ → List Scalar → Bool) → every_slot m passes ≡ true → (o f : ℕ) (v : Scalar) → In v (slot m o f) → passes o f (slot m o f) ≡ true
at_slot m passes h o f v i =
    elim (get m.slots (o, f)) as (λ s. get m.slots (o, f) ≡ s → In v (option_map_or members s []) → passes o f (option_map_or members s []) ≡ true) [
      | None ↦ λ e i. elim i [ ]
      | Some values ↦ λ e i. In-all (λ (e : (ℕ × ℕ) × Filled). passes e.0.0 e.0.1 (members e.1)) (entries m.slots) ((o, f), values) h
          (find-In slot_cmp_total slot_cmp-IsAntisymmetric (entries m.slots) (o, f) values (sym (get-entries m.slots (o, f)) ∙ e))
    ] refl i

live_if_conforms : (m : Contents) (c p : ℕ) → conforms_to m c p ≡ true → IsSome (kind m p)
live_if_conforms m c p h =
    elim (kind m p) as (λ k. option_map_or (λ d. conforms m.metamodel d c) k false ≡ true → IsSome k) [
      | None ↦ λ h. absurd (false≢true h)
      | Some d ↦ λ h. refl
    ] h

pub live_if_of_kind : (m : Contents) (k : Kind) (p : ℕ) → is_of_kind m k (Object p) ≡ true → IsSome (kind m p)
live_if_of_kind m IntKind p h = absurd (false≢true h)
live_if_of_kind m BoolKind p h = absurd (false≢true h)
live_if_of_kind m TextKind p h = absurd (false≢true h)
live_if_of_kind m (Enum e) p h = absurd (false≢true h)
live_if_of_kind m (Reference c) p h = live_if_conforms m c p h

pub live_if_of_feature : (m : Contents) (f p : ℕ) → is_of_feature m f (Object p) ≡ true → IsSome (kind m p)
live_if_of_feature m f p h =
    elim (feature_at m.metamodel f) as (λ r. option_map_or (λ (feature : Feature). is_of_kind m feature.kind (Object p)) r false ≡ true → IsSome (kind m p)) [
      | None ↦ λ h. absurd (false≢true h)
      | Some feature ↦ λ h. live_if_of_kind m feature.kind p h
    ] h

module _ (m : Contents) where
  pub live_In : (o : ℕ) → IsSome (kind m o) → In o (keys m.kinds)
  live_In o live =
      elim (kind m o) as (λ k. kind m o ≡ k → IsSome k → In o (keys m.kinds)) [
        | None ↦ λ e live. absurd (false≢true live)
        | Some c ↦ λ e live. In-map (λ (e : ℕ × ℕ). e.0) (entries m.kinds) (o, c) (find-In nat_cmp_total nat_cmp-IsAntisymmetric (entries m.kinds) o c (sym (get-entries m.kinds o) ∙ e))
      ] refl live

  -- what an object contains stands in a containment slot of it
  pub content-slot : (o p : ℕ) → In p (content m o) → (f : ℕ) × In f (features m o) × (is_containment m.metamodel f ≡ true) × In (Object p) (slot m o f)
  content-slot o p i =
      let s = flat_map-In (λ f. objects_in (slot m o f)) (filter (is_containment m.metamodel) (features m o)) p i in
      let f = filter-In (is_containment m.metamodel) (features m o) s.0 s.1 in
      (s.0, f.0, f.1, objects-In (slot m o s.0) p s.2)

  pub content-contains : (o p : ℕ) → In p (content m o) → (f : ℕ) × (contains m o f p ≡ true)
  content-contains o p i =
      let s = content-slot o p i in
      (s.0, and_from _ _ s.2 (any_In (λ value. same value (Object p)) (slot m o s.0) (Object p) s.3 (is_itself p)))

  no_content : (o : ℕ) → kind m o ≡ None → content m o ≡ []
  no_content o e = ap (λ k. flat_map (λ f. objects_in (slot m o f)) (filter (is_containment m.metamodel) (option_map_or (features_of m.metamodel) k []))) e

  no_tree : (n o : ℕ) → content m o ≡ [] → tree_within m n o ≡ []
  unfolding tree_within
  no_tree zero o e = refl
  no_tree (suc n) o e = ap (flat_map (λ p. p ∷ tree_within m n p)) e

  -- how many live objects stand below an object
  below : ℕ → ℕ
  below o = length (filter (is_within m o) (keys m.kinds))

  module _ (valid : Valid m) where
    pub content-live : (o p : ℕ) → In p (content m o) → IsSome (kind m p)
    content-live o p i =
        let s = content-slot o p i in
        live_if_of_feature m s.0 p
        (In-all (is_of_feature m s.0) (slot m o s.0) (Object p) (at_slot m (λ o f values. list_all (is_of_feature m f) values) valid.values_are_of_kinds o s.0 (Object p) s.3) s.3)

    apart : (o : ℕ) → is_within m o o ≡ false
    apart o = false_from_ne_true (is_within m o o) (λ h. valid.none_is_within_itself o ((is_within-decides m o o).0 h))

    falls : (o p : ℕ) → In p (content m o) → below p < below o
    unfolding below
    falls o p i =
        let held = content-contains o p i in
        one_fewer (is_within m p) (is_within m o) (keys m.kinds) p
        (λ q h. (is_within-decides m o q).1 (within_under m o held.0 p q held.1 ((is_within-decides m p q).0 h)))
        (live_In p (content-live o p i)) (apart p) ((is_within-decides m o p).1 (directly held.0 held.1))

    inside : (o : ℕ) → IsSome (kind m o) → below o < len m.kinds
    unfolding below
    inside o live =
        let less = one_fewer (is_within m o) (λ x. true) (keys m.kinds) o (λ q h. refl) (live_In o live) (apart o) refl in
        let all = all_pass (keys m.kinds) in
        let keys_are = length-map (entries m.kinds) (λ (e : ℕ × ℕ). e.0) in
        omega (arith, less, all, keys_are, len-entries m.kinds)

    -- more depth adds nothing
    still : (n k o : ℕ) → below o < n → below o < k → tree_within m n o ≡ tree_within m k o
    unfolding tree_within
    still zero k o h l = absurd (omega (arith, h))
    still (suc n) zero o h l = absurd (omega (arith, l))
    still (suc n) (suc k) o h l =
        flat_map-same (λ p. p ∷ tree_within m n p) (λ p. p ∷ tree_within m k p) (content m o)
        (λ p i. let less = falls o p i in ap (λ ps. p ∷ ps) (still n k p (omega (arith, less, h)) (omega (arith, less, l))))

    deeper : (n o : ℕ) → tree_within m (suc n) o ≡ flat_map (λ p. p ∷ tree_within m n p) (content m o)
    unfolding tree_within
    deeper n o = refl

    tree_of : (o : ℕ) → tree m o ≡ flat_map (λ p. p ∷ tree m p) (content m o)
    tree_of o =
        elim (kind m o) as (λ k. kind m o ≡ k → tree m o ≡ flat_map (λ p. p ∷ tree m p) (content m o)) [
          | None ↦ λ e. let none = no_content o e in no_tree (len m.kinds) o none ∙ sym (ap (flat_map (λ p. p ∷ tree m p)) none)
          | Some c ↦ λ e. let low = inside o (subst IsSome (sym e) refl) in still (len m.kinds) (suc (len m.kinds)) o low (omega (arith, low)) ∙ deeper (len m.kinds) o
        ] refl

  -- the tree of an object is what it contains, each with its own tree after it
  pub tree-content : IsValid m → (o : ℕ) → tree m o ≡ flat_map (λ p. p ∷ tree m p) (content m o)
  unfolding IsValid
  tree-content valid o = tree_of valid o

-- ---- a walk over a tree, with the objects to come, the next one last

abbrev pub trees : Contents → List ℕ → List ℕ
trees m os = flat_map (λ p. p ∷ tree m p) os

module _ (m : Contents) (valid : IsValid m) where
  pub walk_begins : (o : ℕ) → trees m (reverse (reverse (content m o))) ≡ tree m o
  walk_begins o = ap (trees m) (reverse-reverse (content m o)) ∙ sym (tree-content m valid o)

  module _ (rest : List ℕ) (p : ℕ) (old next inner : List ℕ) (popped : old ≡ rest ++ p ∷ []) (within : inner ≡ reverse (content m p)) (more : next ≡ rest ++ inner) where
    before : trees m (reverse old) ≡ p ∷ (tree m p ++ trees m (reverse rest))
    before = ap (λ os. trees m (reverse os)) popped ∙ ap (trees m) (reverse-append rest (p ∷ []))

    after : trees m (reverse next) ≡ tree m p ++ trees m (reverse rest)
    after =
        ap (λ os. trees m (reverse os)) (more ∙ ap (λ os. rest ++ os) within)
        ∙ ap (trees m) (reverse-append rest (reverse (content m p)) ∙ ap (λ os. os ++ reverse rest) (reverse-reverse (content m p)))
        ∙ flat_map-append (λ p. p ∷ tree m p) (content m p) (reverse rest)
        ∙ ap (λ os. os ++ trees m (reverse rest)) (sym (tree-content m valid p))

    pub walk_smaller : length (trees m (reverse next)) < length (trees m (reverse old))
    walk_smaller = let a = ap (λ (os : List ℕ). length os) before in let b = ap (λ (os : List ℕ). length os) after in omega (arith, a, b)

    pub walk_goes_on : (done visited : List ℕ) → visited ≡ done ++ p ∷ [] → visited ++ trees m (reverse next) ≡ done ++ trees m (reverse old)
    walk_goes_on done visited e =
        ap (λ os. os ++ trees m (reverse next)) e
        ∙ append_assoc done (p ∷ []) (trees m (reverse next))
        ∙ ap (λ os. done ++ (p ∷ os)) after
        ∙ ap (λ os. done ++ os) (sym before)
