-- The two ends of a link, in a metamodel whose opposites name each other back.
use Rattle.std.proofs.Common.{◌≡◌, ◌≢◌, ℕ, Bool, true, false, List, [], ◌∷◌, Option, Some, None, refl, sym, ap, subst, ◌∙◌, ◌⊎◌, inl, inr, ⊎_elim}
use Rattle.std.proofs.lemmas.Bool.{and_parts, and_from, or_left, not-true, not_from_false}
use Rattle.std.proofs.lemmas.Option.{none-some, same_Some}
use Rattle.std.specs.Option.{option_map_or}
use Rattle.std.specs.List.{list_any}
use Rattle.wb_ecore.specs.declared.features.Feature.{Feature}
use Rattle.wb_metamodel.specs.Metamodel.{Metamodel, feature_at}
use Rattle.wb_metamodel.specs.WellFormed.{WellFormed, AreOpposite}
use Rattle.wb_store.specs.declared.scalars.Scalar.{Scalar}
use Rattle.wb_store.specs.declared.scalars.Scalar.TheVariants.{Int, Bool as Boolean, Text, Literal, Object}
use Rattle.wb_store.specs.Contents.{is_containment}
use Rattle.wb_store.specs.Cells.{is_container_reference, is_plain}
use Rattle.wb_store.specs.Features.{is_many, opposite}
use Rattle.wb_store.specs.Relinking.{Link, link, back, other_end, both_ends}
use Rattle.wb_store.proofs.Filtered.{In-cons}
use Rattle.wb_validity.proofs.LinkLemmas.{any_found}
use Rattle.wb_store.proofs.Members.{In, any_In}
use Rattle.wb_store.proofs.Members.In.{here, there}

-- ---- opposite features

-- two features of a metamodel that are opposites
pub record Opposites (mm : Metamodel) (f g : ℕ) : Type 0 where
  pub feature : Feature
  pub other : Feature
  pub is_feature : feature_at mm f ≡ Some feature
  pub is_other : feature_at mm g ≡ Some other
  pub opposed : AreOpposite f feature g other

module _ (mm : Metamodel) (well : WellFormed mm) where
  pub opposites : (f g : ℕ) → opposite mm f ≡ Some g → Opposites mm f g
  opposites f g h =
      elim (feature_at mm f) as (λ r. feature_at mm f ≡ r → option_map_or (λ (feature : Feature). feature.opposite) r None ≡ Some g → Opposites mm f g) [
        | None ↦ λ e h. absurd (none-some g h)
        | Some feature ↦ λ e h. let o = well.opposites f g feature e h in record { feature = feature; other = o.0; is_feature = e; is_other = o.1; opposed = o.2 }
      ] refl h

  pub opposite-back : (f g : ℕ) → opposite mm f ≡ Some g → opposite mm g ≡ Some f
  opposite-back f g h =
      let pair = opposites f g h in
      ap (λ o. option_map_or (λ (feature : Feature). feature.opposite) o None) pair.is_other ∙ pair.opposed.named_back

  pub opposite-apart : (f g : ℕ) → opposite mm f ≡ Some g → f ≢ g
  opposite-apart f g h = (opposites f g h).opposed.differ

  -- a container reference is no containment
  pub containment-one : (f g : ℕ) → opposite mm f ≡ Some g → is_containment mm f ≡ true → is_containment mm g ≡ false
  containment-one f g h c =
      let pair = opposites f g h in
      ap (λ o. option_map_or (λ (feature : Feature). feature.containment) o false) pair.is_other
      ∙ pair.opposed.one_containment (sym (ap (λ o. option_map_or (λ (feature : Feature). feature.containment) o false) pair.is_feature) ∙ c)

  -- and holds at most one object
  pub container-single : (f g : ℕ) → opposite mm f ≡ Some g → is_containment mm f ≡ true → is_many mm g ≡ false
  container-single f g h c =
      let pair = opposites g f (opposite-back f g h) in
      ap (λ o. option_map_or (λ (feature : Feature). feature.many) o false) pair.is_feature
      ∙ pair.opposed.single_container (sym (ap (λ o. option_map_or (λ (feature : Feature). feature.containment) o false) pair.is_other) ∙ c)

  pub plain-parts : (f : ℕ) → is_plain mm f ≡ true → (is_containment mm f ≡ false) × (is_container_reference mm f ≡ false)
  plain-parts f h = let both = and_parts _ _ h in (not-true _ both.0, not-true _ both.1)

  reference-at : (f g : ℕ) → opposite mm f ≡ Some g → is_container_reference mm f ≡ is_containment mm g
  reference-at f g h = ap (λ o. option_map_or (is_containment mm) o false) h

  -- the opposite of a plain feature is no containment
  pub plain-other : (f g : ℕ) → is_plain mm f ≡ true → opposite mm f ≡ Some g → is_containment mm g ≡ false
  plain-other f g h e = sym (reference-at f g e) ∙ (plain-parts f h).1

  pub plain-back : (f g : ℕ) → is_plain mm f ≡ true → opposite mm f ≡ Some g → is_plain mm g ≡ true
  plain-back f g h e =
      and_from _ _ (not_from_false _ (plain-other f g h e)) (not_from_false _ (reference-at g f (opposite-back f g e) ∙ (plain-parts f h).0))

-- ---- opposite links

-- the second link is the first from its other end
pub record Opposed (mm : Metamodel) (l k : Link) : Type 0 where
  pub features : opposite mm l.feature ≡ Some k.feature
  pub to : l.value ≡ Object k.object
  pub from : k.value ≡ Object l.object

back-Opposed : (mm : Metamodel) (l : Link) (r : Option ℕ) (v : Scalar) (k : Link) → opposite mm l.feature ≡ r → l.value ≡ v → In k (back l.object r v) → Opposed mm l k
back-Opposed mm l (Some g) (Object p) k e h m = ⊎_elim (λ s. subst (Opposed mm l) s (record { features = e; to = h; from = refl })) (λ n. elim n [ ]) (In-cons (link p g (Object l.object)) [] k m)
back-Opposed mm l (Some g) (Int n) k e h m = elim m [ ]
back-Opposed mm l (Some g) (Boolean n) k e h m = elim m [ ]
back-Opposed mm l (Some g) (Text n) k e h m = elim m [ ]
back-Opposed mm l (Some g) (Literal c n) k e h m = elim m [ ]
back-Opposed mm l None v k e h m = elim m [ ]

module _ (mm : Metamodel) where
  pub other_end-In : (l k : Link) → In k (other_end mm l) → Opposed mm l k
  other_end-In l k m = back-Opposed mm l (opposite mm l.feature) l.value k refl refl m

  pub other_end-is : (l k : Link) → Opposed mm l k → other_end mm l ≡ k ∷ []
  other_end-is l k h = (λ i. back l.object (h.features i) (h.to i)) ∙ (λ i. link k.object k.feature (sym h.from i) ∷ [])

  pub In-other_end : (l k : Link) → Opposed mm l k → In k (other_end mm l)
  In-other_end l k h = subst (In k) (sym (other_end-is l k h)) here

  pub In-both_ends : (l k : Link) → In k (both_ends mm l) → (l ≡ k) ⊎ Opposed mm l k
  In-both_ends l k m = ⊎_elim (λ s. inl s) (λ n. inr (other_end-In l k n)) (In-cons l (other_end mm l) k m)

  -- a link has another end, or has none
  pub other_end-cases : (l : Link) → (other_end mm l ≡ []) ⊎ ((k : Link) × Opposed mm l k × (other_end mm l ≡ k ∷ []))
  other_end-cases l = at (other_end mm l) refl
    where
      at : (ks : List Link) → other_end mm l ≡ ks → (other_end mm l ≡ []) ⊎ ((k : Link) × Opposed mm l k × (other_end mm l ≡ k ∷ []))
      at [] e = inl e
      at (k ∷ ks) e = let o = other_end-In l k (subst (In k) (sym e) here) in inr (k, o, other_end-is l k o)

  pub opposed-unique : (l j k : Link) → Opposed mm l j → Opposed mm l k → j ≡ k
  opposed-unique l j k a b =
      let f : j.feature ≡ k.feature = same_Some _ _ (sym a.features ∙ b.features) in
      let e : Object j.object ≡ Object k.object = sym a.to ∙ b.to in
      let o : j.object ≡ k.object = cc in
      let v : j.value ≡ k.value = a.from ∙ sym b.from in
      λ i. record { object = o i; feature = f i; value = v i }

  -- ---- a test at either end

  pub ends-this : (test : Link → Bool) (l : Link) → test l ≡ true → list_any test (both_ends mm l) ≡ true
  ends-this test l h = or_left _ _ h

  pub ends-that : (test : Link → Bool) (l k : Link) → Opposed mm l k → test k ≡ true → list_any test (both_ends mm l) ≡ true
  ends-that test l k o h = any_In test (both_ends mm l) k (there (In-other_end l k o)) h

  pub ends-cases : (test : Link → Bool) (l : Link) → list_any test (both_ends mm l) ≡ true → (test l ≡ true) ⊎ ((k : Link) × Opposed mm l k × (test k ≡ true))
  ends-cases test l h =
      let r = any_found test (both_ends mm l) h in
      ⊎_elim (λ s. inl (subst (λ z. test z ≡ true) (sym s) r.2)) (λ o. inr (r.0, o, r.2)) (In-both_ends l r.0 r.1)

module _ (mm : Metamodel) (well : WellFormed mm) where
  pub opposed-back : (l k : Link) → Opposed mm l k → Opposed mm k l
  opposed-back l k h = record { features = opposite-back mm well l.feature k.feature h.features; to = h.from; from = h.to }

  -- what is asked of either end is answered alike at both
  pub ends-mirrored : (test : Link → Bool) (l k : Link) → Opposed mm l k → list_any test (both_ends mm k) ≡ true → list_any test (both_ends mm l) ≡ true
  ends-mirrored test l k o h =
      ⊎_elim
      (λ t. ends-that mm test l k o t)
      (λ w. ends-this mm test l (subst (λ z. test z ≡ true) (opposed-unique mm k w.0 l w.1 (opposed-back l k o)) w.2))
      (ends-cases mm test k h)
