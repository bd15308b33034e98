-- Steps of one link: what they make of the contents that a list of objects shows, and several of them together.
use Rattle.std.proofs.Common.{◌≡◌, ℕ, ◌<◌, Bool, true, false, not, ◌&&◌, List, [], ◌∷◌, ◌++◌, length, Option, Some, None, refl, sym, ap, subst, ◌∙◌, cond, eqb, arith, append-nil}
use Rattle.std.proofs.lemmas.Bool.{eqb-true, and_parts}
use Rattle.std.proofs.lemmas.Bool.Decides.{nat_tests}
use Rattle.std.specs.Prelude.{filter, IsSome}
use Rattle.std.specs.Option.{option_map}
use Rattle.std.specs.FinMap.{from_entries}
use Rattle.wb_metamodel.specs.Metamodel.{Metamodel}
use Rattle.wb_store.specs.declared.scalars.Scalar.{Scalar}
use Rattle.wb_store.specs.declared.records.Record.{Record}
use Rattle.wb_store.specs.Contents.{Contents, kind, slot}
use Rattle.wb_store.specs.Scalars.{same}
use Rattle.wb_store.specs.Places.{numbered}
use Rattle.wb_store.specs.Records.{contents_of, id_of}
use Rattle.wb_store.specs.invariants.Plain.{IsPlain}
use Rattle.wb_store.specs.invariants.Slots.{held_at, RecordsChange}
use Rattle.wb_store.specs.Relinking.{Link, link, relink, is_at, same_link}
use Rattle.wb_store.specs.LinkSteps.{with_link, with_only, without_link, without_slot}
use Rattle.wb_store.proofs.Maps.{slot-numbered, kind-numbered}
use Rattle.wb_store.proofs.Relinked.{values_at, slot-relink, same_contents}

-- ---- filters

pub filter_none : {A : Type 0} (xs : List A) → filter (λ x. true) xs ≡ xs
filter_none [] = refl
filter_none (x ∷ xs) = λ i. x ∷ filter_none xs i

pub filter_all : {A : Type 0} (xs : List A) → filter (λ x. false) xs ≡ []
filter_all [] = refl
filter_all (x ∷ xs) = filter_all xs

pub same_test : {A : Type 0} (p q : A → Bool) → ((x : A) → p x ≡ q x) → (xs : List A) → filter p xs ≡ filter q xs
same_test p q h [] = refl
same_test p q h (x ∷ xs) = λ i. cond (h x i) (x ∷ same_test p q h xs i) (same_test p q h xs i)

pub eqb_sym : (a b : ℕ) → eqb a b ≡ eqb b a
eqb_sym a b = grind (arith, nat_tests)

-- ---- one step, on a list of objects

module _ (metamodel : Metamodel) (next : ℕ) (roots : List ℕ) (old new : List Record) (o f : ℕ) (vs : List Scalar) (before : IsPlain metamodel old) (after : IsPlain metamodel new) (change : RecordsChange o f vs old new) where
  slot_then : (p g : ℕ) → slot (contents_of metamodel next new roots) p g ≡ cond (eqb p o && eqb g f) vs (slot (contents_of metamodel next old roots) p g)
  slot_then p g =
      slot-numbered metamodel next new roots p g after.objects_rise after.slots_rise
      ∙ change.at p g
      ∙ ap (cond (eqb p o && eqb g f) vs) (sym (slot-numbered metamodel next old roots p g before.objects_rise before.slots_rise))

  pub changed : (leaves : Link → Bool) (comes : List Link) → ((p g : ℕ) → cond (eqb p o && eqb g f) vs (slot (contents_of metamodel next old roots) p g) ≡ filter (λ v. not (leaves (link p g v))) (slot (contents_of metamodel next old roots) p g) ++ values_at p g comes)
      → contents_of metamodel next new roots ≡ relink leaves comes (contents_of metamodel next old roots)
  unfolding relink
  changed leaves comes h =
      let m = contents_of metamodel next old roots in
      same_contents (contents_of metamodel next new roots) (relink leaves comes m) refl refl refl
      (λ p. ap (λ es. kind (record m { kinds = from_entries es }) p) change.kinds)
      (λ p g. slot_then p g ∙ h p g ∙ sym (slot-relink leaves comes m p g))

-- ---- what each step leaves in each slot

module _ (S : ℕ → ℕ → List Scalar) (o f : ℕ) where
  same_key : (p g : ℕ) → (eqb p o && eqb g f) ≡ true → S o f ≡ S p g
  same_key p g e =
      let both = and_parts (eqb p o) (eqb g f) e in
      let a : o ≡ p = sym (eqb-true p o both.0) in
      let b : f ≡ g = sym (eqb-true g f both.1) in
      λ i. S (a i) (b i)

  turned : (p g : ℕ) → (eqb p o && eqb g f) ≡ (eqb o p && eqb f g)
  turned p g = λ i. eqb_sym p o i && eqb_sym g f i

  pub put_step : (v : Scalar) (p g : ℕ) → cond (eqb p o && eqb g f) (S o f ++ v ∷ []) (S p g) ≡ filter (λ w. true) (S p g) ++ values_at p g (link o f v ∷ [])
  put_step v p g =
      elim (eqb p o && eqb g f) as (λ b. (eqb p o && eqb g f) ≡ b → cond b (S o f ++ v ∷ []) (S p g) ≡ filter (λ w. true) (S p g) ++ cond b (v ∷ []) []) [
        | true ↦ λ t. ap (λ vs. vs ++ v ∷ []) (same_key p g t ∙ sym (filter_none (S p g)))
        | false ↦ λ t. sym (append-nil (filter (λ w. true) (S p g)) ∙ filter_none (S p g))
      ] refl
      ∙ ap (λ b. filter (λ w. true) (S p g) ++ cond b (v ∷ []) []) (turned p g)

  pub only_step : (v : Scalar) (p g : ℕ) → cond (eqb p o && eqb g f) (v ∷ []) (S p g) ≡ filter (λ w. not (is_at o f (link p g w))) (S p g) ++ values_at p g (link o f v ∷ [])
  only_step v p g =
      elim (eqb p o && eqb g f) as (λ b. cond b (v ∷ []) (S p g) ≡ filter (λ w. not b) (S p g) ++ cond b (v ∷ []) []) [
        | true ↦ λ i. sym (filter_all (S p g)) i ++ v ∷ []
        | false ↦ sym (append-nil (filter (λ w. true) (S p g)) ∙ filter_none (S p g))
      ]
      ∙ ap (λ b. filter (λ w. not (is_at o f (link p g w))) (S p g) ++ cond b (v ∷ []) []) (turned p g)

  pub drop_step : (v : Scalar) (p g : ℕ) → cond (eqb p o && eqb g f) (filter (λ w. not (same w v)) (S o f)) (S p g) ≡ filter (λ w. not (same_link (link o f v) (link p g w))) (S p g) ++ []
  drop_step v p g =
      elim (eqb p o && eqb g f) as (λ b. (eqb p o && eqb g f) ≡ b → cond b (filter (λ w. not (same w v)) (S o f)) (S p g) ≡ filter (λ w. not (b && same w v)) (S p g) ++ []) [
        | true ↦ λ t. ap (filter (λ w. not (same w v))) (same_key p g t) ∙ sym (append-nil (filter (λ w. not (same w v)) (S p g)))
        | false ↦ λ t. sym (append-nil (filter (λ w. true) (S p g)) ∙ filter_none (S p g))
      ] refl

  pub empty_step : (p g : ℕ) → cond (eqb p o && eqb g f) [] (S p g) ≡ filter (λ w. not (is_at o f (link p g w))) (S p g) ++ []
  empty_step p g =
      elim (eqb p o && eqb g f) as (λ b. cond b [] (S p g) ≡ filter (λ w. not b) (S p g) ++ []) [
        | true ↦ sym (append-nil (filter (λ w. false) (S p g)) ∙ filter_all (S p g))
        | false ↦ sym (append-nil (filter (λ w. true) (S p g)) ∙ filter_none (S p g))
      ]

pub kept_step : (S : ℕ → ℕ → List Scalar) (o f p g : ℕ) → cond (eqb p o && eqb g f) (S o f) (S p g) ≡ filter (λ w. true) (S p g) ++ []
kept_step S o f p g =
    elim (eqb p o && eqb g f) as (λ b. (eqb p o && eqb g f) ≡ b → cond b (S o f) (S p g) ≡ S p g) [
      | true ↦ λ t. same_key S o f p g t
      | false ↦ λ t. refl
    ] refl
    ∙ sym (append-nil (filter (λ w. true) (S p g)) ∙ filter_none (S p g))

-- nothing leaves and nothing comes
pub relink_none : (m : Contents) → relink (λ l. false) [] m ≡ m
unfolding relink
relink_none m = same_contents (relink (λ l. false) [] m) m refl refl refl (λ p. refl)
    (λ p g. slot-relink (λ l. false) [] m p g ∙ append-nil (filter (λ w. true) (slot m p g)) ∙ filter_none (slot m p g))

-- ---- the same, for the contents that a list of objects shows

module _ (metamodel : Metamodel) (next : ℕ) (roots : List ℕ) (old new : List Record) (o f : ℕ) (known : f < length metamodel.features) (before : IsPlain metamodel old) where
  pub held_is : held_at o f old ≡ slot (contents_of metamodel next old roots) o f
  held_is = sym (slot-numbered metamodel next old roots o f before.objects_rise before.slots_rise)

  pub stays_plain : (vs : List Scalar) → RecordsChange o f vs old new → IsPlain metamodel new
  stays_plain vs change = change.plain metamodel known before

  pub put_shown : (v : Scalar) → RecordsChange o f (held_at o f old ++ v ∷ []) old new → contents_of metamodel next new roots ≡ with_link (link o f v) (contents_of metamodel next old roots)
  put_shown v change = changed metamodel next roots old new o f (held_at o f old ++ v ∷ []) before (stays_plain _ change) change (λ l. false) (link o f v ∷ [])
      (λ p g. ap (λ vs. cond (eqb p o && eqb g f) (vs ++ v ∷ []) (slot (contents_of metamodel next old roots) p g)) held_is ∙ put_step (λ p g. slot (contents_of metamodel next old roots) p g) o f v p g)

  pub only_shown : (v : Scalar) → RecordsChange o f (v ∷ []) old new → contents_of metamodel next new roots ≡ with_only (link o f v) (contents_of metamodel next old roots)
  only_shown v change = changed metamodel next roots old new o f (v ∷ []) before (stays_plain _ change) change (is_at o f) (link o f v ∷ [])
      (λ p g. only_step (λ p g. slot (contents_of metamodel next old roots) p g) o f v p g)

  pub drop_shown : (v : Scalar) → RecordsChange o f (filter (λ w. not (same w v)) (held_at o f old)) old new → contents_of metamodel next new roots ≡ without_link (link o f v) (contents_of metamodel next old roots)
  drop_shown v change = changed metamodel next roots old new o f (filter (λ w. not (same w v)) (held_at o f old)) before (stays_plain _ change) change (same_link (link o f v)) []
      (λ p g. ap (λ vs. cond (eqb p o && eqb g f) (filter (λ w. not (same w v)) vs) (slot (contents_of metamodel next old roots) p g)) held_is ∙ drop_step (λ p g. slot (contents_of metamodel next old roots) p g) o f v p g)

  pub empty_shown : RecordsChange o f [] old new → contents_of metamodel next new roots ≡ without_slot o f (contents_of metamodel next old roots)
  empty_shown change = changed metamodel next roots old new o f [] before (stays_plain _ change) change (is_at o f) []
      (λ p g. empty_step (λ p g. slot (contents_of metamodel next old roots) p g) o f p g)

  pub same_shown : RecordsChange o f (held_at o f old) old new → contents_of metamodel next new roots ≡ contents_of metamodel next old roots
  same_shown change =
      let S = λ (p g : ℕ). slot (contents_of metamodel next old roots) p g in
      changed metamodel next roots old new o f (held_at o f old) before (stays_plain _ change) change (λ l. false) []
      (λ p g. ap (λ vs. cond (eqb p o && eqb g f) vs (S p g)) held_is ∙ kept_step S o f p g)
      ∙ relink_none (contents_of metamodel next old roots)

some_before : {A B : Type 0} (h : A → B) (r : Option A) → IsSome (option_map h r) → IsSome r
some_before h None e = e
some_before h (Some x) e = refl

pub live_numbered : (metamodel : Metamodel) (next : ℕ) (records : List Record) (roots : List ℕ) (m : Contents) (o : ℕ) → contents_of metamodel next records roots ≡ m → IsSome (kind m o) → IsSome (numbered id_of o records)
live_numbered metamodel next records roots m o shown live =
    some_before (λ (r : Record). r.class) (numbered id_of o records)
    (subst IsSome (kind-numbered metamodel next records roots o) (subst (λ (m : Contents). IsSome (kind m o)) (sym shown) live))

pub known_inside : (m n : Contents) (f : ℕ) → m ≡ n → f < length n.metamodel.features → f < length m.metamodel.features
known_inside m n f shown known = subst (λ (m : Contents). f < length m.metamodel.features) (sym shown) known
