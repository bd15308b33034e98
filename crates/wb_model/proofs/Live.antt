-- What stands in a sound model is live; and what stays true where more, or fewer, objects are live.
use Rattle.std.proofs.Common.{◌≡◌, ℕ, ◌<◌, Bool, true, false, List, Some, None, refl, sym, ap, subst, ◌∙◌}
use Rattle.std.proofs.lemmas.Bool.{and_parts, false≢true, ltb-true}
use Rattle.std.specs.Prelude.{IsSome}
use Rattle.std.specs.Option.{option_map_or}
use Rattle.std.specs.Ordering.{nat_cmp}
use Rattle.std.specs.FinMap.{FinMap}
use Rattle.wb_ecore.specs.declared.features.Feature.{Feature}
use Rattle.wb_ecore.specs.declared.features.Kind.{Kind}
use Rattle.wb_ecore.specs.declared.features.Kind.TheVariants.{Int as IntKind, Bool as BoolKind, Text as TextKind, Enum, Reference}
use Rattle.wb_metamodel.specs.Metamodel.{conforms, feature_at}
use Rattle.wb_store.specs.declared.scalars.Scalar.{Scalar}
use Rattle.wb_store.specs.declared.scalars.Scalar.TheVariants.{Int, Bool as Boolean, Text, Literal, Object}
use Rattle.wb_store.specs.Contents.{Contents, Filled, slot_cmp, kind, contains}
use Rattle.wb_store.specs.Relinking.{Link, link}
use Rattle.wb_validity.specs.Valid.{has_feature, is_of_class, conforms_to, is_of_kind, is_of_feature}
use Rattle.wb_validity.proofs.Trees.{live_if_of_feature}
use Rattle.wb_model.proofs.Sound.{Stands, contains-parts, Sound}

pub kind-at : (m : Contents) (o : ℕ) (p : ℕ → Bool) → option_map_or p (kind m o) false ≡ true → (c : ℕ) × (kind m o ≡ Some c) × (p c ≡ true)
kind-at m o p h =
    elim (kind m o) as (λ r. kind m o ≡ r → option_map_or p r false ≡ true → (c : ℕ) × (kind m o ≡ Some c) × (p c ≡ true)) [
      | None ↦ λ e h. absurd (false≢true h)
      | Some c ↦ λ e h. (c, e, h)
    ] refl h

pub kind-some : (m : Contents) (o : ℕ) → IsSome (kind m o) → (c : ℕ) × (kind m o ≡ Some c)
kind-some m o h =
    elim (kind m o) as (λ r. kind m o ≡ r → IsSome r → (c : ℕ) × (kind m o ≡ Some c)) [
      | None ↦ λ e h. absurd (false≢true h)
      | Some c ↦ λ e h. (c, e)
    ] refl h

pub some-kind : (m : Contents) (o c : ℕ) → kind m o ≡ Some c → IsSome (kind m o)
some-kind m o c e = subst IsSome (sym e) refl

module _ (m : Contents) (s : Sound m) where
  pub object-live : (l : Link) → Stands m l → IsSome (kind m l.object)
  object-live l i = let c = kind-at m l.object (λ c. has_feature m.metamodel c l.feature) (s.of_class l i) in some-kind m l.object c.0 c.1

  pub value-live : (l : Link) (p : ℕ) → Stands m l → l.value ≡ Object p → IsSome (kind m p)
  value-live l p i e = live_if_of_feature m l.feature p (ap (is_of_feature m l.feature) (sym e) ∙ s.of_kind l i)

  pub holder-live : (p f o : ℕ) → contains m p f o ≡ true → IsSome (kind m p)
  holder-live p f o h = object-live (link p f (Object o)) (contains-parts m p f o h).1

  pub contained-live : (p f o : ℕ) → contains m p f o ≡ true → IsSome (kind m o)
  contained-live p f o h = value-live (link p f (Object o)) o (contains-parts m p f o h).1 refl

  pub live-below : (o : ℕ) → IsSome (kind m o) → o < m.next
  live-below o live = let c = kind-some m o live in ltb-true _ _ (and_parts _ _ (s.numbers o c.0 c.1)).1

-- ---- with other live objects

module _ (m : Contents) (next : ℕ) (kinds : FinMap nat_cmp ℕ) (slots : FinMap slot_cmp Filled) (roots : List ℕ) where
  abbrev other : Contents
  other = record { metamodel = m.metamodel; next = next; kinds = kinds; slots = slots; roots = roots }

  pub of_class-kept : (o f : ℕ) → ((c : ℕ) → kind m o ≡ Some c → kind other o ≡ Some c) → is_of_class m o f ≡ true → is_of_class other o f ≡ true
  of_class-kept o f kept h =
      let c = kind-at m o (λ c. has_feature m.metamodel c f) h in
      ap (λ r. option_map_or (λ c. has_feature m.metamodel c f) r false) (kept c.0 c.1) ∙ c.2

  instance-kept : (c p : ℕ) → ((d : ℕ) → kind m p ≡ Some d → kind other p ≡ Some d) → conforms_to m c p ≡ true → conforms_to other c p ≡ true
  instance-kept c p kept h =
      let d = kind-at m p (λ d. conforms m.metamodel d c) h in
      ap (λ r. option_map_or (λ d. conforms m.metamodel d c) r false) (kept d.0 d.1) ∙ d.2

  of_kind-kept : (k : Kind) (v : Scalar) → ((p d : ℕ) → v ≡ Object p → kind m p ≡ Some d → kind other p ≡ Some d) → is_of_kind m k v ≡ true → is_of_kind other k v ≡ true
  of_kind-kept IntKind v kept h = h
  of_kind-kept BoolKind v kept h = h
  of_kind-kept TextKind v kept h = h
  of_kind-kept (Enum e) v kept h = h
  of_kind-kept (Reference c) (Int n) kept h = h
  of_kind-kept (Reference c) (Boolean b) kept h = h
  of_kind-kept (Reference c) (Text t) kept h = h
  of_kind-kept (Reference c) (Literal e n) kept h = h
  of_kind-kept (Reference c) (Object p) kept h = instance-kept c p (λ d e. kept p d refl e) h

  pub of_feature-kept : (f : ℕ) (v : Scalar) → ((p d : ℕ) → v ≡ Object p → kind m p ≡ Some d → kind other p ≡ Some d) → is_of_feature m f v ≡ true → is_of_feature other f v ≡ true
  of_feature-kept f v kept h =
      elim (feature_at m.metamodel f) as (λ r. option_map_or (λ (feature : Feature). is_of_kind m feature.kind v) r false ≡ true → option_map_or (λ (feature : Feature). is_of_kind other feature.kind v) r false ≡ true) [
        | None ↦ λ h. h
        | Some feature ↦ λ h. of_kind-kept feature.kind v kept h
      ] h
