-- What a valid model holds is in range.
use Rattle.std.proofs.Common.{◌≡◌, ℕ, ◌^◌, true, false, not, ◌&&◌, length, Some, None, refl, arith, ltb}
use Rattle.std.proofs.lemmas.Bool.{and_parts, false≢true, lt-ltb}
use Rattle.std.proofs.lemmas.Bool.Decides.{nat_tests}
use Rattle.std.proofs.lemmas.Option.{slice_get_within}
use Rattle.std.specs.Prelude.{IsSome}
use Rattle.std.specs.Option.{option_map_or}
use Rattle.std.specs.List.{list_all}
use Rattle.std.specs.Str.{is_utf8}
use Rattle.std.specs.FinMap.{entries}
use Rattle.wb_ecore.specs.declared.classes.Class.{Class}
use Rattle.wb_ecore.specs.declared.features.Feature.{Feature}
use Rattle.wb_ecore.specs.declared.features.Kind.{Kind}
use Rattle.wb_ecore.specs.declared.features.Kind.TheVariants.{Int as IntKind, Bool as BoolKind, Text as TextKind, Enum, Reference}
use Rattle.wb_metamodel.specs.Metamodel.{Metamodel, class_at, feature_at}
use Rattle.wb_store.specs.declared.scalars.Scalar.{Scalar}
use Rattle.wb_store.specs.declared.scalars.Scalar.TheVariants.{Int, Bool as Boolean, Text, Literal, Object}
use Rattle.wb_store.specs.Contents.{Contents, Filled, members, kind}
use Rattle.wb_store.proofs.Members.{In-all, all_In}
use Rattle.wb_validity.specs.Ranges.{is_in_range, AreInRange}
use Rattle.wb_validity.specs.Valid.{is_abstract, is_of_kind, is_of_feature, Valid, IsValid}
use Rattle.wb_validity.proofs.Trees.{live_if_of_kind}
use Rattle.wb_validity.proofs.ValidSlots.{at_object}

known : (mm : Metamodel) (c : ℕ) → not (is_abstract mm c) ≡ true → ltb c (length mm.classes) ≡ true
known mm c h =
    elim (class_at mm c) as (λ r. class_at mm c ≡ r → not (option_map_or (λ (class : Class). class.is_abstract) r true) ≡ true → ltb c (length mm.classes) ≡ true) [
      | None ↦ λ e h. absurd (false≢true h)
      | Some class ↦ λ e h. lt-ltb c (length mm.classes) (slice_get_within mm.classes c class e)
    ] refl h

narrow : (o next : ℕ) → ltb o next ≡ true → ltb next (2 ^ 32) ≡ true → ltb o (2 ^ 32) ≡ true
narrow o next h l = grind (arith, nat_tests)

module _ (m : Contents) (valid : Valid m) where
  live-in_range : (o : ℕ) → IsSome (kind m o) → ltb o (2 ^ 32) ≡ true
  live-in_range o live =
      let spent = and_parts _ _ valid.numbers_are_spent in
      narrow o m.next
      (and_parts (ltb 0 o) (ltb o m.next) (at_object m (λ o. ltb 0 o && ltb o m.next) spent.1 o live)).1
      (and_parts (ltb 0 m.next) (ltb m.next (2 ^ 32)) spent.0).1

  of_kind-in_range : (k : Kind) (v : Scalar) → is_of_kind m k v ≡ true → is_in_range v ≡ true
  of_kind-in_range k (Boolean b) h = refl
  of_kind-in_range k (Literal e l) h = refl
  of_kind-in_range k (Object o) h = live-in_range o (live_if_of_kind m k o h)
  of_kind-in_range IntKind (Int n) h = h
  of_kind-in_range BoolKind (Int n) h = absurd (false≢true h)
  of_kind-in_range TextKind (Int n) h = absurd (false≢true h)
  of_kind-in_range (Enum e) (Int n) h = absurd (false≢true h)
  of_kind-in_range (Reference c) (Int n) h = absurd (false≢true h)
  of_kind-in_range IntKind (Text t) h = absurd (false≢true h)
  of_kind-in_range BoolKind (Text t) h = absurd (false≢true h)
  of_kind-in_range TextKind (Text t) h = (and_parts (is_utf8 t) _ h).0
  of_kind-in_range (Enum e) (Text t) h = absurd (false≢true h)
  of_kind-in_range (Reference c) (Text t) h = absurd (false≢true h)

  of_feature-in_range : (f : ℕ) (v : Scalar) → is_of_feature m f v ≡ true → is_in_range v ≡ true
  of_feature-in_range f v h =
      elim (feature_at m.metamodel f) as (λ r. option_map_or (λ (feature : Feature). is_of_kind m feature.kind v) r false ≡ true → is_in_range v ≡ true) [
        | None ↦ λ h. absurd (false≢true h)
        | Some feature ↦ λ h. of_kind-in_range feature.kind v h
      ] h

  in_range : AreInRange m
  in_range = record {
    classes = all_In (λ (e : ℕ × ℕ). ltb e.1 (length m.metamodel.classes)) (entries m.kinds)
        (λ e i. known m.metamodel e.1 (In-all (λ (e : ℕ × ℕ). not (is_abstract m.metamodel e.1)) (entries m.kinds) e valid.classes_are_concrete i));
    scalars = all_In (λ (e : (ℕ × ℕ) × Filled). list_all is_in_range (members e.1)) (entries m.slots)
        (λ e i. all_In is_in_range (members e.1) (λ v j. of_feature-in_range e.0.1 v (In-all (is_of_feature m e.0.1) (members e.1) v
        (In-all (λ (e : (ℕ × ℕ) × Filled). list_all (is_of_feature m e.0.1) (members e.1)) (entries m.slots) e valid.values_are_of_kinds i) j)));
  }

pub valid-in_range : (m : Contents) → IsValid m → AreInRange m
unfolding IsValid
valid-in_range m v = in_range m v
