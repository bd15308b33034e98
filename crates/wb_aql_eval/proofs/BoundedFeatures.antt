-- What a feature gives is within the bounds of a value, over a valid model.
use Rattle.std.specs.Prelude.{⊤}
use Rattle.std.proofs.Common.{◌≡◌, ◌≤◌, ℕ, zero, suc, Bool, true, false, ◌&&◌, nat_le, nat_lt, nat_eq, List, [], ◌∷◌, length, Option, None, Some, refl, sym, subst, arith, if◌then◌else◌}
use Rattle.std.proofs.lemmas.Bool.{false≢true}
use Rattle.std.proofs.lemmas.Bool.Decides.{nat_tests}
use Rattle.std.specs.Prelude.{slice_get}
use Rattle.std.specs.Str.{is_utf8}
use Rattle.std.specs.List.{list_all}
use Rattle.std.specs.Option.{option_map_or}
use Rattle.wb_metamodel.specs.Metamodel.{Metamodel, feature_named, feature_at, literals_of}
use Rattle.wb_ecore.specs.declared.classes.Enumeration.{Enumeration}
use Rattle.wb_ecore.specs.declared.features.Feature.{Feature}
use Rattle.wb_ecore.specs.declared.features.Kind.{Kind as FeatureKind}
use Rattle.wb_ecore.specs.declared.features.Kind.TheVariants.{Int as IntKind, Bool as BoolKind, Text as TextKind, Enum, Reference}
use Rattle.wb_store.specs.declared.scalars.Scalar.{Scalar}
use Rattle.wb_store.specs.declared.scalars.Scalar.TheVariants.{Int, Bool as Boolean, Text, Literal, Object}
use Rattle.wb_store.specs.declared.scalars.Cell.{Cell}
use Rattle.wb_store.specs.declared.scalars.Cell.TheVariants.{Kind, Slot, Holder, Tree, Inverse, Extent, Roots}
use Rattle.wb_store.specs.Contents.{Contents, slot}
use Rattle.wb_store.specs.Features.{is_many}
use Rattle.wb_validity.specs.Valid.{Valid, IsValid, differ, room, is_of_kind, is_of_feature}
use Rattle.wb_store.proofs.Members.{In, here as in_front}
use Rattle.wb_validity.proofs.Trees.{at_slot}
use Rattle.wb_aql_values.specs.declared.values.Value.{Value}
use Rattle.wb_aql_values.specs.declared.values.Value.TheVariants.{Null}
use Rattle.wb_aql_values.specs.Bounds.{AreBounded, IsBounded, is_bounded}
use Rattle.wb_aql_values.specs.Readings.{Content, contents, done, held, given, class_of, ◌>>=◌}
use Rattle.wb_aql_eval.specs.Features.{feature_of, feature_of_object, navigated, known, shown}
use Rattle.wb_aql_values.proofs.Putting.{le_of_test}
use Rattle.wb_aql_values.proofs.Sublists.{and_both, both_true}
use Rattle.wb_aql_values.proofs.Yields.{Yields, in_turn, of_lifted, anything}

-- the values of a slot are within their bounds, and differ
abbrev pub AreHeld : Metamodel → (c : Cell) → Content c → Type 0
AreHeld mm (Slot o f) xs = AreBounded mm xs × (differ xs ≡ true)
AreHeld mm _ x = ⊤

-- ---- over a valid model

of_enumeration : (xs : List Enumeration) (e l : ℕ) → nat_lt l (length (option_map_or (λ (enumeration : Enumeration). enumeration.literals) (slice_get xs e) [])) ≡ true → nat_lt e (length xs) ≡ true
of_enumeration [] e l h = absurd (let g : ⊥ = grind (arith, nat_tests) in g)
of_enumeration (x ∷ xs) zero l h = grind (arith, nat_tests)
of_enumeration (x ∷ xs) (suc e) l h = let i = of_enumeration xs e l h in grind (arith, nat_tests)

same_number : (a b : ℕ) → nat_eq a b ≡ true → a ≡ b
same_number a b h = grind (arith, nat_tests)

bounded_literal : (mm : Metamodel) (e d l : ℕ) → (nat_eq e d && nat_lt l (length (literals_of mm e))) ≡ true → is_bounded mm (Literal d l) ≡ true
bounded_literal mm e d l h =
    let a = and_both _ _ h in
    subst (λ n. (nat_lt n (length mm.enumerations) && nat_lt l (length (literals_of mm n))) ≡ true) (same_number e d a.0)
    (both_true _ _ (of_enumeration mm.enumerations e l a.1) a.1)

bounded_kind : (m : Contents) (k : FeatureKind) (x : Scalar) → is_of_kind m k x ≡ true → is_bounded m.metamodel x ≡ true
bounded_kind m k (Int n) h = refl
bounded_kind m k (Boolean b) h = refl
bounded_kind m k (Object o) h = refl
bounded_kind m TextKind (Text bytes) h = (and_both (is_utf8 bytes) (nat_le (length bytes) 65536) h).1
bounded_kind m IntKind (Text bytes) h = absurd (false≢true h)
bounded_kind m BoolKind (Text bytes) h = absurd (false≢true h)
bounded_kind m (Enum e) (Text bytes) h = absurd (false≢true h)
bounded_kind m (Reference c) (Text bytes) h = absurd (false≢true h)
bounded_kind m (Enum e) (Literal d l) h = bounded_literal m.metamodel e d l h
bounded_kind m IntKind (Literal d l) h = absurd (false≢true h)
bounded_kind m BoolKind (Literal d l) h = absurd (false≢true h)
bounded_kind m TextKind (Literal d l) h = absurd (false≢true h)
bounded_kind m (Reference c) (Literal d l) h = absurd (false≢true h)

bounded_feature : (m : Contents) (f : ℕ) (x : Scalar) → is_of_feature m f x ≡ true → is_bounded m.metamodel x ≡ true
bounded_feature m f x h = one (feature_at m.metamodel f) h
  where
    one : (feature : Option Feature) → option_map_or (λ (feature : Feature). is_of_kind m feature.kind x) feature false ≡ true → is_bounded m.metamodel x ≡ true
    one None h = absurd (false≢true h)
    one (Some feature) h = bounded_kind m feature.kind x h

bounded_all : (m : Contents) (f : ℕ) (xs : List Scalar) → list_all (is_of_feature m f) xs ≡ true → list_all (is_bounded m.metamodel) xs ≡ true
bounded_all m f [] h = refl
bounded_all m f (x ∷ xs) h = let a = and_both _ _ h in both_true _ _ (bounded_feature m f x a.0) (bounded_all m f xs a.1)

room_below : (mm : Metamodel) (f : ℕ) → room mm f ≤ 65536
room_below mm f = one (is_many mm f)
  where
    one : (b : Bool) → (if b then 20000 else 1) ≤ 65536
    one true = omega arith
    one false = omega arith

slot_held : (m : Contents) → Valid m → (o f : ℕ) → AreHeld m.metamodel (Slot o f) (slot m o f)
slot_held m v o f = one (slot m o f) refl
  where
    one : (xs : List Scalar) → slot m o f ≡ xs → AreBounded m.metamodel xs × (differ xs ≡ true)
    one [] e = (record { not_long = omega arith; bounded = refl }, refl)
    one (x ∷ xs) e =
        let first : In x (slot m o f) = subst (λ ys. In x ys) (sym e) in_front in
        let short = subst (λ ys. nat_le (length ys) (room m.metamodel f) ≡ true) e (at_slot m (λ o f values. nat_le (length values) (room m.metamodel f)) v.slots_have_room o f x first) in
        let kinds = subst (λ ys. list_all (is_of_feature m f) ys ≡ true) e (at_slot m (λ o f values. list_all (is_of_feature m f) values) v.values_are_of_kinds o f x first) in
        let not_long = le_of_test _ _ short in
        let roomy = room_below m.metamodel f in (
          record { not_long = omega arith; bounded = bounded_all m f (x ∷ xs) kinds },
          subst (λ ys. differ ys ≡ true) e (at_slot m (λ o f values. differ values) v.values_differ o f x first),
        )

pub valid_held : (m : Contents) → IsValid m → (c : Cell) → AreHeld m.metamodel c (contents m c)
unfolding IsValid
valid_held m v (Kind o) = tt
valid_held m v (Slot o f) = slot_held m v o f
valid_held m v (Holder o) = tt
valid_held m v (Tree o) = tt
valid_held m v (Inverse o) = tt
valid_held m v (Extent c) = tt
valid_held m v Roots = tt

-- ---- features

module _ (mm : Metamodel) where
  shown_bounded : (many : Bool) (xs : List Scalar) → AreBounded mm xs × (differ xs ≡ true) → IsBounded mm (shown many xs)
  shown_bounded true xs h = h
  shown_bounded false [] h = tt
  shown_bounded false (x ∷ xs) h = (and_both _ _ h.0.bounded).0

  object_of : (name : List ℕ) (o : ℕ) → Yields (AreHeld mm) (IsBounded mm) (feature_of_object mm name o)
  unfolding feature_of_object ◌>>=◌
  object_of name o = in_turn (AreHeld mm) (λ _. ⊤) (IsBounded mm) (class_of o) (λ class. given (known (feature_named mm class name)) >>= λ f. held (Slot o f) >>= λ xs. done (shown (is_many mm f) xs)) (anything (AreHeld mm) (class_of o))
      (λ class _. in_turn (AreHeld mm) (λ _. ⊤) (IsBounded mm) (given (known (feature_named mm class name))) (λ f. held (Slot o f) >>= λ xs. done (shown (is_many mm f) xs)) (anything (AreHeld mm) (given (known (feature_named mm class name))))
      (λ f _. λ xs h. shown_bounded (is_many mm f) xs h))

  navigated_of : (name : List ℕ) (x : Scalar) → Yields (AreHeld mm) (IsBounded mm) (navigated mm name x)
  unfolding navigated
  navigated_of name (Object o) = object_of name o
  navigated_of name (Int n) = tt
  navigated_of name (Boolean b) = tt
  navigated_of name (Text bytes) = tt
  navigated_of name (Literal e l) = tt

  pub feature_yields : (name : List ℕ) (v : Value) → IsBounded mm v → Yields (AreHeld mm) (IsBounded mm) (feature_of mm name v)
  unfolding feature_of
  feature_yields name v h = of_lifted (AreHeld mm) mm (navigated mm name) (λ x _. navigated_of name x) (done Null) tt v h
