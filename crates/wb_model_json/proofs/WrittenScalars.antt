-- What is written of values is read as these values again.
use Rattle.std.proofs.Common.{◌≡◌, ℕ, zero, suc, ◌^◌, Bool, true, false, List, [], ◌∷◌, map, length, pos, negsuc, Some, None, Ok, refl, ap, ◌∙◌, subst, cond, ltb, arith}
use Rattle.std.proofs.lemmas.Bool.{and_parts, eqb-true, false≢true, ltb-true}
use Rattle.std.proofs.lemmas.Bool.Decides.{nat_tests}
use Rattle.std.specs.Prelude.{slice_get, unwrap_or, is_some}
use Rattle.std.specs.List.{list_all}
use Rattle.std.specs.Option.{option_map, option_map_or}
use Rattle.serde_json.specs.Find.{as_array}
use Rattle.wb_base.specs.Results.{◌>>=◌}
use Rattle.wb_json.specs.Form.{in_turn, or_wrong, list_of}
use Rattle.wb_json.specs.ToJson.{list_json}
use Rattle.wb_metamodel.specs.Metamodel.{Metamodel, enum_at, literals_of, literal_named}
use Rattle.wb_ecore.specs.Resolving.{walked}
use Rattle.wb_metamodel.specs.WellFormed.{WellFormed}
use Rattle.wb_ecore.specs.declared.classes.Enumeration.{Enumeration}
use Rattle.wb_ecore.specs.declared.features.Kind.{Kind}
use Rattle.wb_ecore.specs.declared.features.Kind.TheVariants as kinds
use Rattle.wb_store.specs.declared.scalars.Scalar.{Scalar}
use Rattle.wb_store.specs.declared.scalars.Scalar.TheVariants as scalars
use Rattle.wb_store.specs.Contents.{Contents}
use Rattle.wb_store.specs.Features.{is_many}
use Rattle.wb_validity.specs.Valid.{is_of_kind}
use Rattle.wb_store.proofs.Members.{In, In-all}
use Rattle.wb_model_json.specs.declared.model_text.ScalarText.{ScalarText}
use Rattle.wb_model_json.specs.declared.model_text.ScalarText.TheVariants.{Number, Flag, Words}
use Rattle.wb_model_json.specs.declared.model_text.SlotText.{SlotText}
use Rattle.wb_model_json.specs.ModelFile.{literal_for, value_for, values_for}
use Rattle.wb_model_json.specs.ModelText.{scalar_of, slot_of, alone}
use Rattle.wb_validity.specs.Ranges.{is_in_range}
use Rattle.wb_model_json.specs.Written.{literal_text, scalar_data, single_data, slot_data}
use Rattle.wb_model_json.proofs.WrittenForms.{list_of-written, in_turn-made, walked-made}

-- ---- as text

-- what is read of what is written of a value
abbrev pub scalar_text : Metamodel → Scalar → ScalarText
scalar_text mm (scalars.Int z) = Number z
scalar_text mm (scalars.Bool b) = Flag b
scalar_text mm (scalars.Text text) = Words text
scalar_text mm (scalars.Literal e l) = Words (literal_text mm e l)
scalar_text mm (scalars.Object o) = Number (pos o)

wider : (o : ℕ) → ltb o (2 ^ 32) ≡ true → ltb o (2 ^ 63) ≡ true
wider o h = grind (arith, nat_tests)

pub scalar-read : (mm : Metamodel) (v : Scalar) → is_in_range v ≡ true → scalar_of (scalar_data mm v) ≡ Ok (scalar_text mm v)
scalar-read mm (scalars.Int (pos n)) h = ap (λ b. or_wrong (option_map Number (cond b (Some (pos n)) None))) h
scalar-read mm (scalars.Int (negsuc n)) h = refl
scalar-read mm (scalars.Bool b) h = refl
scalar-read mm (scalars.Text text) h = refl
scalar-read mm (scalars.Literal e l) h = refl
scalar-read mm (scalars.Object o) h = ap (λ b. or_wrong (option_map Number (cond b (Some (pos o)) None))) (wider o h)

abbrev pub slot_text : Metamodel → ℕ × List Scalar → SlotText
slot_text mm s = record { listed = is_many mm s.0; values = map (scalar_text mm) s.1 }

-- exactly one value of a single feature
abbrev pub IsSingle : Metamodel → ℕ × List Scalar → Type 0
IsSingle mm s = is_many mm s.0 ≡ false → length s.1 ≡ 1

no_array : (mm : Metamodel) (v : Scalar) → is_some (as_array (scalar_data mm v)) ≡ false
no_array mm (scalars.Int z) = refl
no_array mm (scalars.Bool b) = refl
no_array mm (scalars.Text text) = refl
no_array mm (scalars.Literal e l) = refl
no_array mm (scalars.Object o) = refl

many-read : (mm : Metamodel) (values : List Scalar) → list_all is_in_range values ≡ true → slot_of (list_json (scalar_data mm) values) ≡ Ok (record { listed = true; values = map (scalar_text mm) values })
unfolding slot_of list_json
many-read mm values h =
    ap (λ r. r >>= (λ (values : List ScalarText). Ok (record { listed = true; values = values })))
    (list_of-written scalar_of (scalar_data mm) (scalar_text mm) values (λ v i. scalar-read mm v (In-all is_in_range values v h i)))

one-read : (mm : Metamodel) (v : Scalar) → is_in_range v ≡ true → slot_of (scalar_data mm v) ≡ Ok (alone (scalar_text mm v))
unfolding slot_of
one-read mm v h =
    ap (λ b. cond b (list_of scalar_of (scalar_data mm v) >>= (λ (values : List ScalarText). Ok (record { listed = true; values = values }))) (scalar_of (scalar_data mm v) >>= (λ (value : ScalarText). Ok (alone value)))) (no_array mm v)
    ∙ ap (λ r. r >>= (λ (value : ScalarText). Ok (alone value))) (scalar-read mm v h)

single-read : (mm : Metamodel) (values : List Scalar) → length values ≡ 1 → list_all is_in_range values ≡ true → slot_of (single_data mm values) ≡ Ok (record { listed = false; values = map (scalar_text mm) values })
single-read mm [] one h = absurd (omega arith)
single-read mm (v ∷ []) one h = one-read mm v (and_parts _ _ h).0
single-read mm (v ∷ w ∷ values) one h = absurd (omega arith)

pub slot-read : (mm : Metamodel) (s : ℕ × List Scalar) → IsSingle mm s → list_all is_in_range s.1 ≡ true → slot_of (slot_data mm s) ≡ Ok (slot_text mm s)
unfolding slot_data
slot-read mm s single h =
    elim (is_many mm s.0) as (λ b. (b ≡ false → length s.1 ≡ 1) → slot_of (cond b (list_json (scalar_data mm) s.1) (single_data mm s.1)) ≡ Ok (record { listed = b; values = map (scalar_text mm) s.1 })) [
      | true ↦ λ single. many-read mm s.1 h
      | false ↦ λ single. single-read mm s.1 (single refl) h
    ] single

-- ---- as a value of a feature's kind

-- what is read of what is written of a value at a feature of this kind is the value
abbrev pub IsAgain : Metamodel → Kind → Scalar → Type 0
IsAgain mm kind v = value_for mm kind (scalar_text mm v) ≡ Ok v

some_at : (xs : List (List ℕ)) (l : ℕ) → ltb l (length xs) ≡ true → slice_get xs l ≡ Some (unwrap_or (slice_get xs l) [])
some_at [] l h = absurd (let below = ltb-true l 0 h in omega arith)
some_at (x ∷ xs) zero h = refl
some_at (x ∷ xs) (suc l) h = some_at xs l (grind (arith, nat_tests))

literal-again : (mm : Metamodel) → WellFormed mm → (e l : ℕ) → ltb l (length (literals_of mm e)) ≡ true → literal_for mm e (literal_text mm e l) ≡ Ok (scalars.Literal e l)
literal-again mm formed e l h =
    elim (enum_at mm e) as (λ o. enum_at mm e ≡ o → ltb l (length (option_map_or (λ (one : Enumeration). one.literals) o [])) ≡ true
    → or_wrong (option_map (scalars.Literal e) (literal_named mm e (unwrap_or (slice_get (option_map_or (λ (one : Enumeration). one.literals) o []) l) []))) ≡ Ok (scalars.Literal e l)) [
      | None ↦ λ is h. absurd (let below = ltb-true l 0 h in omega arith)
      | Some one ↦ λ is h. ap (λ o. or_wrong (option_map (scalars.Literal e) o)) (formed.literals_named e l one _ is (some_at one.literals l h))
    ] refl h

pub kind-again : (m : Contents) → WellFormed m.metamodel → (kind : Kind) (v : Scalar) → is_of_kind m kind v ≡ true → is_in_range v ≡ true → IsAgain m.metamodel kind v
kind-again m formed kinds.Int (scalars.Int z) h s = refl
kind-again m formed kinds.Int (scalars.Bool b) h s = absurd (false≢true h)
kind-again m formed kinds.Int (scalars.Text t) h s = absurd (false≢true h)
kind-again m formed kinds.Int (scalars.Literal d l) h s = absurd (false≢true h)
kind-again m formed kinds.Int (scalars.Object o) h s = absurd (false≢true h)
kind-again m formed kinds.Bool (scalars.Int z) h s = absurd (false≢true h)
kind-again m formed kinds.Bool (scalars.Bool b) h s = refl
kind-again m formed kinds.Bool (scalars.Text t) h s = absurd (false≢true h)
kind-again m formed kinds.Bool (scalars.Literal d l) h s = absurd (false≢true h)
kind-again m formed kinds.Bool (scalars.Object o) h s = absurd (false≢true h)
kind-again m formed kinds.Text (scalars.Int z) h s = absurd (false≢true h)
kind-again m formed kinds.Text (scalars.Bool b) h s = absurd (false≢true h)
kind-again m formed kinds.Text (scalars.Text t) h s = refl
kind-again m formed kinds.Text (scalars.Literal d l) h s = absurd (false≢true h)
kind-again m formed kinds.Text (scalars.Object o) h s = absurd (false≢true h)
kind-again m formed (kinds.Enum e) (scalars.Int z) h s = absurd (false≢true h)
kind-again m formed (kinds.Enum e) (scalars.Bool b) h s = absurd (false≢true h)
kind-again m formed (kinds.Enum e) (scalars.Text t) h s = absurd (false≢true h)
kind-again m formed (kinds.Enum e) (scalars.Literal d l) h s =
    let parts = and_parts _ _ h in
    let same = eqb-true e d parts.0 in
    subst (λ d. literal_for m.metamodel e (literal_text m.metamodel d l) ≡ Ok (scalars.Literal d l)) same (literal-again m.metamodel formed e l parts.1)
kind-again m formed (kinds.Enum e) (scalars.Object o) h s = absurd (false≢true h)
kind-again m formed (kinds.Reference c) (scalars.Int z) h s = absurd (false≢true h)
kind-again m formed (kinds.Reference c) (scalars.Bool b) h s = absurd (false≢true h)
kind-again m formed (kinds.Reference c) (scalars.Text t) h s = absurd (false≢true h)
kind-again m formed (kinds.Reference c) (scalars.Literal d l) h s = absurd (false≢true h)
kind-again m formed (kinds.Reference c) (scalars.Object o) h s = ap (λ b. Ok (cond b (scalars.Object o) (scalars.Int (pos o)))) s

pub map-same : {A : Type 0} (xs : List A) → map (λ x. x) xs ≡ xs
map-same [] = refl
map-same (x ∷ xs) = ap (λ ys. x ∷ ys) (map-same xs)

pub values-again : (mm : Metamodel) (kind : Kind) (s : ℕ × List Scalar) → ((v : Scalar) → In v s.1 → IsAgain mm kind v) → values_for mm kind (slot_text mm s) ≡ Ok s.1
values-again mm kind s h =
    elim (is_many mm s.0) as (λ b. cond b (walked (value_for mm kind) (map (scalar_text mm) s.1)) (in_turn (value_for mm kind) (map (scalar_text mm) s.1)) ≡ Ok s.1) [
      | true ↦ walked-made (value_for mm kind) (scalar_text mm) (λ v. v) s.1 h ∙ ap Ok (map-same s.1)
      | false ↦ in_turn-made (value_for mm kind) (scalar_text mm) (λ v. v) s.1 h ∙ ap Ok (map-same s.1)
    ]
