-- A row that is read of a value is a row, and its values are what the value says.
use Rattle.std.proofs.Common.{◌≡◌, ◌<◌, ℕ, pos, negsuc, Bool, true, false, List, [], ◌∷◌, map, length, Option, Some, None, Result, Ok, Err, refl, sym, ap, ◌∙◌, subst, cond, eqb, ltb, Ordering, Less, Equal, Greater, ◌^◌}
use Rattle.std.proofs.lemmas.Bool.{and_parts, and_from, lt-ltb}
use Rattle.std.proofs.lemmas.Option.{none-some, same_Some, slice_get_within}
use Rattle.std.proofs.lemmas.Slice.Eq.{bytes_eq-Decides}
use Rattle.std.specs.Prelude.{codes, slice_get, unwrap_or, ⊤}
use Rattle.std.specs.List.{list_all, find, position, AllByRecursion, enumerate_from}
use Rattle.std.specs.Option.{option_map, option_map_or, option_and_then, IfSome}
use Rattle.std.specs.Ordering.{nat_cmp, is_lt, match_ordering}
use Rattle.std.specs.Cmp.Lexicographic.{slice_cmp}
use Rattle.serde_json.specs.Data.{Data, null, boolean, number, string, array, object, Members, no_members, member}
use Rattle.serde_json.specs.Find.{get, get_member, as_object}
use Rattle.wb_base.proofs.Steps.{then_ok, same_ok}
use Rattle.wb_json.proofs.Found.{within_ok, or_wrong_ok}
use Rattle.wb_json.specs.Place.{Place, at_member, within}
use Rattle.wb_base.specs.Results.{◌>>=◌}
use Rattle.wb_json.specs.Form.{in_turn, or_wrong, is_name, listed, needed, needed_part, name_of, members_of, member_of, member_list, object_with}
use Rattle.wb_json.specs.Json.{json_of}
use Rattle.wb_json.proofs.Ascending.{IsBelowAll, Ascends, MembersAscend, json_of_ascends}
use Rattle.wb_metamodel.specs.Metamodel.{Metamodel, same_name, class_named, enum_at, feature_at, feature_named, features_of, literal_named}
use Rattle.wb_metamodel.specs.Checks.{is_name_of}
use Rattle.wb_ecore.specs.Resolving.{in_place, walked}
use Rattle.wb_ecore.specs.declared.classes.Enumeration.{Enumeration}
use Rattle.wb_ecore.specs.declared.features.Feature.{Feature}
use Rattle.wb_ecore.specs.declared.features.Kind.{Kind}
use Rattle.wb_ecore.specs.declared.features.Kind.TheVariants as kinds
use Rattle.wb_metamodel.proofs.Ranges.{class_in_range}
use Rattle.wb_base.proofs.Positions.{position-Some}
use Rattle.wb_store.specs.declared.scalars.Scalar.{Scalar}
use Rattle.wb_store.specs.declared.scalars.Scalar.TheVariants as scalars
use Rattle.wb_validity.specs.Valid.{has_feature}
use Rattle.wb_store.proofs.Found.{is_itself}
use Rattle.wb_store.proofs.Members.{In, any_In}
use Rattle.wb_store.proofs.Members.In.{here, there}
use Rattle.wb_model_json.specs.declared.model_text.ScalarText.{ScalarText}
use Rattle.wb_model_json.specs.declared.model_text.ScalarText.TheVariants.{Number, Flag, Words}
use Rattle.wb_model_json.specs.declared.model_text.SlotText.{SlotText}
use Rattle.wb_model_json.specs.declared.rows.ObjectRow.{ObjectRow}
use Rattle.wb_model_json.specs.declared.rows.RowSlot.{RowSlot}
use Rattle.wb_model_json.specs.declared.row_text.RowText.{RowText}
use Rattle.wb_model_json.specs.ModelFile.{literal_for, value_for, values_for}
use Rattle.wb_model_json.specs.ModelText.{slot_of}
use Rattle.wb_model_json.specs.RowText.{row_text_of, counted, row_slot_with, row_slot_for, row_with, row_for, row_from, is_known_slot, is_known_row}
use Rattle.wb_model_json.specs.Rows.{slot_name, names_ascend, has_count, IsSaid, IsRowSlot, IsRow}
use Rattle.wb_validity.specs.Ranges.{is_in_range}
use Rattle.wb_model_json.specs.Written.{literal_text}
use Rattle.wb_model_json.proofs.Walks.{find-own, turn-each, turn-keeps}
use Rattle.wb_model_json.proofs.TextNames.{get-ascends, needed-read, members-names}
use Rattle.wb_model_json.proofs.WrittenScalars.{scalar_text, scalar-read, IsAgain}

-- ---- values

pub same-text : (a b : List ℕ) → same_name a b ≡ true → a ≡ b
same-text a b h = (bytes_eq-Decides a b).0 h

literal-name : (mm : Metamodel) (e l : ℕ) (text : List ℕ) → literal_named mm e text ≡ Some l → literal_text mm e l ≡ text
literal-name mm e l text h =
    elim (enum_at mm e) as (λ o. option_and_then (λ (one : Enumeration). position (λ literal. same_name literal text) one.literals) o ≡ Some l → unwrap_or (slice_get (option_map_or (λ (one : Enumeration). one.literals) o []) l) [] ≡ text) [
      | None ↦ λ h. absurd (none-some l h)
      | Some one ↦ λ h.
          let p = position-Some (λ literal. same_name literal text) one.literals l h in
          ap (λ o. unwrap_or o []) p.1 ∙ same-text p.0 text p.2
    ] h

module _ (mm : Metamodel) where
  number-text : (z : ℕ) (v : Scalar) (b : Bool) → ◌≡◌ {A = Result Scalar Place} (Ok (cond b (scalars.Object z) (scalars.Int (pos z)))) (Ok v) → scalar_text mm v ≡ Number (pos z)
  number-text z v true h = subst (λ v. scalar_text mm v ≡ Number (pos z)) (same_ok _ v h) refl
  number-text z v false h = subst (λ v. scalar_text mm v ≡ Number (pos z)) (same_ok _ v h) refl

  literal-text : (e : ℕ) (text : List ℕ) (v : Scalar) → literal_for mm e text ≡ Ok v → scalar_text mm v ≡ Words text
  literal-text e text v h =
      elim (literal_named mm e text) as (λ o. literal_named mm e text ≡ o → or_wrong (option_map (scalars.Literal e) o) ≡ Ok v → scalar_text mm v ≡ Words text) [
        | None ↦ λ is h. cc
        | Some l ↦ λ is h. subst (λ v. scalar_text mm v ≡ Words text) (same_ok (scalars.Literal e l) v h) (ap Words (literal-name mm e l text is))
      ] refl h

  -- what is written of a value that was read says what was read
  text-of : (kind : Kind) (t : ScalarText) (v : Scalar) → value_for mm kind t ≡ Ok v → scalar_text mm v ≡ t
  text-of kinds.Int (Number z) v h = subst (λ v. scalar_text mm v ≡ Number z) (same_ok (scalars.Int z) v h) refl
  text-of kinds.Bool (Number z) v h = subst (λ v. scalar_text mm v ≡ Number z) (same_ok (scalars.Int z) v h) refl
  text-of kinds.Text (Number z) v h = subst (λ v. scalar_text mm v ≡ Number z) (same_ok (scalars.Int z) v h) refl
  text-of (kinds.Enum e) (Number z) v h = subst (λ v. scalar_text mm v ≡ Number z) (same_ok (scalars.Int z) v h) refl
  text-of (kinds.Reference c) (Number (pos n)) v h = number-text n v (ltb n (2 ^ 32)) h
  text-of (kinds.Reference c) (Number (negsuc n)) v h = subst (λ v. scalar_text mm v ≡ Number (negsuc n)) (same_ok (scalars.Int (negsuc n)) v h) refl
  text-of kind (Flag b) v h = subst (λ v. scalar_text mm v ≡ Flag b) (same_ok (scalars.Bool b) v h) refl
  text-of kinds.Int (Words text) v h = subst (λ v. scalar_text mm v ≡ Words text) (same_ok (scalars.Text text) v h) refl
  text-of kinds.Bool (Words text) v h = subst (λ v. scalar_text mm v ≡ Words text) (same_ok (scalars.Text text) v h) refl
  text-of kinds.Text (Words text) v h = subst (λ v. scalar_text mm v ≡ Words text) (same_ok (scalars.Text text) v h) refl
  text-of (kinds.Enum e) (Words text) v h = literal-text e text v h
  text-of (kinds.Reference c) (Words text) v h = subst (λ v. scalar_text mm v ≡ Words text) (same_ok (scalars.Text text) v h) refl

  again-of : (kind : Kind) (t : ScalarText) (v : Scalar) → value_for mm kind t ≡ Ok v → IsAgain mm kind v
  again-of kind t v h = subst (λ t. value_for mm kind t ≡ Ok v) (sym (text-of kind t v h)) h

  all-again : (kind : Kind) (text : SlotText) (values : List Scalar) → values_for mm kind text ≡ Ok values → AllByRecursion (IsAgain mm kind) values
  all-again kind text values h =
      elim text.listed as (λ b. cond b (walked (value_for mm kind) text.values) (in_turn (value_for mm kind) text.values) ≡ Ok values → AllByRecursion (IsAgain mm kind) values) [
        | true ↦ λ h. turn-each (in_place (value_for mm kind)) (IsAgain mm kind) (λ e v i. again-of kind e.1 v (within_ok _ (value_for mm kind e.1) v i)) (enumerate_from 0 text.values) values h
        | false ↦ λ h. turn-each (value_for mm kind) (IsAgain mm kind) (λ t v i. again-of kind t v i) text.values values h
      ] h

  said-of : (kind : Kind) (values : List Scalar) → AllByRecursion (IsAgain mm kind) values → list_all is_in_range values ≡ true → AllByRecursion (IsSaid mm kind) values
  said-of kind [] h s = tt
  said-of kind (v ∷ values) h s = (ap (λ r. r >>= value_for mm kind) (scalar-read mm v (and_parts _ _ s).0) ∙ h.0, said-of kind values h.1 (and_parts _ _ s).1)

-- ---- slots

record IsReadSlot (mm : Metamodel) (class : ℕ) (name : List ℕ) (s : RowSlot) : Type 0 where
  of_class : has_feature mm class s.feature ≡ true
  count : has_count mm s.feature s.values ≡ true
  again : (feature : Feature) → feature_at mm s.feature ≡ Some feature → AllByRecursion (IsAgain mm feature.kind) s.values
  named : slot_name mm s ≡ name
  known : is_known_slot mm s ≡ true

counted-so : (b : Bool) (x y : RowSlot) → ◌≡◌ {A = Result RowSlot Place} (cond b (Ok x) (Err [])) (Ok y) → (b ≡ true) × (x ≡ y)
counted-so true x y h = (refl, same_ok x y h)
counted-so false x y h = cc

slot-read : (mm : Metamodel) (class : ℕ) (entry : List ℕ × SlotText) (s : RowSlot) → row_slot_for mm class entry ≡ Ok s → IsReadSlot mm class entry.0 s
unfolding row_slot_for row_slot_with
slot-read mm class entry s h =
    let f = then_ok (or_wrong (feature_named mm class entry.0)) (row_slot_with mm entry.1) s h in
    let at = then_ok (or_wrong (feature_at mm f.0)) (λ (feature : Feature). values_for mm feature.kind entry.1 >>= counted mm f.0) s f.2 in
    let values = then_ok (values_for mm at.0.kind entry.1) (counted mm f.0) s at.2 in
    let made = counted-so (has_count mm f.0 values.0) (record { feature = f.0; values = values.0 }) s values.2 in
    let own = find-own (is_name_of mm entry.0) (features_of mm class) f.0 (or_wrong_ok _ f.0 f.1) in
    let present = or_wrong_ok (feature_at mm f.0) at.0 at.1 in
    let called : at.0.name ≡ entry.0 = same-text at.0.name entry.0 (sym (ap (λ o. option_map_or (λ (feature : Feature). same_name feature.name entry.0) o false) present) ∙ own.1) in
    subst (IsReadSlot mm class entry.0) made.1 (record {
      of_class = any_In (λ feature. eqb feature f.0) (features_of mm class) f.0 own.0 (is_itself f.0);
      count = made.0;
      again = λ feature is. subst (λ (feature : Feature). AllByRecursion (IsAgain mm feature.kind) values.0) (same_Some at.0 feature (sym present ∙ is)) (all-again mm at.0.kind entry.1 values.0 values.1);
      named = ap (λ o. option_map_or (λ (feature : Feature). feature.name) o []) present ∙ called;
      known = lt-ltb f.0 (length mm.features) (slice_get_within mm.features f.0 at.0 present);
    })

-- ---- rows

row_text-names : (d : Data) (text : RowText) → Ascends d → row_text_of d ≡ Ok text → names_ascend (map (λ (y : List ℕ × SlotText). y.0) text.slots) ≡ true
unfolding row_text_of
row_text-names d text all h =
    let one = then_ok (listed (codes "class" ∷ codes "slots" ∷ []) d) (λ (_ : ⊤). needed (codes "class") name_of d >>= (λ (class : List ℕ). needed (codes "slots") (members_of slot_of) d >>= (λ (slots : List (List ℕ × SlotText)). Ok (record { class = class; slots = slots })))) text h in
    let two = then_ok (needed (codes "class") name_of d) (λ (class : List ℕ). needed (codes "slots") (members_of slot_of) d >>= (λ (slots : List (List ℕ × SlotText)). Ok (record { class = class; slots = slots }))) text one.2 in
    let three = then_ok (needed (codes "slots") (members_of slot_of) d) (λ (slots : List (List ℕ × SlotText)). Ok (record { class = two.0; slots = slots })) text two.2 in
    let slots = needed-read (codes "slots") (members_of slot_of) d three.0 three.1 in
    subst (λ (text : RowText). names_ascend (map (λ (y : List ℕ × SlotText). y.0) text.slots) ≡ true) (same_ok (record { class = two.0; slots = three.0 }) text three.2)
    (members-names slots.part three.0 (get-ascends (codes "slots") d slots.part all slots.there_is) slots.is)

record IsReadRow (mm : Metamodel) (text : RowText) (row : ObjectRow) : Type 0 where
  class_known : row.class < length mm.classes
  names : map (slot_name mm) row.slots ≡ map (λ (y : List ℕ × SlotText). y.0) text.slots
  slots : AllByRecursion (λ (s : RowSlot). (name : List ℕ) × IsReadSlot mm row.class name s) row.slots

row-of : (mm : Metamodel) (text : RowText) (row : ObjectRow) → row_for mm text ≡ Ok row → IsReadRow mm text row
unfolding row_for
row-of mm text row h =
    let c = then_ok (or_wrong (class_named mm text.class)) (λ (class : ℕ). in_turn (row_slot_for mm class) text.slots >>= row_with class) row h in
    let slots = then_ok (in_turn (row_slot_for mm c.0) text.slots) (row_with c.0) row c.2 in
    subst (IsReadRow mm text) (same_ok (record { class = c.0; slots = slots.0 }) row slots.2) (record {
      class_known = class_in_range mm text.class c.0 (or_wrong_ok _ c.0 c.1);
      names = turn-keeps (row_slot_for mm c.0) (λ (y : List ℕ × SlotText). y.0) (slot_name mm) (λ y s e. (slot-read mm c.0 y s e).named) text.slots slots.0 slots.1;
      slots = turn-each (row_slot_for mm c.0) (λ (s : RowSlot). (name : List ℕ) × IsReadSlot mm c.0 name s) (λ y s e. (y.0, slot-read mm c.0 y s e)) text.slots slots.0 slots.1;
    })

all-known : (mm : Metamodel) (class : ℕ) (slots : List RowSlot) → AllByRecursion (λ (s : RowSlot). (name : List ℕ) × IsReadSlot mm class name s) slots → list_all (is_known_slot mm) slots ≡ true
all-known mm class [] h = refl
all-known mm class (s ∷ slots) h = and_from _ _ h.0.1.known (all-known mm class slots h.1)

pub row-known : (mm : Metamodel) (d : Data) (row : ObjectRow) → row_from mm d ≡ Ok row → is_known_row mm row ≡ true
unfolding row_from
row-known mm d row h =
    let b = then_ok (row_text_of d) (row_for mm) row h in
    let r = row-of mm b.0 row b.2 in
    and_from _ _ (lt-ltb _ _ r.class_known) (all-known mm row.class row.slots r.slots)

all-slots : (mm : Metamodel) (class : ℕ) (slots : List RowSlot) → AllByRecursion (λ (s : RowSlot). (name : List ℕ) × IsReadSlot mm class name s) slots → list_all (λ (s : RowSlot). list_all is_in_range s.values) slots ≡ true → AllByRecursion (IsRowSlot mm class) slots
all-slots mm class [] h s = tt
all-slots mm class (slot ∷ slots) h s = (
  record {
    of_class = h.0.1.of_class;
    count = h.0.1.count;
    in_range = (and_parts _ _ s).0;
    said = λ feature is. said-of mm feature.kind slot.values (h.0.1.again feature is) (and_parts _ _ s).0;
  },
  all-slots mm class slots h.1 (and_parts _ _ s).1,
)

pub row-sound : (mm : Metamodel) (bytes : List ℕ) (d : Data) (row : ObjectRow) → json_of bytes ≡ Some d → row_from mm d ≡ Ok row → list_all (λ (s : RowSlot). list_all is_in_range s.values) row.slots ≡ true → IsRow mm row
unfolding row_from
row-sound mm bytes d row spelled h sayable =
    let b = then_ok (row_text_of d) (row_for mm) row h in
    let r = row-of mm b.0 row b.2 in
    let all = subst (λ o. IfSome o Ascends) spelled (json_of_ascends bytes) in
    record {
      class_known = r.class_known;
      ascending = ap names_ascend r.names ∙ row_text-names d b.0 all b.1;
      slots = all-slots mm row.class row.slots r.slots sayable;
    }
