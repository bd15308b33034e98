-- What is written of a row is read as this row again.
use Rattle.std.proofs.Common.{◌≡◌, ◌<◌, ℕ, Bool, true, false, List, [], ◌∷◌, map, length, Some, None, Ok, Err, refl, sym, ap, ◌∙◌, subst, cond, eqb, ltb, arith, Ordering, Less, Equal, Greater}
use Rattle.std.proofs.lemmas.Bool.{and_parts, false≢true, eqb-true}
use Rattle.std.proofs.lemmas.Bool.Decides.{nat_tests}
use Rattle.std.proofs.lemmas.Option.{none-some, same_Some}
use Rattle.std.proofs.lemmas.Slice.Eq.{bytes_eq-Decides}
use Rattle.std.proofs.lemmas.Str.{IsUtf8-from_is_utf8}
use Rattle.std.specs.Str.{is_utf8}
use Rattle.std.specs.Prelude.{codes}
use Rattle.std.specs.List.{list_all, AllByRecursion}
use Rattle.std.specs.Option.{option_map_or}
use Rattle.std.specs.Ordering.{nat_cmp, is_lt}
use Rattle.std.specs.Cmp.Lexicographic.{slice_cmp}
use Rattle.serde_json.specs.Data.{Data, string, object, no_members, member}
use Rattle.serde_json.specs.Read.{read}
use Rattle.wb_json.specs.Place.{Place}
use Rattle.wb_base.specs.Results.{◌>>=◌}
use Rattle.wb_json.specs.Form.{in_turn, or_wrong, is_name, members_of, object_with}
use Rattle.wb_json.specs.Json.{json_of}
use Rattle.wb_json.specs.ToJson.{members_json}
use Rattle.wb_json.proofs.JsonTexts.{json_of_text}
use Rattle.wb_metamodel.specs.Metamodel.{Metamodel, same_name, class_at, class_named, feature_at, features_of}
use Rattle.wb_metamodel.specs.WellFormed.{WellFormed}
use Rattle.wb_ecore.specs.declared.classes.Class.{Class}
use Rattle.wb_ecore.specs.declared.features.Feature.{Feature}
use Rattle.wb_metamodel.proofs.Ranges.{features_in_range}
use Rattle.wb_store.specs.Features.{is_many}
use Rattle.wb_validity.proofs.LinkLemmas.{any_found}
use Rattle.wb_store.proofs.Members.{In, In-all, map-In, Contains-In}
use Rattle.wb_store.proofs.Members.In.{here, there}
use Rattle.wb_model_json.specs.declared.model_text.SlotText.{SlotText}
use Rattle.wb_model_json.specs.declared.rows.ObjectRow.{ObjectRow}
use Rattle.wb_model_json.specs.declared.rows.RowSlot.{RowSlot}
use Rattle.wb_model_json.specs.ByName.{by_name}
use Rattle.wb_model_json.specs.ModelFile.{value_for, values_for}
use Rattle.wb_model_json.specs.ModelText.{slot_of}
use Rattle.wb_model_json.specs.RowText.{row_text_of, counted, row_slot_with, row_slot_for, row_with, row_for, row_from}
use Rattle.wb_model_json.specs.Rows.{slot_name, row_slot, data_of_row, text_of_row, names_ascend, IsSaid, IsRowSlot, IsRow, IsTextOf, slot_row}
use Rattle.wb_validity.specs.Ranges.{is_in_range}
use Rattle.wb_model_json.specs.Written.{class_name, slot_data}
use Rattle.wb_model_json.proofs.ByName.{Ascend, IsBelowEach, by_name-In, by_name-ascending}
use Rattle.wb_model_json.proofs.ReadBack.{read-compact_text}
use Rattle.wb_model_json.proofs.SayableModels.{slot-shallow}
use Rattle.wb_model_json.proofs.Shallow.{IsShallow, members-shallow}
use Rattle.wb_model_json.proofs.WrittenForms.{members_of-written, in_turn-made}
use Rattle.wb_base.proofs.ListLemmas.{present}
use Rattle.wb_model_json.proofs.WrittenScalars.{scalar-read, slot_text, values-again}
use Rattle.wb_model_json.proofs.WrittenSlots.{NamedSlot, IsWritten, named_text, name-read, data-read, found}

all-In : {A : Type 0} (P : A → Type 0) (xs : List A) (x : A) → AllByRecursion P xs → In x xs → P x
all-In P [] x h i = elim i [ ]
all-In P (z ∷ xs) x h here = h.0
all-In P (y ∷ xs) x h (there i) = all-In P xs x h.1 i

lesser : (o : Ordering) → is_lt o ≡ true → o ≡ Less
lesser Less h = refl
lesser Equal h = absurd (false≢true h)
lesser Greater h = absurd (false≢true h)

row_text_of-read : (name : List ℕ) (slots : Data) (texts : List (List ℕ × SlotText)) → is_name name ≡ true → members_of slot_of slots ≡ Ok texts
    → row_text_of (object (member (codes "class") (string name) (member (codes "slots") slots no_members))) ≡ Ok (record { class = name; slots = texts })
unfolding row_text_of object_with
row_text_of-read name slots texts named read = rw (named, read)

row-shallow : (name : List ℕ) (slots : Data) → IsShallow 2 slots → IsShallow 3 (object (member (codes "class") (string name) (member (codes "slots") slots no_members)))
row-shallow name slots s = let below = s.shallow in record { sayable = ((refl, tt), tt, (tt, s.sayable, tt)); shallow = omega arith }

some_of : (n : ℕ) (many : Bool) → cond many (ltb 0 n) (eqb n 1) ≡ true → ltb 0 n ≡ true
some_of n true h = h
some_of n false h = grind (arith, nat_tests)

one_of : (n : ℕ) (many : Bool) → cond many (ltb 0 n) (eqb n 1) ≡ true → many ≡ false → n ≡ 1
one_of n true h e = absurd (false≢true (sym e))
one_of n false h e = eqb-true n 1 h

pub count_of : (n : ℕ) (many : Bool) → ltb 0 n ≡ true → (many ≡ false → n ≡ 1) → cond many (ltb 0 n) (eqb n 1) ≡ true
count_of n true h one = h
count_of n false h one = let e = one refl in grind (arith, nat_tests)

module _ (mm : Metamodel) (formed : WellFormed mm) (c : ℕ) (known : c < length mm.classes) where
  feature-of : (f : ℕ) → In f (features_of mm c) → (feature : Feature) × (feature_at mm f ≡ Some feature)
  feature-of f i =
      let at = Contains-In (features_of mm c) f i in
      present mm.features f (subst (λ g. g < length mm.features) at.2 (features_in_range mm c at.0 f at.1))

  slot-written : (s : RowSlot) → IsRowSlot mm c s → IsWritten mm c (row_slot mm s)
  slot-written s h =
      let own = any_found (λ feature. eqb feature s.feature) (features_of mm c) h.of_class in
      let mine = subst (λ g. In g (features_of mm c)) (eqb-true _ _ own.2) own.1 in
      let feature = feature-of s.feature mine in
      record {
        feature = feature.0;
        at = feature.1;
        named = ap (λ o. option_map_or (λ (feature : Feature). feature.name) o []) feature.1;
        own = mine;
        single = one_of (length s.values) (is_many mm s.feature) h.count;
        filled = some_of (length s.values) (is_many mm s.feature) h.count;
        sayable = h.in_range;
        again = λ v i.
            sym (ap (λ r. r >>= value_for mm feature.0.kind) (scalar-read mm v (In-all is_in_range s.values v h.in_range i)))
            ∙ all-In (IsSaid mm feature.0.kind) s.values v (h.said feature.0 feature.1) i;
      }

  slot-again : (n : NamedSlot) → IsWritten mm c n → row_slot_for mm c (named_text mm n) ≡ Ok (slot_row n)
  unfolding row_slot_for row_slot_with
  slot-again n w =
      ap (λ o. or_wrong o >>= row_slot_with mm (slot_text mm n.1)) (found mm formed c known n w)
      ∙ ap (λ o. or_wrong o >>= (λ (feature : Feature). values_for mm feature.kind (slot_text mm n.1) >>= counted mm n.1.0)) w.at
      ∙ ap (λ r. r >>= counted mm n.1.0) (values-again mm w.feature.kind n.1 w.again)
      ∙ ap (λ b. cond b (Ok (slot_row n)) (Err [])) (count_of (length n.1.1) (is_many mm n.1.0) w.filled w.single)

names-below : (mm : Metamodel) (k : List ℕ) (slots : List RowSlot) → list_all (λ other. is_lt (slice_cmp nat_cmp k other)) (map (slot_name mm) slots) ≡ true → IsBelowEach k (map (row_slot mm) slots)
names-below mm k [] h = tt
names-below mm k (s ∷ slots) h = (lesser _ (and_parts _ _ h).0, names-below mm k slots (and_parts _ _ h).1)

names-ascend : (mm : Metamodel) (slots : List RowSlot) → names_ascend (map (slot_name mm) slots) ≡ true → Ascend (map (row_slot mm) slots)
names-ascend mm [] h = tt
names-ascend mm (s ∷ slots) h = (names-below mm (slot_name mm s) slots (and_parts _ _ h).0, names-ascend mm slots (and_parts _ _ h).1)

same-slots : (mm : Metamodel) (slots : List RowSlot) → map slot_row (map (row_slot mm) slots) ≡ slots
same-slots mm [] = refl
same-slots mm (s ∷ slots) = ap (λ (slots : List RowSlot). s ∷ slots) (same-slots mm slots)

module _ (mm : Metamodel) (formed : WellFormed mm) (row : ObjectRow) (is : IsRow mm row) where
  abbrev named_slots_in : List NamedSlot
  named_slots_in = map (row_slot mm) row.slots

  written : (n : NamedSlot) → In n named_slots_in → IsWritten mm row.class n
  written n i =
      let s = map-In (row_slot mm) row.slots n i in
      subst (IsWritten mm row.class) (sym s.2) (slot-written mm formed row.class is.class_known s.0 (all-In (IsRowSlot mm row.class) row.slots s.0 is.slots s.1))

  sorted : by_name named_slots_in ≡ named_slots_in
  sorted = by_name-ascending named_slots_in (names-ascend mm row.slots is.ascending)

  slots-read : members_of slot_of (members_json (slot_data mm) named_slots_in) ≡ Ok (map (named_text mm) named_slots_in)
  slots-read =
      members_of-written slot_of (slot_data mm) (slot_text mm) named_slots_in (λ n i.
      let w = written n (by_name-In named_slots_in n i) in
      (name-read mm formed row.class is.class_known n w, data-read mm formed row.class is.class_known n w))
      ∙ ap (λ (ns : List NamedSlot). Ok (map (named_text mm) ns)) sorted

  class-of : (class : Class) × (class_at mm row.class ≡ Some class)
  class-of = present mm.classes row.class is.class_known

  class-name : class_name mm row.class ≡ class-of.0.name
  class-name = ap (λ o. option_map_or (λ (class : Class). class.name) o []) class-of.1

  pub row-read : row_from mm (data_of_row mm row) ≡ Ok row
  unfolding row_from row_for data_of_row
  row-read =
      ap (λ r. r >>= row_for mm) (row_text_of-read (class_name mm row.class) _ (map (named_text mm) named_slots_in) (ap is_name class-name ∙ formed.classes_are_names row.class class-of.0 class-of.1) slots-read)
      ∙ ap (λ o. or_wrong o >>= (λ (class : ℕ). in_turn (row_slot_for mm class) (map (named_text mm) named_slots_in) >>= row_with class)) (ap (class_named mm) class-name ∙ formed.classes_named row.class class-of.0 class-of.1)
      ∙ ap (λ r. r >>= row_with row.class) (in_turn-made (row_slot_for mm row.class) (named_text mm) slot_row named_slots_in (λ n i. slot-again mm formed row.class is.class_known n (written n i)))
      ∙ ap (λ slots. Ok (record { class = row.class; slots = slots })) (same-slots mm row.slots)

  shallow : IsShallow 3 (data_of_row mm row)
  unfolding data_of_row
  shallow = row-shallow (class_name mm row.class) _ (members-shallow (slot_data mm) 1 named_slots_in (λ n i. slot-shallow mm n.1 (written n (by_name-In named_slots_in n i)).sayable))

  pub row-spelled : (bytes : List ℕ) → IsTextOf mm bytes row → json_of bytes ≡ Some (data_of_row mm row)
  unfolding text_of_row
  row-spelled bytes t =
      let small = shallow.shallow in
      json_of_text bytes (Some (data_of_row mm row)) (IsUtf8-from_is_utf8 bytes t.utf8) (ap read t.text ∙ read-compact_text (data_of_row mm row) shallow.sayable (omega arith))

-- a text is written of one row at most
pub one-row : (mm : Metamodel) → WellFormed mm → (bytes : List ℕ) (r s : ObjectRow) → IsTextOf mm bytes r → IsTextOf mm bytes s → r ≡ s
one-row mm formed bytes r s t u =
    let spelled = sym (row-spelled mm formed r t.row bytes t) ∙ row-spelled mm formed s u.row bytes u in
    let same : data_of_row mm r ≡ data_of_row mm s = cc in
    let read = sym (row-read mm formed r t.row) ∙ ap (row_from mm) same ∙ row-read mm formed s u.row in
    cc

-- ---- what a text says

spelled-utf8 : (bytes : List ℕ) (d : Data) → json_of bytes ≡ Some d → is_utf8 bytes ≡ true
unfolding json_of
spelled-utf8 bytes d h =
    elim (is_utf8 bytes) as (λ b. cond b (read bytes) None ≡ Some d → b ≡ true) [
      | true ↦ λ h. refl
      | false ↦ λ h. absurd (none-some d h)
    ] h

module _ (mm : Metamodel) (formed : WellFormed mm) (bytes : List ℕ) where
  -- a text that spells nothing is no row's
  pub none-spelled : json_of bytes ≡ None → (r : ObjectRow) → IsTextOf mm bytes r → ⊥
  none-spelled h r t = none-some (data_of_row mm r) (sym h ∙ row-spelled mm formed r t.row bytes t)

  module _ (d : Data) (spelled : json_of bytes ≡ Some d) where
    -- what is read of the text of a row is this row
    read-so : (r : ObjectRow) → IsTextOf mm bytes r → row_from mm d ≡ Ok r
    read-so r t = ap (row_from mm) (same_Some d (data_of_row mm r) (sym spelled ∙ row-spelled mm formed r t.row bytes t)) ∙ row-read mm formed r t.row

    pub none-read : (place : Place) → row_from mm d ≡ Err place → (r : ObjectRow) → IsTextOf mm bytes r → ⊥
    none-read place h r t = let said = read-so r t in cc

    module _ (row : ObjectRow) (is : row_from mm d ≡ Ok row) (written : List ℕ) (by : written ≡ text_of_row mm row) (b : Bool) (test : b ≡ same_name written bytes) where
      pub other-text : b ≡ false → (r : ObjectRow) → IsTextOf mm bytes r → ⊥
      other-text e r t =
          let said = read-so r t in
          let same : row ≡ r = cc in
          let equal : written ≡ bytes = by ∙ ap (text_of_row mm) same ∙ sym t.text in
          false≢true (sym e ∙ test ∙ (bytes_eq-Decides written bytes).1 equal)

      pub same-text : b ≡ true → IsRow mm row → IsTextOf mm bytes row
      same-text e sound = record {
        row = sound;
        text = sym ((bytes_eq-Decides written bytes).0 (sym test ∙ e)) ∙ by;
        utf8 = spelled-utf8 bytes d spelled;
      }
