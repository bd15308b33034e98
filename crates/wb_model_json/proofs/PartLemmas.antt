-- What is true of the objects of a text over a metamodel.
use Rattle.std.proofs.Common.{◌≡◌, ◌<◌, ◌≤◌, ℕ, ◌+◌, true, false, List, [], ◌∷◌, map, length, Option, Some, None, Result, Ok, Err, refl, sym, ap, ◌∙◌, subst, cond, eqb, nat_le, arith}
use Rattle.std.specs.Prelude.{⊤, codes}
use Rattle.std.specs.List.{list_all, find, enumerate_from, AllByRecursion}
use Rattle.std.specs.Option.{option_map_or, option_or}
use Rattle.std.specs.Ordering.{nat_cmp, is_lt}
use Rattle.std.specs.Cmp.Lexicographic.{slice_cmp}
use Rattle.std.proofs.lemmas.Bool.{and_parts, and_from, lt-ltb, leb-true, eqb-true, false≢true, not_from_false, false_from_ne_true}
use Rattle.std.proofs.lemmas.Cmp.{nat_list_cmp_total}
use Rattle.std.proofs.lemmas.List.{length-map}
use Rattle.std.proofs.lemmas.List.Folds.{list_all-map}
use Rattle.std.proofs.lemmas.Option.{slice_get_within, same_Some}
use Rattle.wb_base.proofs.ListLemmas.{map-map}
use Rattle.wb_base.specs.Results.{◌>>=◌}
use Rattle.wb_base.proofs.Steps.{then_ok, same_ok}
use Rattle.wb_json.proofs.Found.{within_ok, or_wrong_ok, coded_ok}
use Rattle.wb_json.specs.Place.{Place, at_member}
use Rattle.wb_json.specs.Form.{in_turn, or_wrong}
use Rattle.wb_json.specs.Refusals.{coded}
use Rattle.wb_metamodel.specs.Metamodel.{Metamodel, class_named, feature_at, feature_named, features_of, numbers, same_name}
use Rattle.wb_metamodel.specs.Checks.{is_name_of}
use Rattle.wb_ecore.specs.Resolving.{in_place, walked}
use Rattle.wb_metamodel.proofs.Ranges.{class_in_range}
use Rattle.wb_ecore.specs.declared.features.Feature.{Feature}
use Rattle.wb_store.specs.declared.scalars.Scalar.{Scalar}
use Rattle.wb_store.specs.declared.parts.Part.{Part}
use Rattle.wb_store.specs.declared.parts.SlotPart.{SlotPart}
use Rattle.wb_store.specs.declared.records.Record.{Record}
use Rattle.wb_store.specs.Parts.{slot_of, record_of, AreParts}
use Rattle.wb_store.specs.Records.{is_known, is_known_slot, feature_of as slot_feature, id_of as record_id}
use Rattle.wb_store.specs.Places.{once}
use Rattle.wb_store.proofs.Members.{In-all, In-map, map-In}
use Rattle.wb_validity.proofs.LinkLemmas.{any_found}
use Rattle.wb_model_json.specs.declared.model_text.SlotText.{SlotText}
use Rattle.wb_model_json.specs.declared.model_text.ObjectText.{ObjectText}
use Rattle.wb_model_json.specs.declared.model_text.ModelText.{ModelText}
use Rattle.wb_model_json.specs.declared.refusal.ModelCode.TheVariants.{TooMany, DuplicateObject, UnknownName}
use Rattle.wb_model_json.specs.ModelFile.{values_for, slot_with, slot_named, feature_for, slot_for, slots_for, part_with, part_for, parts_for, few, id_of, repeated_at, unrepeated, checked_parts}
use Rattle.wb_model_json.specs.Rows.{names_ascend}
use Rattle.wb_model_json.specs.Written.{feature_name}
use Rattle.wb_model_json.proofs.Differing.{differing}
use Rattle.wb_model_json.proofs.Entries.{not_below_itself}
use Rattle.wb_model_json.proofs.RowsSound.{same-text}
use Rattle.wb_model_json.proofs.Walks.{find-own, turned, turn-passes, turn-keeps}
use Rattle.wb_model_json.proofs.TextNames.{SlotsAscend}

abbrev feature_of : SlotPart → ℕ
feature_of slot = slot.feature

map-enumerated : {A C : Type 0} (f : A → C) (i : ℕ) (xs : List A) → map (λ (e : ℕ × A). f e.1) (enumerate_from i xs) ≡ map f xs
map-enumerated f i [] = refl
map-enumerated f i (x ∷ xs) = ap (λ ys. f x ∷ ys) (map-enumerated f (i + 1) xs)

-- ---- a slot

slot_known : (mm : Metamodel) (text : SlotText) (f : ℕ) (slot : SlotPart) → slot_with mm text f ≡ Ok slot → (is_known_slot mm (slot_of slot) ≡ true) × (slot.feature ≡ f)
unfolding slot_with
slot_known mm text f slot h =
    let at = then_ok (or_wrong (feature_at mm f)) (λ (feature : Feature). values_for mm feature.kind text >>= (λ (values : List Scalar). Ok (record { feature = f; listed = text.listed; values = values }))) slot h in
    let values = then_ok (values_for mm at.0.kind text) (λ (values : List Scalar). Ok (record { feature = f; listed = text.listed; values = values })) slot at.2 in
    let same = same_ok (record { feature = f; listed = text.listed; values = values.0 }) slot values.2 in (
      lt-ltb slot.feature (length mm.features) (subst (λ (s : SlotPart). s.feature < length mm.features) same (slice_get_within mm.features f at.0 (or_wrong_ok (feature_at mm f) at.0 at.1))),
      sym (ap feature_of same),
    )

-- the feature of a name has this name
has-name : (mm : Metamodel) (name : List ℕ) (f : ℕ) → is_name_of mm name f ≡ true → feature_name mm f ≡ name
has-name mm name f h = elim (feature_at mm f) as (λ o. option_map_or (λ (feature : Feature). same_name feature.name name) o false ≡ true → option_map_or (λ (feature : Feature). feature.name) o [] ≡ name) [
  | None ↦ λ h. absurd (false≢true h)
  | Some feature ↦ λ h. same-text feature.name name h
] h

feature_for-named : (mm : Metamodel) (class : ℕ) (name : List ℕ) (f : ℕ) → feature_for mm class name ≡ Some f → feature_name mm f ≡ name
feature_for-named mm class name f h = has-name mm name f
    (elim (feature_named mm class name) as (λ o. feature_named mm class name ≡ o → option_or o (find (is_name_of mm name) (numbers (length mm.features))) ≡ Some f → is_name_of mm name f ≡ true) [
      | None ↦ λ is h. (find-own (is_name_of mm name) (numbers (length mm.features)) f h).1
      | Some g ↦ λ is h. subst (λ g. is_name_of mm name g ≡ true) (same_Some g f h) (find-own (is_name_of mm name) (features_of mm class) g is).1
    ] refl h)

slot_for-known : (mm : Metamodel) (class : ℕ) (member : List ℕ × SlotText) (slot : SlotPart) → slot_for mm class member ≡ Ok slot → (is_known_slot mm (slot_of slot) ≡ true) × (feature_name mm slot.feature ≡ member.0)
unfolding slot_named
slot_for-known mm class member slot h =
    let named = then_ok (or_wrong (feature_for mm class member.0)) (slot_with mm member.1) slot (within_ok _ _ slot h) in
    let known = slot_known mm member.1 named.0 slot named.2 in
    (known.0, ap (feature_name mm) known.1 ∙ feature_for-named mm class member.0 named.0 (or_wrong_ok _ named.0 named.1))

-- features of names that differ differ
names-once : (mm : Metamodel) (slots : List SlotPart) → names_ascend (map (λ (slot : SlotPart). feature_name mm slot.feature) slots) ≡ true → once (map (λ (slot : SlotPart). feature_of slot) slots) ≡ true
names-once mm [] h = refl
names-once mm (slot ∷ slots) h =
    let parts = and_parts _ _ h in
    and_from _ _ (not_from_false _ (false_from_ne_true _ (λ again.
    let f = any_found (λ other. eqb other slot.feature) (map feature_of slots) again in
    let p = map-In feature_of slots f.0 f.1 in
    let below = In-all (λ other. is_lt (slice_cmp nat_cmp (feature_name mm slot.feature) other)) (map (λ (slot : SlotPart). feature_name mm slot.feature) slots) (feature_name mm p.0.feature) parts.0 (In-map (λ (slot : SlotPart). feature_name mm slot.feature) slots p.0 p.1) in
    not_below_itself nat_list_cmp_total (feature_name mm slot.feature) (subst (λ g. is_lt (slice_cmp nat_cmp (feature_name mm slot.feature) (feature_name mm g)) ≡ true) (sym p.2 ∙ eqb-true _ _ f.2) below))))
    (names-once mm slots parts.1)

-- ---- an object

record IsPartOf (mm : Metamodel) (text : ObjectText) (part : Part) : Type 0 where
  same_id : part.id ≡ text.id
  known : is_known mm (record_of part) ≡ true
  features_once : SlotsAscend text → once (map slot_feature (record_of part).slots) ≡ true

part_of : (mm : Metamodel) (text : ObjectText) (part : Part) → part_for mm text ≡ Ok part → IsPartOf mm text part
unfolding part_for
part_of mm text part h =
    let named = then_ok (at_member (codes "class") (or_wrong (class_named mm text.class))) (λ (class : ℕ). slots_for mm class text.slots >>= part_with text class) part h in
    let slots = then_ok (slots_for mm named.0 text.slots) (part_with text named.0) part named.2 in
    let read = within_ok _ _ slots.0 slots.1 in
    let class_known = lt-ltb named.0 (length mm.classes) (class_in_range mm text.class named.0 (or_wrong_ok _ _ (within_ok _ _ named.0 named.1))) in
    let slots_known = list_all-map (is_known_slot mm) slot_of slots.0 ∙ turn-passes (slot_for mm named.0) (λ slot. is_known_slot mm (slot_of slot)) (λ y s e. (slot_for-known mm named.0 y s e).0) text.slots slots.0 read in
    subst (IsPartOf mm text) (same_ok (record { id = text.id; class = named.0; slots = slots.0 }) part slots.2) (record {
      same_id = refl;
      known = and_from _ _ class_known slots_known;
      features_once = λ ascend.
          ap once (map-map slot_feature slot_of slots.0)
          ∙ names-once mm slots.0 (ap names_ascend (turn-keeps (slot_for mm named.0) (λ (y : List ℕ × SlotText). y.0) (λ (slot : SlotPart). feature_name mm slot.feature) (λ y s e. (slot_for-known mm named.0 y s e).1) text.slots slots.0 read) ∙ ascend);
    })

placed_part : (mm : Metamodel) (e : ℕ × ObjectText) (part : Part) → in_place (part_for mm) e ≡ Ok part → IsPartOf mm e.1 part
placed_part mm e part h = part_of mm e.1 part (within_ok _ (part_for mm e.1) part h)

each_once : (mm : Metamodel) (i : ℕ) (texts : List ObjectText) (parts : List Part) → AllByRecursion SlotsAscend texts → in_turn (in_place (part_for mm)) (enumerate_from i texts) ≡ Ok parts → list_all (λ part. once (map slot_feature (record_of part).slots)) parts ≡ true
each_once mm i [] parts all h = subst (λ (parts : List Part). list_all (λ part. once (map slot_feature (record_of part).slots)) parts ≡ true) (same_ok [] parts h) refl
each_once mm i (text ∷ texts) parts all h =
    let w = turned (in_place (part_for mm)) (i, text) (enumerate_from (i + 1) texts) parts h in
    subst (λ (parts : List Part). list_all (λ part. once (map slot_feature (record_of part).slots)) parts ≡ true) (sym w.all)
    (and_from _ _ ((placed_part mm (i, text) w.first w.made).features_once all.0) (each_once mm (i + 1) texts w.others all.1 w.made_on))

-- ---- all objects

few_enough : (n : ℕ) (x : ⊤) → ◌≡◌ {A = Result ⊤ Place} (cond (nat_le n 20000) (Ok tt) (Err [])) (Ok x) → n ≤ 20000
few_enough n x h = elim (nat_le n 20000) as (λ b. nat_le n 20000 ≡ b → ◌≡◌ {A = Result ⊤ Place} (cond b (Ok tt) (Err [])) (Ok x) → n ≤ 20000) [
  | true ↦ λ e h. leb-true n 20000 e
  | false ↦ λ e h. cc
] refl h

none_at : (o : Option ℕ) (x : ⊤) → repeated_at o ≡ Ok x → o ≡ None
none_at None x h = refl
none_at (Some i) x h = cc

-- what is asked of the objects of a model that is built
pub are_parts : (mm : Metamodel) (text : ModelText) (parts : List Part) → AllByRecursion SlotsAscend text.objects → checked_parts mm text ≡ Ok parts → AreParts mm parts
unfolding checked_parts
are_parts mm text parts ascend h =
    let one = then_ok (coded TooMany (few text.objects)) (λ (_ : ⊤). coded DuplicateObject (unrepeated text.objects) >>= (λ (_ : ⊤). coded UnknownName (parts_for mm text.objects))) parts h in
    let two = then_ok (coded DuplicateObject (unrepeated text.objects)) (λ (_ : ⊤). coded UnknownName (parts_for mm text.objects)) parts one.2 in
    let read = within_ok _ (walked (part_for mm) text.objects) parts (coded_ok UnknownName (parts_for mm text.objects) parts two.2) in
    let count = few_enough (length text.objects) one.0 (coded_ok TooMany (few text.objects) one.0 one.1) in
    let differ = differing (map id_of text.objects) (none_at _ two.0 (coded_ok DuplicateObject (unrepeated text.objects) two.0 two.1)) in
    let ids = map-map record_id record_of parts
    ∙ turn-keeps (in_place (part_for mm)) (λ (e : ℕ × ObjectText). id_of e.1) (λ part. record_id (record_of part)) (λ e part p. (placed_part mm e part p).same_id) (enumerate_from 0 text.objects) parts read
    ∙ map-enumerated id_of 0 text.objects in
    let many = sym (length-map parts record_of) ∙ sym (length-map (map record_of parts) record_id) ∙ ap (λ (ns : List ℕ). length ns) ids ∙ length-map text.objects id_of in
    record {
      known = list_all-map (is_known mm) record_of parts ∙ turn-passes (in_place (part_for mm)) (λ part. is_known mm (record_of part)) (λ e part p. (placed_part mm e part p).known) (enumerate_from 0 text.objects) parts read;
      objects_once = ap once ids ∙ differ;
      features_once = list_all-map (λ (r : Record). once (map slot_feature r.slots)) record_of parts ∙ each_once mm 0 text.objects parts ascend read;
      few = omega (arith, count, many);
    }
