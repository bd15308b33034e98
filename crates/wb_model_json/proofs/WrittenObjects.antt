-- What is written of an object of a valid model is read as this object again.
use Rattle.std.proofs.Common.{◌≡◌, ◌<◌, ℕ, zero, suc, ◌^◌, Bool, true, false, ◌&&◌, List, [], ◌∷◌, map, length, Some, None, Ok, refl, sym, ap, ◌∙◌, subst, cond, ltb, leb, arith}
use Rattle.std.proofs.lemmas.Bool.{and_parts, false≢true, ltb-true}
use Rattle.std.proofs.lemmas.Bool.Decides.{nat_tests}
use Rattle.std.proofs.lemmas.Cmp.{nat_cmp_total}
use Rattle.std.specs.Prelude.{codes, filter, slice_get}
use Rattle.std.specs.List.{list_all}
use Rattle.std.specs.Option.{option_map_or}
use Rattle.std.specs.FinMap.{entries, get, nat_cmp-IsAntisymmetric}
use Rattle.serde_json.specs.Data.{Data, number, string, object, no_members, member, unsigned}
use Rattle.wb_base.proofs.ListLemmas.{present}
use Rattle.wb_json.specs.Form.{is_name, members_of, object_with}
use Rattle.wb_metamodel.specs.Metamodel.{class_at, feature_at, features_of}
use Rattle.wb_metamodel.specs.WellFormed.{WellFormed}
use Rattle.wb_ecore.specs.declared.classes.Class.{Class}
use Rattle.wb_ecore.specs.declared.features.Feature.{Feature}
use Rattle.wb_metamodel.proofs.Ranges.{features_in_range}
use Rattle.wb_store.specs.declared.scalars.Scalar.{Scalar}
use Rattle.wb_store.specs.declared.parts.Part.{Part}
use Rattle.wb_store.specs.Contents.{Contents, Filled, members, kind, slot}
use Rattle.wb_store.specs.Features.{is_many}
use Rattle.wb_validity.specs.Valid.{Valid, every_slot, is_of_kind, is_of_feature}
use Rattle.wb_store.proofs.Maps.{slot_cmp_total, slot_cmp-IsAntisymmetric}
use Rattle.wb_store.proofs.Members.{In, In-all, map-In, Contains-In}
use Rattle.wb_store.proofs.Filtered.{filter-In}
use Rattle.wb_model_json.specs.declared.model_text.SlotText.{SlotText}
use Rattle.wb_model_json.specs.declared.model_text.ObjectText.{ObjectText}
use Rattle.wb_model_json.specs.ByName.{by_name}
use Rattle.wb_model_json.specs.ModelFile.{part_for}
use Rattle.wb_model_json.specs.ModelText.{object_of, slot_of}
use Rattle.wb_validity.specs.Ranges.{is_in_range}
use Rattle.wb_model_json.specs.Written.{class_name, is_filled, named_slot, named_slots, slot_data, slots_data, object_of_class, object_data}
use Rattle.wb_model_json.proofs.ByName.{by_name-In, by_name-ascend}
use Rattle.wb_model_json.proofs.Entries.{entry-get, get-entry}
use Rattle.wb_validity.specs.Ranges.{AreInRange}
use Rattle.wb_model_json.proofs.InRange.{object-small}
use Rattle.wb_model_json.proofs.WrittenForms.{members_of-written}
use Rattle.wb_model_json.proofs.WrittenScalars.{slot_text, kind-again}
use Rattle.wb_model_json.proofs.WrittenSlots.{NamedSlot, IsWritten, named_text, named_part, name-read, data-read, part-again}

-- the form of an object
pub object_of-read : (name : List ℕ) (o : ℕ) (slots : Data) (texts : List (List ℕ × SlotText)) → is_name name ≡ true → ltb o (2 ^ 32) ≡ true → members_of slot_of slots ≡ Ok texts
    → object_of (object (member (codes "class") (string name) (member (codes "id") (number (unsigned o)) (member (codes "slots") slots no_members)))) ≡ Ok (record { id = o; class = name; slots = texts })
unfolding object_of object_with
object_of-read name o slots texts named small read = rw (small, named, read)

only_one : (n : ℕ) (many : Bool) → ltb 0 n ≡ true → leb n (cond many 20000 1) ≡ true → many ≡ false → n ≡ 1
only_one n true h l e = absurd (false≢true (sym e))
only_one n false h l e = grind (arith, nat_tests)

abbrev pub named_slots_of : Contents → ℕ → ℕ → List NamedSlot
named_slots_of m o c = by_name (named_slots m o (features_of m.metamodel c))

abbrev pub object_text : Contents → ℕ × ℕ → ObjectText
object_text m e = record { id = e.0; class = class_name m.metamodel e.1; slots = map (named_text m.metamodel) (named_slots_of m e.0 e.1) }

abbrev pub object_part : Contents → ℕ × ℕ → Part
object_part m e = record { id = e.0; class = e.1; slots = map (named_part m.metamodel) (named_slots_of m e.0 e.1) }

module _ (m : Contents) where
  -- the entry of a slot that has a value
  pub slot-entry : (o f : ℕ) → is_filled m o f ≡ true → (w : Filled) × In ((o, f), w) (entries m.slots) × (slot m o f ≡ members w)
  slot-entry o f h =
      elim (get m.slots (o, f)) as (λ r. get m.slots (o, f) ≡ r → ltb 0 (length (option_map_or members r [])) ≡ true → (w : Filled) × In ((o, f), w) (entries m.slots) × (option_map_or members r [] ≡ members w)) [
        | None ↦ λ e h. absurd (false≢true h)
        | Some w ↦ λ e h. (w, get-entry slot_cmp_total slot_cmp-IsAntisymmetric m.slots (o, f) w e, refl)
      ] refl h

  pub at-slot : (test : ℕ → ℕ → List Scalar → Bool) → every_slot m test ≡ true → (o f : ℕ) → is_filled m o f ≡ true → test o f (slot m o f) ≡ true
  at-slot test h o f filled =
      let e = slot-entry o f filled in
      ap (test o f) e.2 ∙ In-all (λ (e : (ℕ × ℕ) × Filled). test e.0.0 e.0.1 (members e.1)) (entries m.slots) ((o, f), e.0) h e.1

  pub entry-kind : (o c : ℕ) → In (o, c) (entries m.kinds) → kind m o ≡ Some c
  entry-kind o c i = entry-get nat_cmp_total nat_cmp-IsAntisymmetric m.kinds o c i

  -- a slot that is written is one of the object's
  pub record IsOfObject (o c : ℕ) (n : NamedSlot) : Type 0 where
    pub feature : ℕ
    pub of_class : In feature (features_of m.metamodel c)
    pub filled : is_filled m o feature ≡ true
    pub is : n ≡ named_slot m o feature

  pub named-origin : (o c : ℕ) (n : NamedSlot) → In n (named_slots m o (features_of m.metamodel c)) → IsOfObject o c n
  named-origin o c n i =
      let found = map-In (named_slot m o) (filter (is_filled m o) (features_of m.metamodel c)) n i in
      let kept = filter-In (is_filled m o) (features_of m.metamodel c) found.0 found.1 in
      record { feature = found.0; of_class = kept.0; filled = kept.1; is = found.2 }

  pub of_object : (o c : ℕ) (n : NamedSlot) → In n (named_slots_of m o c) → IsOfObject o c n
  of_object o c n i = named-origin o c n (by_name-In (named_slots m o (features_of m.metamodel c)) n i)

module _ (m : Contents) (formed : WellFormed m.metamodel) (v : Valid m) (s : AreInRange m) where
  feature-of : (c f : ℕ) → In f (features_of m.metamodel c) → (feature : Feature) × (feature_at m.metamodel f ≡ Some feature)
  feature-of c f i =
      let at = Contains-In (features_of m.metamodel c) f i in
      present m.metamodel.features f (subst (λ g. g < length m.metamodel.features) at.2 (features_in_range m.metamodel c at.0 f at.1))

  of-kind : (f : ℕ) (feature : Feature) (value : Scalar) → feature_at m.metamodel f ≡ Some feature → is_of_feature m f value ≡ true → is_of_kind m feature.kind value ≡ true
  of-kind f feature value is h = sym (ap (λ o. option_map_or (λ (feature : Feature). is_of_kind m feature.kind value) o false) is) ∙ h

  pub slot-written : (o c f : ℕ) → In f (features_of m.metamodel c) → is_filled m o f ≡ true → IsWritten m.metamodel c (named_slot m o f)
  slot-written o c f own filled =
      let feature = feature-of c f own in
      let sayable = at-slot m (λ o f values. list_all is_in_range values) s.scalars o f filled in
      let kinds = at-slot m (λ o f values. list_all (is_of_feature m f) values) v.values_are_of_kinds o f filled in
      record {
        feature = feature.0;
        at = feature.1;
        named = ap (λ o. option_map_or (λ (feature : Feature). feature.name) o []) feature.1;
        own = own;
        single = only_one (length (slot m o f)) (is_many m.metamodel f) filled (at-slot m (λ o f values. leb (length values) (cond (is_many m.metamodel f) 20000 1)) v.slots_have_room o f filled);
        filled = filled;
        sayable = sayable;
        again = λ value i. kind-again m formed feature.0.kind value (of-kind f feature.0 value feature.1 (In-all (is_of_feature m f) (slot m o f) value kinds i)) (In-all is_in_range (slot m o f) value sayable i);
      }

  pub all-written : (o c : ℕ) (n : NamedSlot) → In n (named_slots_of m o c) → IsWritten m.metamodel c n
  all-written o c n i =
      let own = of_object m o c n i in
      subst (IsWritten m.metamodel c) (sym own.is) (slot-written o c own.feature own.of_class own.filled)

  pub class-known : (e : ℕ × ℕ) → In e (entries m.kinds) → e.1 < length m.metamodel.classes
  class-known e i = ltb-true _ _ (In-all (λ (e : ℕ × ℕ). ltb e.1 (length m.metamodel.classes)) (entries m.kinds) e s.classes i)

  module _ (e : ℕ × ℕ) (i : In e (entries m.kinds)) where
    class-present : (class : Class) × (class_at m.metamodel e.1 ≡ Some class)
    class-present = present m.metamodel.classes e.1 (class-known e i)

    named-so : class_name m.metamodel e.1 ≡ class-present.0.name
    named-so = ap (λ o. option_map_or (λ (class : Class). class.name) o []) class-present.1

    pub slots-read : members_of slot_of (slots_data m e.0 e.1) ≡ Ok (map (named_text m.metamodel) (named_slots_of m e.0 e.1))
    slots-read =
        members_of-written slot_of (slot_data m.metamodel) (slot_text m.metamodel) (named_slots m e.0 (features_of m.metamodel e.1))
        (λ n j. let w = all-written e.0 e.1 n j in (name-read m.metamodel formed e.1 (class-known e i) n w, data-read m.metamodel formed e.1 (class-known e i) n w))

    pub name-known : is_name (class_name m.metamodel e.1) ≡ true
    name-known = ap is_name named-so ∙ formed.classes_are_names e.1 class-present.0 class-present.1

    pub object-read : object_of (object_data m e.0) ≡ Ok (object_text m e)
    unfolding object_data
    object-read = ap (λ k. object_of (object_of_class m e.0 k)) (entry-kind m e.0 e.1 i) ∙ object_of-read (class_name m.metamodel e.1) e.0 (slots_data m e.0 e.1) _ name-known (object-small m v e i) slots-read

    pub object-again : part_for m.metamodel (object_text m e) ≡ Ok (object_part m e)
    object-again =
        subst (λ name. part_for m.metamodel (record { id = e.0; class = name; slots = map (named_text m.metamodel) (named_slots_of m e.0 e.1) }) ≡ Ok (object_part m e)) (sym named-so)
        (part-again m.metamodel formed e.1 (class-known e i) (named_slots_of m e.0 e.1) (all-written e.0 e.1) e.0 class-present.0 class-present.1)
