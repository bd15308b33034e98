-- What is written of a valid model is read as this model again.
use Rattle.std.proofs.Common.{◌≡◌, ◌≤◌, ℕ, ◌^◌, Bool, true, false, List, [], ◌∷◌, map, length, Some, None, Ok, Err, refl, sym, ap, ◌∙◌, subst, cond, eqb, ltb, arith}
use Rattle.std.proofs.lemmas.Bool.{and_from, eqb-true, le-leb}
use Rattle.std.proofs.lemmas.Bool.Decides.{nat_tests}
use Rattle.std.proofs.lemmas.Cmp.{nat_cmp_total}
use Rattle.std.proofs.lemmas.List.{length-map}
use Rattle.wb_base.proofs.ListLemmas.{map-map}
use Rattle.std.specs.Bool.{beq}
use Rattle.std.specs.Prelude.{⊤, codes, filter}
use Rattle.std.specs.List.{list_all, flat_map}
use Rattle.std.specs.Option.{option_map_or}
use Rattle.std.specs.Ordering.{nat_cmp}
use Rattle.std.specs.FinMap.{entries, keys, len-entries, from_entries, nat_cmp-IsAntisymmetric}
use Rattle.serde_json.specs.Data.{Data, number, array, object, no_members, member, unsigned}
use Rattle.serde_json.specs.View.{items_of}
use Rattle.wb_json.specs.Place.{at_member}
use Rattle.wb_json.specs.Form.{or_wrong, u32_of, list_of, object_with}
use Rattle.wb_json.specs.Json.{json_of}
use Rattle.wb_json.specs.ToJson.{list_json}
use Rattle.wb_metamodel.specs.Metamodel.{features_of}
use Rattle.wb_metamodel.specs.WellFormed.{WellFormed}
use Rattle.wb_store.specs.declared.scalars.Scalar.{Scalar}
use Rattle.wb_store.specs.declared.parts.Part.{Part}
use Rattle.wb_validity.specs.Broken.{broken}
use Rattle.wb_store.specs.Contents.{Contents, Filled, members, slot_cmp, slot}
use Rattle.wb_store.specs.Parts.{slot_of, record_of, made_of, is_listed, is_listed_slot}
use Rattle.wb_store.specs.Records.{kind_entry, filled, slot_entry, slot_entries}
use Rattle.wb_store.specs.Features.{is_many}
use Rattle.wb_validity.specs.Valid.{Valid, IsValid, is_of_class, has_feature}
use Rattle.wb_store.proofs.Filtered.{In-filter}
use Rattle.wb_store.proofs.Found.{is_itself}
use Rattle.wb_validity.proofs.LinkLemmas.{any_found}
use Rattle.wb_model.proofs.Live.{kind-at, kind-some}
use Rattle.wb_model.proofs.Made.{none_miswritten}
use Rattle.wb_store.proofs.Maps.{slot_cmp_total, slot_cmp-IsAntisymmetric}
use Rattle.wb_store.proofs.Members.{In, In-all, all_In, any_In, In-map, map-In, In-flat_map, flat_map-In, from_entries-same}
use Rattle.wb_store.proofs.Members.In.{here, there}
use Rattle.wb_model_json.specs.declared.model_text.ObjectText.{ObjectText}
use Rattle.wb_model_json.specs.declared.model_text.ModelText.{ModelText}
use Rattle.wb_model_json.specs.declared.refusal.ModelCode.TheVariants.{BadJson, BadShape, TooMany, DuplicateObject, UnknownName}
use Rattle.wb_model_json.specs.ModelFile.{few, repeat_from, id_of, repeated_at, unrepeated, part_for, parts_for, read_text, checked_parts, judged, made, model}
use Rattle.wb_model_json.specs.ModelText.{object_of, model_of}
use Rattle.wb_base.specs.Results.{◌>>=◌}
use Rattle.wb_json.specs.Refusals.{coded}
use Rattle.wb_model_json.specs.Written.{is_filled, named_slot, named_slots, object_data, number_data, model_data}
use Rattle.wb_model_json.proofs.ByName.{In-by_name}
use Rattle.wb_model_json.proofs.Entries.{entry-get, get-entry, from_entries-entries, entries-functional, entries-once}
use Rattle.wb_validity.proofs.Unbroken.{unbroken}
use Rattle.wb_validity.specs.Ranges.{AreInRange}
use Rattle.wb_model_json.proofs.InRange.{next-small, object-small}
use Rattle.wb_model_json.proofs.Unrepeated.{once-none}
use Rattle.wb_model_json.proofs.WrittenForms.{list_of-written, walked-made}
use Rattle.wb_model_json.proofs.WrittenObjects.{named_slots_of, object_text, object_part, slot-entry, named-origin, of_object, slot-written, all-written, class-known, object-read, object-again}
use Rattle.wb_model_json.proofs.WrittenScalars.{map-same}
use Rattle.wb_model_json.proofs.WrittenSlots.{NamedSlot, named_part, same-feature}

-- the form of a model
model_of-read : (next : ℕ) (objects roots : Data) (texts : List ObjectText) (numbers : List ℕ) → ltb next (2 ^ 32) ≡ true → list_of u32_of roots ≡ Ok numbers → list_of object_of objects ≡ Ok texts
    → model_of (object (member (codes "next") (number (unsigned next)) (member (codes "objects") objects (member (codes "roots") roots no_members)))) ≡ Ok (record { next = next; roots = numbers; objects = texts })
unfolding model_of object_with
model_of-read next objects roots texts numbers small roots_read objects_read = rw (small, roots_read, objects_read)

number-read : (n : ℕ) → ltb n (2 ^ 32) ≡ true → u32_of (number_data n) ≡ Ok n
number-read n h = ap (λ b. or_wrong (cond b (Some n) None)) h

some_values : (w : Filled) → ltb 0 (length (members w)) ≡ true
some_values w = grind (arith, nat_tests)

same_flag : (b : Bool) → beq b b ≡ true
same_flag true = refl
same_flag false = refl

only_filled : (k : ℕ × ℕ) (w : Filled) (values : List Scalar) (e : (ℕ × ℕ) × Filled) → values ≡ members w → In e (filled k values) → e ≡ (k, w)
only_filled k w values e is i = first e (subst (λ values. In e (filled k values)) is i)
  where
    first : (e : (ℕ × ℕ) × Filled) → In e ((k, w) ∷ []) → e ≡ (k, w)
    first e here = refl
    first e (there j) = elim j [ ]

-- what a model's text says, and the parts that it names
abbrev pub model_text : Contents → ModelText
model_text m = record { next = m.next; roots = m.roots; objects = map (object_text m) (entries m.kinds) }

abbrev pub model_parts : Contents → List Part
model_parts m = map (object_part m) (entries m.kinds)

module _ (m : Contents) (formed : WellFormed m.metamodel) (v : Valid m) (s : AreInRange m) where
  objects-read : list_of object_of (list_json (object_data m) (keys m.kinds)) ≡ Ok (map (object_text m) (entries m.kinds))
  unfolding list_json
  objects-read =
      ap (λ ds. list_of object_of (array (items_of ds))) (map-map (object_data m) (λ (e : ℕ × ℕ). e.0) (entries m.kinds))
      ∙ list_of-written object_of (λ (e : ℕ × ℕ). object_data m e.0) (object_text m) (entries m.kinds) (λ e i. object-read m formed v s e i)

  pub root-small : (o : ℕ) → In o m.roots → ltb o (2 ^ 32) ≡ true
  root-small o i =
      let c = kind-some m o (v.roots_are_uncontained.live o (any_In (λ root. eqb root o) m.roots o i (is_itself o))) in
      object-small m v (o, c.0) (get-entry nat_cmp_total nat_cmp-IsAntisymmetric m.kinds o c.0 c.1)

  roots-read : list_of u32_of (list_json number_data m.roots) ≡ Ok m.roots
  roots-read = list_of-written u32_of number_data (λ n. n) m.roots (λ n i. number-read n (root-small n i)) ∙ ap Ok (map-same m.roots)

  model-read : model_of (model_data m) ≡ Ok (model_text m)
  unfolding model_data
  model-read = model_of-read m.next _ _ (map (object_text m) (entries m.kinds)) m.roots (next-small m v) roots-read objects-read

  -- ---- the checks

  few-read : few (map (object_text m) (entries m.kinds)) ≡ Ok tt
  few-read =
      let few : length (map (object_text m) (entries m.kinds)) ≤ 20000 = omega (arith, length-map (entries m.kinds) (object_text m), len-entries m.kinds, v.few_objects) in
      ap (λ b. cond b (Ok tt) (Err [])) (le-leb _ _ few)

  unrepeated-read : unrepeated (map (object_text m) (entries m.kinds)) ≡ Ok tt
  unrepeated-read =
      ap repeated_at (ap (repeat_from 0 []) (map-map id_of (object_text m) (entries m.kinds)) ∙ once-none (map (λ (e : ℕ × ℕ). e.0) (entries m.kinds)) (entries-once m.kinds))

  parts-read : parts_for m.metamodel (map (object_text m) (entries m.kinds)) ≡ Ok (model_parts m)
  parts-read = ap (at_member (codes "objects")) (walked-made (part_for m.metamodel) (object_text m) (object_part m) (entries m.kinds) (λ e i. object-again m formed v s e i))

  checked-read : checked_parts m.metamodel (model_text m) ≡ Ok (model_parts m)
  unfolding checked_parts
  checked-read =
      ap (λ r. coded TooMany r >>= (λ (_ : ⊤). coded DuplicateObject (unrepeated (map (object_text m) (entries m.kinds))) >>= (λ (_ : ⊤). coded UnknownName (parts_for m.metamodel (map (object_text m) (entries m.kinds)))))) few-read
      ∙ ap (λ r. coded DuplicateObject r >>= (λ (_ : ⊤). coded UnknownName (parts_for m.metamodel (map (object_text m) (entries m.kinds))))) unrepeated-read
      ∙ ap (coded UnknownName) parts-read

  -- ---- what the parts make

  kinds-made : (es : List (ℕ × ℕ)) → map kind_entry (map record_of (map (object_part m) es)) ≡ es
  kinds-made [] = refl
  kinds-made (e ∷ es) = ap (λ (es : List (ℕ × ℕ)). e ∷ es) (kinds-made es)

  abbrev made_slots : List ((ℕ × ℕ) × Filled)
  made_slots = flat_map slot_entries (map record_of (model_parts m))

  named-apart : (o c : ℕ) → In (o, c) (entries m.kinds) → (x y : NamedSlot) → In x (named_slots m o (features_of m.metamodel c)) → In y (named_slots m o (features_of m.metamodel c)) → x.0 ≡ y.0 → x ≡ y
  named-apart o c entry x y i j same =
      let p = named-origin m o c x i in
      let q = named-origin m o c y j in
      let known = class-known m formed v s (o, c) entry in
      let feature : p.feature ≡ q.feature = same-feature m.metamodel formed c known (named_slot m o p.feature) (named_slot m o q.feature) (slot-written m formed v s o c p.feature p.of_class p.filled) (slot-written m formed v s o c q.feature q.of_class q.filled)
      (sym (ap (λ (n : NamedSlot). n.0) p.is) ∙ same ∙ ap (λ (n : NamedSlot). n.0) q.is) in
      p.is ∙ ap (named_slot m o) feature ∙ sym q.is

  slot-made : (e : (ℕ × ℕ) × Filled) → In e (entries m.slots) → In e made_slots
  slot-made e i =
      let o = e.0.0 in
      let f = e.0.1 in
      let of_class = In-all (λ (e : (ℕ × ℕ) × Filled). is_of_class m e.0.0 e.0.1) (entries m.slots) e v.slots_are_of_classes i in
      let c = kind-at m o (λ c. has_feature m.metamodel c f) of_class in
      let own = any_found (λ feature. eqb feature f) (features_of m.metamodel c.0) c.2 in
      let f_own = subst (λ g. In g (features_of m.metamodel c.0)) (eqb-true _ _ own.2) own.1 in
      let entry = get-entry nat_cmp_total nat_cmp-IsAntisymmetric m.kinds o c.0 c.1 in
      let values : slot m o f ≡ members e.1 = ap (λ r. option_map_or members r []) (entry-get slot_cmp_total slot_cmp-IsAntisymmetric m.slots (o, f) e.1 i) in
      let is_written : is_filled m o f ≡ true = ap (λ (vs : List Scalar). ltb 0 (length vs)) values ∙ some_values e.1 in
      let listed = In-map (named_slot m o) (filter (is_filled m o) (features_of m.metamodel c.0)) f (In-filter (is_filled m o) (features_of m.metamodel c.0) f f_own is_written) in
      let named = In-by_name (named_slots m o (features_of m.metamodel c.0)) (named-apart o c.0 entry) (named_slot m o f) listed in
      let slots = In-map slot_of (map (named_part m.metamodel) (named_slots_of m o c.0)) (named_part m.metamodel (named_slot m o f)) (In-map (named_part m.metamodel) (named_slots_of m o c.0) (named_slot m o f) named) in
      let r = record_of (object_part m (o, c.0)) in
      In-flat_map slot_entries (map record_of (model_parts m)) r e
      (In-map record_of (model_parts m) (object_part m (o, c.0)) (In-map (object_part m) (entries m.kinds) (o, c.0) entry))
      (In-flat_map (slot_entry o) r.slots (slot_of (named_part m.metamodel (named_slot m o f))) e slots (subst (λ values. In e (filled (o, f) values)) (sym values) here))

  slot-kept : (e : (ℕ × ℕ) × Filled) → In e made_slots → In e (entries m.slots)
  slot-kept e i =
      let r = flat_map-In slot_entries (map record_of (model_parts m)) e i in
      let p = map-In record_of (model_parts m) r.0 r.1 in
      let k = map-In (object_part m) (entries m.kinds) p.0 p.1 in
      let same : r.0 ≡ record_of (object_part m k.0) = p.2 ∙ ap record_of k.2 in
      let own = flat_map-In (slot_entry k.0.0) (record_of (object_part m k.0)).slots e (subst (λ r. In e (slot_entries r)) same r.2) in
      let t = map-In slot_of (map (named_part m.metamodel) (named_slots_of m k.0.0 k.0.1)) own.0 own.1 in
      let n = map-In (named_part m.metamodel) (named_slots_of m k.0.0 k.0.1) t.0 t.1 in
      let of = of_object m k.0.0 k.0.1 n.0 n.1 in
      let entry = slot-entry m k.0.0 of.feature of.filled in
      let written : own.0 ≡ slot_of (named_part m.metamodel (named_slot m k.0.0 of.feature)) = t.2 ∙ ap slot_of n.2 ∙ ap (λ n. slot_of (named_part m.metamodel n)) of.is in
      subst (λ e. In e (entries m.slots)) (sym (only_filled (k.0.0, of.feature) entry.0 (slot m k.0.0 of.feature) e entry.2 (subst (λ s. In e (slot_entry k.0.0 s)) written own.2))) entry.1

  kinds-same : from_entries {R = nat_cmp} (map kind_entry (map record_of (model_parts m))) ≡ m.kinds
  kinds-same = ap from_entries (kinds-made (entries m.kinds)) ∙ from_entries-entries nat_cmp_total nat_cmp-IsAntisymmetric m.kinds

  slots-same : from_entries {R = slot_cmp} made_slots ≡ m.slots
  slots-same =
      sym (from_entries-same slot_cmp_total slot_cmp-IsAntisymmetric (entries m.slots) made_slots (entries-functional slot_cmp_total slot_cmp-IsAntisymmetric m.slots) slot-made slot-kept)
      ∙ from_entries-entries slot_cmp_total slot_cmp-IsAntisymmetric m.slots

  made-same : made_of m.metamodel m.next (model_parts m) m.roots ≡ m
  made-same = λ i. record { metamodel = m.metamodel; next = m.next; kinds = kinds-same i; slots = slots-same i; roots = m.roots }

  parts-listed : list_all (is_listed m.metamodel) (model_parts m) ≡ true
  parts-listed = all_In (is_listed m.metamodel) (model_parts m) (λ p i.
      let k = map-In (object_part m) (entries m.kinds) p i in
      subst (λ p. is_listed m.metamodel p ≡ true) (sym k.2)
      (all_In (is_listed_slot m.metamodel) (map (named_part m.metamodel) (named_slots_of m k.0.0 k.0.1)) (λ t j.
      let n = map-In (named_part m.metamodel) (named_slots_of m k.0.0 k.0.1) t j in
      subst (λ t. is_listed_slot m.metamodel t ≡ true) (sym n.2) (and_from _ _ (same_flag (is_many m.metamodel n.0.1.0)) (all-written m formed v s k.0.0 k.0.1 n.0 n.1).filled))))

  made-read : IsValid m → made m.metamodel (model_text m) (model_parts m) ≡ Ok m
  unfolding made
  made-read valid =
      (λ i. judged (model_text m) (made-same i) (broken (made-same i) (none_miswritten m.metamodel (model_parts m) parts-listed i)))
      ∙ ap (judged (model_text m) m) (unbroken m valid)

  -- a text that spells the value of a model is this model's
  pub read-again : IsValid m → (bytes : List ℕ) → json_of bytes ≡ Some (model_data m) → model m.metamodel bytes ≡ Ok m
  unfolding model read_text
  read-again valid bytes spelled =
      let text : read_text bytes ≡ Ok (model_text m) = ap (λ o. coded BadJson (or_wrong o) >>= (λ d. coded BadShape (model_of d))) spelled ∙ ap (coded BadShape) model-read in
      ap (λ r. r >>= (λ (text : ModelText). checked_parts m.metamodel text >>= made m.metamodel text)) text
      ∙ ap (λ r. r >>= made m.metamodel (model_text m)) checked-read
      ∙ made-read valid
