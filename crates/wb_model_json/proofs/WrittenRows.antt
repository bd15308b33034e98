-- What is written of an object of a valid model is the text of its row.
use Rattle.std.proofs.Common.{◌≡◌, ℕ, true, List, [], ◌∷◌, map, length, Some, refl, sym, ap, ◌∙◌, subst, eqb}
use Rattle.std.proofs.lemmas.Bool.{and_from}
use Rattle.std.proofs.lemmas.Cmp.{nat_cmp_total}
use Rattle.std.proofs.lemmas.Option.{same_Some}
use Rattle.std.proofs.lemmas.Str.{is_utf8-from_IsUtf8}
use Rattle.std.specs.Prelude.{codes}
use Rattle.std.specs.List.{list_all, AllByRecursion}
use Rattle.std.specs.Option.{option_map_or}
use Rattle.std.specs.Ordering.{nat_cmp, is_lt}
use Rattle.std.specs.Cmp.Lexicographic.{slice_cmp}
use Rattle.std.specs.FinMap.{entries, nat_cmp-IsAntisymmetric}
use Rattle.serde_json.specs.Data.{string, object, no_members, member}
use Rattle.serde_json.specs.Written.{compact_text}
use Rattle.wb_base.specs.Results.{◌>>=◌}
use Rattle.wb_json.specs.ToJson.{members_json}
use Rattle.wb_metamodel.specs.Metamodel.{Metamodel, features_of}
use Rattle.wb_metamodel.specs.WellFormed.{WellFormed}
use Rattle.wb_ecore.specs.declared.features.Feature.{Feature}
use Rattle.wb_ecore.specs.declared.features.Kind.{Kind}
use Rattle.wb_store.specs.declared.scalars.Scalar.{Scalar}
use Rattle.wb_store.specs.Contents.{Contents, kind}
use Rattle.wb_store.specs.Features.{is_many}
use Rattle.wb_validity.specs.Valid.{Valid}
use Rattle.wb_store.proofs.Found.{is_itself}
use Rattle.wb_store.proofs.Members.{In, In-all, any_In}
use Rattle.wb_store.proofs.Members.In.{here, there}
use Rattle.wb_model_json.specs.ModelFile.{value_for}
use Rattle.wb_model_json.specs.Rows.{slot_name, row_slot, data_of_row, text_of_row, names_ascend, IsSaid, IsRowSlot, IsRow, IsTextOf, slot_row, row_of}
use Rattle.wb_validity.specs.Ranges.{is_in_range}
use Rattle.wb_model_json.specs.Written.{class_name, named_slots, slot_data, row_of_class, row_data, row_text}
use Rattle.wb_model_json.proofs.ByName.{Ascend, IsBelowEach, by_name-ascend, by_name-ascending, put_all-by_name, json_members}
use Rattle.wb_model_json.proofs.Entries.{get-entry}
use Rattle.wb_model_json.proofs.RowsAgain.{count_of}
use Rattle.wb_validity.specs.Ranges.{AreInRange}
use Rattle.wb_model_json.proofs.SayableModels.{name-utf8, slots-texts}
use Rattle.wb_model_json.proofs.WrittenObjects.{named_slots_of, all-written, class-known, name-known}
use Rattle.wb_model_json.proofs.WrittenScalars.{scalar-read, IsAgain}
use Rattle.wb_model_json.proofs.WrittenSlots.{NamedSlot, IsWritten}
use Rattle.wb_model_json.proofs.WrittenTexts.{HasTexts, IsUtf8-compact_text}
use Rattle.json.proofs.Printed.Utf8.{IsUtf8-are_ascii}

all-said : (mm : Metamodel) (k : Kind) (values : List Scalar) → ((v : Scalar) → In v values → IsAgain mm k v) → list_all is_in_range values ≡ true → AllByRecursion (IsSaid mm k) values
all-said mm k values h s = each values (λ v i. ap (λ r. r >>= value_for mm k) (scalar-read mm v (In-all is_in_range values v s i)) ∙ h v i)
  where
    each : (values : List Scalar) → ((v : Scalar) → In v values → IsSaid mm k v) → AllByRecursion (IsSaid mm k) values
    each [] h = tt
    each (v ∷ values) h = (h v here, each values (λ w i. h w (there i)))

module _ (mm : Metamodel) (c : ℕ) where
  slot-named : (n : NamedSlot) → IsWritten mm c n → slot_name mm (slot_row n) ≡ n.0
  slot-named n w = ap (λ o. option_map_or (λ (feature : Feature). feature.name) o []) w.at ∙ sym w.named

  row-slot : (n : NamedSlot) → IsWritten mm c n → IsRowSlot mm c (slot_row n)
  row-slot n w = record {
    of_class = any_In (λ feature. eqb feature n.1.0) (features_of mm c) n.1.0 w.own (is_itself n.1.0);
    count = count_of (length n.1.1) (is_many mm n.1.0) w.filled w.single;
    in_range = w.sayable;
    said = λ feature is. subst (λ (feature : Feature). AllByRecursion (IsSaid mm feature.kind) n.1.1) (same_Some w.feature feature (sym w.at ∙ is)) (all-said mm w.feature.kind n.1.1 w.again w.sayable);
  }

  row-slots : (ns : List NamedSlot) → ((n : NamedSlot) → In n ns → IsWritten mm c n) → AllByRecursion (IsRowSlot mm c) (map slot_row ns)
  row-slots [] h = tt
  row-slots (n ∷ ns) h = (row-slot n (h n here), row-slots ns (λ m i. h m (there i)))

  slots-same : (ns : List NamedSlot) → ((n : NamedSlot) → In n ns → IsWritten mm c n) → map (row_slot mm) (map slot_row ns) ≡ ns
  slots-same [] h = refl
  slots-same (n ∷ ns) h = λ i. (slot-named n (h n here) i, n.1) ∷ slots-same ns (λ m j. h m (there j)) i

  names-below : (k : List ℕ) (ns : List NamedSlot) → ((n : NamedSlot) → In n ns → IsWritten mm c n) → IsBelowEach k ns → list_all (λ other. is_lt (slice_cmp nat_cmp k other)) (map (slot_name mm) (map slot_row ns)) ≡ true
  names-below k [] h b = refl
  names-below k (n ∷ ns) h b = and_from _ _ (ap (λ l. is_lt (slice_cmp nat_cmp k l)) (slot-named n (h n here)) ∙ ap is_lt b.0) (names-below k ns (λ m i. h m (there i)) b.1)

  names-rise : (ns : List NamedSlot) → ((n : NamedSlot) → In n ns → IsWritten mm c n) → Ascend ns → names_ascend (map (slot_name mm) (map slot_row ns)) ≡ true
  names-rise [] h a = refl
  names-rise (n ∷ ns) h a =
      and_from _ _ (subst (λ k. list_all (λ other. is_lt (slice_cmp nat_cmp k other)) (map (slot_name mm) (map slot_row ns)) ≡ true) (sym (slot-named n (h n here))) (names-below n.0 ns (λ m i. h m (there i)) a.0))
      (names-rise ns (λ m i. h m (there i)) a.1)

module _ (m : Contents) (formed : WellFormed m.metamodel) (v : Valid m) (s : AreInRange m) (o c : ℕ) (live : kind m o ≡ Some c) where
  entry : In (o, c) (entries m.kinds)
  entry = get-entry nat_cmp_total nat_cmp-IsAntisymmetric m.kinds o c live

  abbrev ns : List NamedSlot
  ns = named_slots_of m o c

  is-row : IsRow m.metamodel (row_of m o c)
  is-row = record {
    class_known = class-known m formed v s (o, c) entry;
    ascending = names-rise m.metamodel c ns (all-written m formed v s o c) (by_name-ascend (named_slots m o (features_of m.metamodel c)));
    slots = row-slots m.metamodel c ns (all-written m formed v s o c);
  }

  members-same : members_json (slot_data m.metamodel) (named_slots m o (features_of m.metamodel c)) ≡ members_json (slot_data m.metamodel) (map (row_slot m.metamodel) (map slot_row ns))
  unfolding members_json
  members-same =
      ap object (put_all-by_name (slot_data m.metamodel) (named_slots m o (features_of m.metamodel c))
      ∙ ap (json_members (slot_data m.metamodel)) (sym (by_name-ascending ns (by_name-ascend (named_slots m o (features_of m.metamodel c)))))
      ∙ sym (put_all-by_name (slot_data m.metamodel) ns))
      ∙ ap (members_json (slot_data m.metamodel)) (sym (slots-same m.metamodel c ns (all-written m formed v s o c)))

  data-same : row_data m o ≡ data_of_row m.metamodel (row_of m o c)
  unfolding row_data data_of_row
  data-same = ap (row_of_class m o) live ∙ ap (λ slots. object (member (codes "class") (string (class_name m.metamodel c)) (member (codes "slots") slots no_members))) members-same

  row-texts : HasTexts (row_data m o)
  unfolding row_data
  row-texts = subst (λ k. HasTexts (row_of_class m o k)) (sym live) (
    IsUtf8-are_ascii (codes "class") refl,
    name-utf8 (class_name m.metamodel c) (name-known m formed v s (o, c) entry),
    (IsUtf8-are_ascii (codes "slots") refl, slots-texts m formed v s (o, c) entry, tt),
  )

  pub text-of-row : IsTextOf m.metamodel (row_text m o) (row_of m o c)
  unfolding row_text text_of_row
  text-of-row = record {
    row = is-row;
    text = ap compact_text data-same;
    utf8 = is_utf8-from_IsUtf8 (compact_text (row_data m o)) (IsUtf8-compact_text (row_data m o) row-texts);
  }
