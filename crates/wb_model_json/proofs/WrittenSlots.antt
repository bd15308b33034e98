-- What is written of the slots of an object is read as these slots again.
use Rattle.std.proofs.Common.{◌≡◌, ◌<◌, ℕ, true, false, List, [], ◌∷◌, map, length, Some, Ok, Err, refl, sym, ap, ◌∙◌, subst, cond, eqb}
use Rattle.std.proofs.lemmas.Bool.{and_from, not_from_false, false_from_ne_true, eqb-true, false≢true}
use Rattle.std.proofs.lemmas.Cmp.{nat_list_cmp_total, tied_itself}
use Rattle.std.proofs.lemmas.Option.{same_Some}
use Rattle.std.specs.Prelude.{codes, nat_lt}
use Rattle.std.specs.List.{list_all, find}
use Rattle.wb_metamodel.specs.Checks.{is_name_of}
use Rattle.std.specs.Option.{option_or}
use Rattle.std.specs.Ordering.{is_lt}
use Rattle.wb_json.specs.Place.{at_member}
use Rattle.wb_json.specs.Form.{or_wrong, is_name}
use Rattle.wb_json.proofs.Ascending.{IsBelow}
use Rattle.wb_metamodel.specs.Metamodel.{Metamodel, class_at, feature_at, feature_named, features_of, numbers}
use Rattle.wb_metamodel.specs.WellFormed.{WellFormed}
use Rattle.wb_ecore.specs.declared.classes.Class.{Class}
use Rattle.wb_ecore.specs.declared.features.Feature.{Feature}
use Rattle.wb_store.specs.declared.scalars.Scalar.{Scalar}
use Rattle.wb_store.specs.declared.parts.SlotPart.{SlotPart}
use Rattle.wb_store.specs.Features.{is_many}
use Rattle.wb_store.specs.Places.{once}
use Rattle.wb_validity.proofs.LinkLemmas.{any_found}
use Rattle.wb_store.proofs.Members.{In, Contains-In, map-In}
use Rattle.wb_store.proofs.Members.In.{here, there}
use Rattle.wb_model_json.specs.declared.model_text.SlotText.{SlotText}
use Rattle.wb_model_json.specs.declared.model_text.ObjectText.{ObjectText}
use Rattle.wb_model_json.specs.ModelFile.{values_for, slot_with, slot_named, slot_for, slots_for, part_with, part_for}
use Rattle.wb_model_json.specs.ModelText.{slot_of}
use Rattle.wb_base.specs.Results.{◌>>=◌}
use Rattle.wb_validity.specs.Ranges.{is_in_range}
use Rattle.wb_model_json.specs.Written.{slot_data}
use Rattle.wb_model_json.proofs.ByName.{Ascend, IsBelowEach}
use Rattle.wb_model_json.proofs.WrittenForms.{in_turn-made}
use Rattle.wb_model_json.proofs.WrittenScalars.{slot_text, slot-read, IsSingle, IsAgain, values-again}

abbrev pub NamedSlot : Type 0
NamedSlot = List ℕ × (ℕ × List Scalar)

-- a slot of an object of a class, by the name of its feature, as it is written
pub record IsWritten (mm : Metamodel) (class : ℕ) (n : NamedSlot) : Type 0 where
  pub feature : Feature
  pub at : feature_at mm n.1.0 ≡ Some feature
  pub named : n.0 ≡ feature.name
  pub own : In n.1.0 (features_of mm class)
  pub single : IsSingle mm n.1
  pub filled : nat_lt 0 (length n.1.1) ≡ true
  pub sayable : list_all is_in_range n.1.1 ≡ true
  pub again : (v : Scalar) → In v n.1.1 → IsAgain mm feature.kind v

abbrev pub slot_part : Metamodel → ℕ × List Scalar → SlotPart
slot_part mm s = record { feature = s.0; listed = is_many mm s.0; values = s.1 }

abbrev pub named_part : Metamodel → NamedSlot → SlotPart
named_part mm n = slot_part mm n.1

abbrev pub named_text : Metamodel → NamedSlot → List ℕ × SlotText
named_text mm n = (n.0, slot_text mm n.1)

below_another : (k l : List ℕ) → IsBelow k l → k ≡ l → ⊥
below_another k l under same = false≢true (sym (ap is_lt (tied_itself nat_list_cmp_total k)) ∙ ap is_lt (subst (λ n. IsBelow k n) (sym same) under))

below_In : (k : List ℕ) (ns : List NamedSlot) (n : NamedSlot) → IsBelowEach k ns → In n ns → IsBelow k n.0
below_In k [] n h i = elim i [ ]
below_In k (z ∷ ns) n h here = h.0
below_In k (m ∷ ns) n h (there i) = below_In k ns n h.1 i

module _ (mm : Metamodel) (formed : WellFormed mm) (c : ℕ) (known : c < length mm.classes) where
  pub name-read : (n : NamedSlot) → IsWritten mm c n → is_name n.0 ≡ true
  name-read n w = ap is_name w.named ∙ formed.features_are_names n.1.0 w.feature w.at

  pub data-read : (n : NamedSlot) → IsWritten mm c n → slot_of (slot_data mm n.1) ≡ Ok (slot_text mm n.1)
  data-read n w = slot-read mm n.1 w.single w.sayable

  pub found : (n : NamedSlot) → IsWritten mm c n → feature_named mm c n.0 ≡ Some n.1.0
  found n w = ap (feature_named mm c) w.named ∙ formed.features_named c n.1.0 w.feature known (Contains-In (features_of mm c) n.1.0 w.own) w.at

  with_values : (n : NamedSlot) → IsWritten mm c n → slot_with mm (slot_text mm n.1) n.1.0 ≡ Ok (slot_part mm n.1)
  unfolding slot_with
  with_values n w =
      ap (λ o. or_wrong o >>= (λ (feature : Feature). values_for mm feature.kind (slot_text mm n.1) >>= (λ (values : List Scalar). Ok (record { feature = n.1.0; listed = is_many mm n.1.0; values = values })))) w.at
      ∙ ap (λ r. r >>= (λ (values : List Scalar). Ok (record { feature = n.1.0; listed = is_many mm n.1.0; values = values }))) (values-again mm w.feature.kind n.1 w.again)

  pub slot-again : (n : NamedSlot) → IsWritten mm c n → slot_for mm c (named_text mm n) ≡ Ok (named_part mm n)
  unfolding slot_named
  slot-again n w =
      ap (at_member n.0)
      (ap (λ o. or_wrong (option_or o (find (is_name_of mm n.0) (numbers (length mm.features)))) >>= slot_with mm (slot_text mm n.1)) (found n w) ∙ with_values n w)

  -- ---- all of them

  pub same-feature : (n m : NamedSlot) → IsWritten mm c n → IsWritten mm c m → n.0 ≡ m.0 → n.1.0 ≡ m.1.0
  same-feature n m w v same = same_Some n.1.0 m.1.0 (sym (found n w) ∙ ap (feature_named mm c) same ∙ found m v)

  module _ (ns : List NamedSlot) (all : (n : NamedSlot) → In n ns → IsWritten mm c n) where
    pub slots-again : slots_for mm c (map (named_text mm) ns) ≡ Ok (map (named_part mm) ns)
    slots-again = ap (at_member (codes "slots")) (in_turn-made (slot_for mm c) (named_text mm) (named_part mm) ns (λ n i. slot-again n (all n i)))

    pub part-again : (o : ℕ) (class : Class) → class_at mm c ≡ Some class
        → part_for mm (record { id = o; class = class.name; slots = map (named_text mm) ns }) ≡ Ok (record { id = o; class = c; slots = map (named_part mm) ns })
    unfolding part_for
    part-again o class is =
        let text : ObjectText = record { id = o; class = class.name; slots = map (named_text mm) ns } in
        ap (λ o. at_member (codes "class") (or_wrong o) >>= (λ (class : ℕ). slots_for mm class text.slots >>= part_with text class)) (formed.classes_named c class is)
        ∙ ap (λ r. r >>= part_with text c) slots-again
