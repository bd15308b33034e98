-- One more object at the end of the list in which objects are kept.
use Rattle.std.proofs.Common.{◌≡◌, ℕ, ◌<◌, Bool, true, false, List, [], ◌∷◌, ◌++◌, length, map, Option, Some, None, refl, sym, ap, subst, ◌∙◌, cond, ltb, eqb, arith, suc}
use Rattle.std.proofs.lemmas.Bool.{and_parts, and_from, eqb-true, lt-ltb}
use Rattle.std.proofs.lemmas.Bool.Decides.{nat_tests}
use Rattle.std.proofs.lemmas.Cmp.{nat_cmp_total}
use Rattle.std.proofs.lemmas.List.{map-append}
use Rattle.std.specs.Prelude.{IsSome}
use Rattle.std.specs.Ordering.{nat_cmp}
use Rattle.std.specs.Option.{option_map, option_map_or}
use Rattle.std.specs.List.{list_all}
use Rattle.std.specs.FinMap.{find, from_entries, from_entries_push, nat_cmp-IsAntisymmetric}
use Rattle.wb_metamodel.specs.Metamodel.{Metamodel}
use Rattle.wb_store.specs.declared.records.Record.{Record}
use Rattle.wb_store.specs.declared.records.Slot.{Slot}
use Rattle.wb_store.specs.Contents.{Contents, kind}
use Rattle.wb_store.specs.Places.{rises, numbered}
use Rattle.wb_store.specs.Records.{id_of, feature_of, values_in, is_known, is_known_slot, kind_entry, contents_of}
use Rattle.wb_store.specs.invariants.Plain.{IsPlain}
use Rattle.wb_store.specs.LinkSteps.{Grows}
use Rattle.wb_store.proofs.Found.{is_itself}
use Rattle.wb_store.proofs.Maps.{find-kinds, kind-numbered, slot-numbered}

not_same : (a b : ℕ) → ltb b a ≡ true → eqb a b ≡ false
not_same a b h = grind (arith, nat_tests)

pub all_push : {A : Type 0} (p : A → Bool) (xs : List A) (x : A) → list_all p xs ≡ true → p x ≡ true → list_all p (xs ++ x ∷ []) ≡ true
all_push p [] x h e = and_from _ _ e refl
all_push p (y ∷ ys) x h e = let both = and_parts (p y) (list_all p ys) h in and_from _ _ both.0 (all_push p ys x both.1 e)

module _ {A : Type 0} (number : A → ℕ) where
  rises_push : (xs : List A) (x : A) → rises number xs ≡ true → list_all (λ y. ltb (number y) (number x)) xs ≡ true → rises number (xs ++ x ∷ []) ≡ true
  rises_push [] x h e = refl
  rises_push (y ∷ ys) x h e =
      let r = and_parts (list_all (λ z. ltb (number y) (number z)) ys) (rises number ys) h in
      let b = and_parts (ltb (number y) (number x)) (list_all (λ y. ltb (number y) (number x)) ys) e in
      and_from _ _ (all_push (λ z. ltb (number y) (number z)) ys x r.0 b.0) (rises_push ys x r.1 b.1)

  numbered_push : (xs : List A) (x : A) (m : ℕ) → list_all (λ y. ltb (number y) (number x)) xs ≡ true → numbered number m (xs ++ x ∷ []) ≡ cond (eqb m (number x)) (Some x) (numbered number m xs)
  numbered_push [] x m e = refl
  numbered_push (y ∷ ys) x m e =
      let b = and_parts (ltb (number y) (number x)) (list_all (λ y. ltb (number y) (number x)) ys) e in
      ap (cond (eqb m (number y)) (Some y)) (numbered_push ys x m b.1)
      ∙ elim (eqb m (number y)) as (λ t. eqb m (number y) ≡ t → cond t (Some y) (cond (eqb m (number x)) (Some x) (numbered number m ys)) ≡ cond (eqb m (number x)) (Some x) (cond t (Some y) (numbered number m ys))) [
        | true ↦ λ t. ap (λ b. cond b (Some x) (Some y)) (sym (ap (λ m. eqb m (number x)) (eqb-true m (number y) t) ∙ other (number x) (number y) b.0))
        | false ↦ λ t. refl
      ] refl
    where
      other : (a b : ℕ) → ltb b a ≡ true → eqb b a ≡ false
      other a b h = grind (arith, nat_tests)

  -- what stands in the list has its number found
  has_number : (xs : List A) (p : ℕ → Bool) → ((n : ℕ) → IsSome (numbered number n xs) → p n ≡ true) → list_all (λ y. p (number y)) xs ≡ true
  has_number [] p h = refl
  has_number (y ∷ ys) p h =
      and_from _ _
      (h (number y) (subst (λ b. IsSome (cond b (Some y) (numbered number (number y) ys))) (sym (is_itself (number y))) refl))
      (has_number ys p (λ n s. h n (later (eqb n (number y)) y (numbered number n ys) s)))
    where
      later : (b : Bool) (y : A) (r : Option A) → IsSome r → IsSome (cond b (Some y) r)
      later true y r s = refl
      later false y r s = s

some_class : (r : Option Record) → IsSome r → IsSome (option_map (λ (r : Record). r.class) r)
some_class None h = h
some_class (Some r) h = refl

module _ (metamodel : Metamodel) (next : ℕ) (records : List Record) (roots : List ℕ) (class : ℕ) (slots : List Slot) (plain : IsPlain metamodel records)
    (fresh : (o : ℕ) → IsSome (kind (contents_of metamodel next records roots) o) → o < next) where
  abbrev newest : Record
  newest = record { id = next; class = class; slots = slots }

  all_below : list_all (λ (r : Record). ltb r.id next) records ≡ true
  all_below = has_number id_of records (λ n. ltb n next) (λ n s. lt-ltb n next (fresh n (subst IsSome (sym (kind-numbered metamodel next records roots n)) (some_class (numbered id_of n records) s))))

  pub grown_plain : class < length metamodel.classes → list_all (is_known_slot metamodel) slots ≡ true → rises feature_of slots ≡ true → IsPlain metamodel (records ++ newest ∷ [])
  grown_plain c k r = record {
    objects_rise = rises_push id_of records newest plain.objects_rise all_below;
    slots_rise = all_push (λ (r : Record). rises feature_of r.slots) records newest plain.slots_rise r;
    known = all_push (is_known metamodel) records newest plain.known (and_from _ _ (lt-ltb _ _ c) k);
  }

  none_yet : kind (contents_of metamodel next records roots) next ≡ None
  none_yet = elim (kind (contents_of metamodel next records roots) next) as (λ r. kind (contents_of metamodel next records roots) next ≡ r → r ≡ None) [
    | None ↦ λ e. refl
    | Some c ↦ λ e. absurd (let l = fresh next (subst IsSome (sym e) refl) in omega (arith, l))
  ] refl

  no_entry : find nat_cmp next (map kind_entry records) ≡ None
  no_entry = find-kinds next records ∙ sym (kind-numbered metamodel next records roots next) ∙ none_yet

  pick : (b : Bool) (f : ℕ) (r : Option Record) → option_map_or (λ (r : Record). values_in f r.slots) (cond b (Some newest) r) [] ≡ cond b (values_in f slots) (option_map_or (λ (r : Record). values_in f r.slots) r [])
  pick true f r = refl
  pick false f r = refl

  pub grown : IsPlain metamodel (records ++ newest ∷ []) → Grows class slots (contents_of metamodel next records roots) (contents_of metamodel (suc next) (records ++ newest ∷ []) roots)
  grown after = record {
    metamodel = refl;
    next = refl;
    roots = refl;
    kinds = ap (λ es. from_entries {R = nat_cmp} es) (map-append kind_entry records (newest ∷ [])) ∙ from_entries_push nat_cmp_total nat_cmp-IsAntisymmetric (map kind_entry records) next class no_entry;
    at = λ o f.
        slot-numbered metamodel (suc next) (records ++ newest ∷ []) roots o f after.objects_rise after.slots_rise
        ∙ ap (λ r. option_map_or (λ (r : Record). values_in f r.slots) r []) (numbered_push id_of records newest o all_below)
        ∙ pick (eqb o next) f (numbered id_of o records)
        ∙ ap (cond (eqb o next) (values_in f slots)) (sym (slot-numbered metamodel next records roots o f plain.objects_rise plain.slots_rise));
  }

pub grows_is : {class : ℕ} {slots : List Slot} {a b m n : Contents} → a ≡ m → b ≡ n → Grows class slots a b → Grows class slots m n
grows_is {class} {slots} {a} {b} {m} {n} e h g = subst (λ m. Grows class slots m n) e (subst (λ n. Grows class slots a n) h g)

pub fresh_inside : (m n : Contents) → m ≡ n → ((o : ℕ) → IsSome (kind n o) → o < n.next) → (o : ℕ) → IsSome (kind m o) → o < m.next
fresh_inside m n e h o live = subst (λ (m : Contents). o < m.next) (sym e) (h o (subst (λ (m : Contents). IsSome (kind m o)) e live))
