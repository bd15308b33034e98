-- What is left where some objects are deleted from the list in which objects are kept.
use Rattle.std.proofs.Common.{◌≡◌, ℕ, Bool, true, false, not, ◌&&◌, List, [], ◌∷◌, map, length, Option, Some, None, refl, sym, ap, ◌∙◌, cond, ltb, eqb}
use Rattle.std.proofs.lemmas.Bool.{and_parts, and_from, eqb-true}
use Rattle.std.specs.Prelude.{filter}
use Rattle.std.specs.Option.{option_map, option_map_or}
use Rattle.std.specs.List.{list_all}
use Rattle.wb_metamodel.specs.Metamodel.{Metamodel}
use Rattle.wb_store.specs.declared.records.Record.{Record}
use Rattle.wb_store.specs.declared.records.Slot.{Slot}
use Rattle.wb_store.specs.Contents.{Contents}
use Rattle.wb_store.specs.Places.{rises, numbered}
use Rattle.wb_store.specs.Records.{id_of, feature_of, values_in, is_known, is_known_slot, contents_of}
use Rattle.wb_store.specs.invariants.Plain.{IsPlain}
use Rattle.wb_store.specs.invariants.Removals.{values_left, slot_left, record_left, stays}
use Rattle.wb_store.specs.Relinking.{is_among, touches, without}
use Rattle.wb_store.proofs.Without.{kind-without, slot-without}
use Rattle.wb_store.proofs.Maps.{kind-numbered, slot-numbered}
use Rattle.wb_store.proofs.Relinked.{same_contents, metamodel-relink, next-relink}

-- ---- filters and maps of lists that rise

filter_pass : {A : Type 0} (p q : A → Bool) (xs : List A) → list_all p xs ≡ true → list_all p (filter q xs) ≡ true
filter_pass p q [] h = refl
filter_pass p q (x ∷ xs) h =
    let both = and_parts (p x) (list_all p xs) h in
    elim (q x) as (λ b. list_all p (cond b (x ∷ filter q xs) (filter q xs)) ≡ true) [
      | true ↦ and_from _ _ both.0 (filter_pass p q xs both.1)
      | false ↦ filter_pass p q xs both.1
    ]

map_pass : {A : Type 0} (p : A → Bool) (w : A → A) → ((x : A) → p x ≡ true → p (w x) ≡ true) → (xs : List A) → list_all p xs ≡ true → list_all p (map w xs) ≡ true
map_pass p w f [] h = refl
map_pass p w f (x ∷ xs) h = let both = and_parts (p x) (list_all p xs) h in and_from _ _ (f x both.0) (map_pass p w f xs both.1)

module _ {A : Type 0} (number : A → ℕ) where
  filter_rises : (q : A → Bool) (xs : List A) → rises number xs ≡ true → rises number (filter q xs) ≡ true
  filter_rises q [] h = refl
  filter_rises q (x ∷ xs) h =
      let both = and_parts (list_all (λ y. ltb (number x) (number y)) xs) (rises number xs) h in
      elim (q x) as (λ b. rises number (cond b (x ∷ filter q xs) (filter q xs)) ≡ true) [
        | true ↦ and_from _ _ (filter_pass (λ y. ltb (number x) (number y)) q xs both.0) (filter_rises q xs both.1)
        | false ↦ filter_rises q xs both.1
      ]

  module _ (w : A → A) (same : (x : A) → number (w x) ≡ number x) where
    map_below : (n : ℕ) (xs : List A) → list_all (λ y. ltb n (number y)) (map w xs) ≡ list_all (λ y. ltb n (number y)) xs
    map_below n [] = refl
    map_below n (x ∷ xs) = λ i. ltb n (same x i) && map_below n xs i

    map_rises : (xs : List A) → rises number (map w xs) ≡ rises number xs
    map_rises [] = refl
    map_rises (x ∷ xs) = λ i. (ap (λ n. list_all (λ y. ltb n (number y)) (map w xs)) (same x) ∙ map_below (number x) xs) i && map_rises xs i

    map_numbered : (n : ℕ) (xs : List A) → numbered number n (map w xs) ≡ option_map w (numbered number n xs)
    map_numbered n [] = refl
    map_numbered n (x ∷ xs) =
        ap (λ k. cond (eqb n k) (Some (w x)) (numbered number n (map w xs))) (same x)
        ∙ ap (cond (eqb n (number x)) (Some (w x))) (map_numbered n xs)
        ∙ elim (eqb n (number x)) as (λ b. cond b (Some (w x)) (option_map w (numbered number n xs)) ≡ option_map w (cond b (Some x) (numbered number n xs))) [ true ↦ refl | false ↦ refl ]

  filter_numbered : (q : ℕ → Bool) (n : ℕ) (xs : List A) → numbered number n (filter (λ x. q (number x)) xs) ≡ cond (q n) (numbered number n xs) None
  filter_numbered q n [] = elim (q n) as (λ b. ◌≡◌ {A = Option A} None (cond b None None)) [ true ↦ refl | false ↦ refl ]
  filter_numbered q n (x ∷ xs) =
      let later = filter_numbered q n xs in
      elim (eqb n (number x)) as (λ t. eqb n (number x) ≡ t → numbered number n (cond (q (number x)) (x ∷ filter (λ x. q (number x)) xs) (filter (λ x. q (number x)) xs)) ≡ cond (q n) (cond t (Some x) (numbered number n xs)) None) [
        | true ↦ λ t.
            let e : n ≡ number x = eqb-true n (number x) t in
            ap (λ b. numbered number n (cond b (x ∷ filter (λ x. q (number x)) xs) (filter (λ x. q (number x)) xs))) (ap q (sym e))
            ∙ elim (q n) as (λ b. numbered number n (filter (λ x. q (number x)) xs) ≡ cond b (numbered number n xs) None → numbered number n (cond b (x ∷ filter (λ x. q (number x)) xs) (filter (λ x. q (number x)) xs)) ≡ cond b (Some x) None) [
              | true ↦ λ h. ap (λ t. cond t (Some x) (numbered number n (filter (λ x. q (number x)) xs))) t
              | false ↦ λ h. h
            ] later
        | false ↦ λ t.
            elim (q (number x)) as (λ b. numbered number n (cond b (x ∷ filter (λ x. q (number x)) xs) (filter (λ x. q (number x)) xs)) ≡ cond (q n) (numbered number n xs) None) [
              | true ↦ ap (λ t. cond t (Some x) (numbered number n (filter (λ x. q (number x)) xs))) t ∙ later
              | false ↦ later
            ]
      ] refl

-- ---- objects that are deleted

module _ (metamodel : Metamodel) (next : ℕ) (records : List Record) (roots : List ℕ) (dead : List ℕ) (plain : IsPlain metamodel records) where
  abbrev now : List Record
  now = map (record_left dead) (filter (stays dead) records)

  abbrev was : Contents
  was = contents_of metamodel next records roots

  slots_known : (ss : List Slot) → list_all (is_known_slot metamodel) ss ≡ true → list_all (is_known_slot metamodel) (map (slot_left dead) ss) ≡ true
  slots_known ss h = map_pass (is_known_slot metamodel) (slot_left dead) (λ s e. e) ss h

  known_left : (r : Record) → is_known metamodel r ≡ true → is_known metamodel (record_left dead r) ≡ true
  known_left r h = let both = and_parts (ltb r.class (length metamodel.classes)) (list_all (is_known_slot metamodel) r.slots) h in and_from _ _ both.0 (slots_known r.slots both.1)

  pub left_plain : IsPlain metamodel now
  left_plain = record {
    objects_rise = map_rises id_of (record_left dead) (λ r. refl) (filter (stays dead) records) ∙ filter_rises id_of (stays dead) records plain.objects_rise;
    slots_rise = map_pass (λ (r : Record). rises feature_of r.slots) (record_left dead) (λ r e. map_rises feature_of (slot_left dead) (λ s. refl) r.slots ∙ e) (filter (stays dead) records) (filter_pass (λ (r : Record). rises feature_of r.slots) (stays dead) records plain.slots_rise);
    known = map_pass (is_known metamodel) (record_left dead) known_left (filter (stays dead) records) (filter_pass (is_known metamodel) (stays dead) records plain.known);
  }

  found_left : (o : ℕ) → numbered id_of o now ≡ option_map (record_left dead) (cond (not (is_among dead o)) (numbered id_of o records) None)
  found_left o =
      map_numbered id_of (record_left dead) (λ r. refl) o (filter (stays dead) records)
      ∙ ap (option_map (record_left dead)) (filter_numbered id_of (λ n. not (is_among dead n)) o records)

  class_left : (b : Bool) (r : Option Record) → option_map (λ (r : Record). r.class) (option_map (record_left dead) (cond (not b) r None)) ≡ cond (not b) (option_map (λ (r : Record). r.class) r) None
  class_left true r = refl
  class_left false None = refl
  class_left false (Some r) = refl

  values_of_left : (f : ℕ) (ss : List Slot) → values_in f (map (slot_left dead) ss) ≡ values_left dead (values_in f ss)
  values_of_left f ss =
      ap (λ r. option_map_or (λ (s : Slot). s.values) r []) (map_numbered feature_of (slot_left dead) (λ s. refl) f ss)
      ∙ of (numbered feature_of f ss)
    where
      of : (r : Option Slot) → option_map_or (λ (s : Slot). s.values) (option_map (slot_left dead) r) [] ≡ values_left dead (option_map_or (λ (s : Slot). s.values) r [])
      of None = refl
      of (Some s) = refl

  held_left : (b : Bool) (f : ℕ) (r : Option Record)
      → option_map_or (λ (r : Record). values_in f r.slots) (option_map (record_left dead) (cond (not b) r None)) [] ≡ cond b [] (values_left dead (option_map_or (λ (r : Record). values_in f r.slots) r []))
  held_left true f r = refl
  held_left false f None = refl
  held_left false f (Some r) = values_of_left f r.slots

  pub left_shown : contents_of metamodel next now (filter (λ root. not (is_among dead root)) roots) ≡ without dead was
  left_shown =
      same_contents (contents_of metamodel next now (filter (λ root. not (is_among dead root)) roots)) (without dead was)
      (sym (metamodel-relink (touches dead) [] was))
      (sym (next-relink (touches dead) [] was))
      refl
      (λ o.
      kind-numbered metamodel next now roots o
      ∙ ap (option_map (λ (r : Record). r.class)) (found_left o)
      ∙ class_left (is_among dead o) (numbered id_of o records)
      ∙ ap (λ r. cond (not (is_among dead o)) r None) (sym (kind-numbered metamodel next records roots o))
      ∙ sym (kind-without was dead o))
      (λ o f.
      slot-numbered metamodel next now roots o f left_plain.objects_rise left_plain.slots_rise
      ∙ ap (λ r. option_map_or (λ (r : Record). values_in f r.slots) r []) (found_left o)
      ∙ held_left (is_among dead o) f (numbered id_of o records)
      ∙ ap (λ vs. cond (is_among dead o) [] (values_left dead vs)) (sym (slot-numbered metamodel next records roots o f plain.objects_rise plain.slots_rise))
      ∙ sym (slot-without was dead o f))
