-- No condition is found broken exactly where a model is valid.
use Rattle.std.proofs.Common.{◌≡◌, ℕ, ◌≤◌, Bool, true, false, not, ◌&&◌, ◌||◌, List, [], ◌∷◌, length, Option, Some, None, refl, sym, ap, subst, ◌∙◌, cond, eqb, ltb, leb, arith}
use Rattle.std.proofs.lemmas.Bool.{and_parts, and_from, or_parts, both_ways, false≢true, not-false, not-true, not_from_true, not_from_false, false_from_ne_true}
use Rattle.std.proofs.lemmas.Bool.Decides.{nat_tests}
use Rattle.std.proofs.lemmas.Cmp.{nat_cmp_total}
use Rattle.std.proofs.lemmas.Option.{none-some, slice_get_read}
use Rattle.std.specs.Prelude.{IsSome}
use Rattle.std.specs.Option.{option_map, option_or}
use Rattle.std.specs.List.{find, flat_map, list_all, list_any}
use Rattle.std.specs.FinMap.{len, entries, get-entries, nat_cmp-IsAntisymmetric}
use Rattle.wb_validity.specs.declared.conditions.Condition.{Condition}
use Rattle.wb_validity.specs.declared.conditions.Condition.TheVariants.{OfClass, HasRoom, OfKinds, Differ, HeldBack}
use Rattle.wb_store.specs.declared.records.Record.{Record}
use Rattle.wb_validity.specs.Broken.{Breach, shown_by, unless, least, slots_at, breaks, is_misnumbered, is_crowded, is_held_twice, broken, broken_number, broken_first, broken_values, broken_containment, broken_holding}
use Rattle.wb_validity.specs.Conditions.{meets}
use Rattle.wb_store.specs.Contents.{Contents, Filled, members, kind}
use Rattle.wb_store.specs.invariants.Links.{Kept}
use Rattle.wb_store.specs.Records.{kind_entry, slot_entries}
use Rattle.wb_validity.specs.Valid.{every_slot, is_abstract, numbers_are_spent, classes_are_concrete, AreContainedOnce, Within, NoneIsWithinItself, RootsAreUncontained, IsValid}
use Rattle.wb_validity.specs.ValidTest.{holders, is_within}
use Rattle.wb_validity.proofs.Breaches.{slots_meet_kept}
use Rattle.wb_store.proofs.Filtered.{filter-In}
use Rattle.wb_validity.proofs.Findings.{nothing_shown}
use Rattle.wb_validity.proofs.LinkLemmas.{container_place, live_at, at_most_one as one_at_most}
use Rattle.wb_store.proofs.Members.{In, In-all, In-map, map-In, all_In, find-In, flat_map-In, Contains-In}
use Rattle.wb_store.proofs.Members.In.{here, there}
use Rattle.wb_validity.proofs.RingLemmas.{first_step}
use Rattle.wb_store.proofs.Shown.{shown-kinds, shown-slots}
use Rattle.wb_validity.proofs.ValidTest.{contained_once-decided, is_within-decides, roots-decided}

-- ---- tests that no object passes

module _ {A B : Type 0} (p : A → Bool) (key : A → B) where
  find_none : (xs : List A) → option_map key (find p xs) ≡ None → (x : A) → In x xs → p x ≡ false
  find_none [] e x i = elim i [ ]
  find_none (y ∷ xs) e x i =
      elim (p y) as (λ b. p y ≡ b → option_map key (cond b (Some y) (find p xs)) ≡ None → p x ≡ false) [
        | true ↦ λ t e. absurd (none-some (key y) (sym e))
        | false ↦ λ t e. first_or_later y x xs (λ z. p z ≡ false) t (find_none xs e x) i
      ] refl e
    where
      first_or_later : (y x : A) (xs : List A) (P : A → Type 0) → P y → (In x xs → P x) → In x (y ∷ xs) → P x
      first_or_later y x xs P h l here = h
      first_or_later y x xs P h l (there m) = l m

  none_find : (xs : List A) → ((x : A) → In x xs → p x ≡ false) → option_map key (find p xs) ≡ None
  none_find [] h = refl
  none_find (y ∷ xs) h = ap (λ b. option_map key (cond b (Some y) (find p xs))) (h y here) ∙ none_find xs (λ x i. h x (there i))

none_of_both : (a b : Option Breach) → option_or a b ≡ None → (a ≡ None) × (b ≡ None)
none_of_both None b e = (refl, e)
none_of_both (Some x) b e = absurd (none-some x (sym e))

holds_unless : (number : ℕ) (b : Bool) → unless number b ≡ None → b ≡ true
holds_unless number true e = refl
holds_unless number false e = absurd (none-some (number, None) (sym e))

neither : (a b : Option Breach) → a ≡ None → b ≡ None → option_or a b ≡ None
neither a b e f = λ i. option_or (e i) (f i)

at_most_one : (n : ℕ) → ltb 1 n ≡ false → leb n 1 ≡ true
at_most_one n h = grind (arith, nat_tests)

-- ---- nothing is broken of a valid model

module _ (m : Contents) where
  passed_by_none : (number : ℕ) (passes : ℕ → ℕ → Bool) → ((o c : ℕ) → In (o, c) (entries m.kinds) → passes o c ≡ false) → shown_by number (least m passes) ≡ None
  passed_by_none number passes h = ap (shown_by number) (none_find (λ (e : ℕ × ℕ). passes e.0 e.1) (λ (e : ℕ × ℕ). e.0) (entries m.kinds) (λ e i. h e.0 e.1 i))

  meets_all_slots : (condition : Condition) → every_slot m (meets m condition) ≡ true → (o : ℕ) → breaks m condition o ≡ false
  meets_all_slots condition h o =
      not_from_true _ (all_In (λ (e : (ℕ × ℕ) × Filled). meets m condition e.0.0 e.0.1 (members e.1)) (slots_at m o) (λ e i.
      In-all (λ (e : (ℕ × ℕ) × Filled). meets m condition e.0.0 e.0.1 (members e.1)) (entries m.slots) e h (filter-In (λ (e : (ℕ × ℕ) × Filled). eqb o e.0.0) (entries m.slots) e i).0))

  pub broken_none : (wrong : List ℕ) → IsValid m → wrong ≡ [] → broken m wrong ≡ None
  unfolding IsValid broken broken_first broken_number broken_values broken_containment broken_holding
  broken_none wrong v none =
      let spent = and_parts _ _ v.numbers_are_spent in
      neither _ _
      (neither _ _
      (neither _ _ (ap (unless 1) spent.0) (passed_by_none 1 _ (λ o c i. not_from_true _ (In-all (λ (e : ℕ × ℕ). ltb 0 e.0 && ltb e.0 m.next) (entries m.kinds) (o, c) spent.1 i))))
      (neither _ _
      (passed_by_none 2 _ (λ o c i. not-true _ (In-all (λ (e : ℕ × ℕ). not (is_abstract m.metamodel e.1)) (entries m.kinds) (o, c) v.classes_are_concrete i)))
      (neither _ _
      (passed_by_none 3 _ (λ o c i. meets_all_slots OfClass v.slots_are_of_classes o))
      (passed_by_none 4 _ (λ o c i. (λ j. list_any (λ p. eqb p o) (none j) || breaks m HasRoom o) ∙ meets_all_slots HasRoom v.slots_have_room o)))))
      (neither _ _
      (neither _ _
      (passed_by_none 5 _ (λ o c i. meets_all_slots OfKinds v.values_are_of_kinds o))
      (neither _ _
      (passed_by_none 6 _ (λ o c i. meets_all_slots Differ v.values_differ o))
      (passed_by_none 7 _ (λ o c i. meets_all_slots HeldBack v.opposites_agree o))))
      (neither _ _
      (passed_by_none 8 _ (λ o c i. one_at_most _ (In-all (λ (e : ℕ × ℕ). leb (length (holders m e.0)) 1) (entries m.kinds) (o, c) ((contained_once-decided m).1 v.are_contained_once) i)))
      (neither _ _
      (passed_by_none 9 _ (λ o c i. false_from_ne_true _ (λ h. v.none_is_within_itself o ((is_within-decides m o o).0 h))))
      (ap (unless 10) ((roots-decided m).1 v.roots_are_uncontained)))))

  pub unbroken : IsValid m → broken m [] ≡ None
  unbroken v = broken_none [] v refl

-- ---- a model of which nothing is broken is valid

module _ (m : Contents) (rs : List Record) (kept : Kept m rs) where
  none_passes : (number : ℕ) (passes : ℕ → ℕ → Bool) → shown_by number (least m passes) ≡ None → (o c : ℕ) → In (o, c) (entries m.kinds) → passes o c ≡ false
  none_passes number passes e o c i = find_none (λ (e : ℕ × ℕ). passes e.0 e.1) (λ (e : ℕ × ℕ). e.0) (entries m.kinds) (nothing_shown number (least m passes) e) (o, c) i

  entry_of : (r : Record) → In r rs → In (r.id, r.class) (entries m.kinds)
  entry_of r i = subst (In (r.id, r.class)) (sym (shown-kinds m rs kept.shown kept.plain)) (In-map kind_entry rs r i)

  pub live_entry : (o : ℕ) → IsSome (kind m o) → (c : ℕ) × In (o, c) (entries m.kinds)
  live_entry o live =
      elim (kind m o) as (λ k. kind m o ≡ k → IsSome k → (c : ℕ) × In (o, c) (entries m.kinds)) [
        | None ↦ λ e live. absurd (false≢true live)
        | Some c ↦ λ e live. (c, find-In nat_cmp_total nat_cmp-IsAntisymmetric (entries m.kinds) o c (sym (get-entries m.kinds o) ∙ e))
      ] refl live

  entry_live : (o c : ℕ) → In (o, c) (entries m.kinds) → IsSome (kind m o)
  entry_live o c i =
      let r = map-In kind_entry rs (o, c) (subst (In (o, c)) (shown-kinds m rs kept.shown kept.plain) i) in
      let place = Contains-In rs r.0 r.1 in
      subst (λ x. IsSome (kind m x)) (sym (ap (λ (e : ℕ × ℕ). e.0) r.2)) (live_at m rs kept place.0 r.0 (slice_get_read rs (length rs) place.0 r.0 refl place.1 (sym place.2)))

  all_slots_meet : (condition : Condition) → ((o c : ℕ) → In (o, c) (entries m.kinds) → breaks m condition o ≡ false) → every_slot m (meets m condition) ≡ true
  all_slots_meet condition h =
      ap (list_all (λ (e : (ℕ × ℕ) × Filled). meets m condition e.0.0 e.0.1 (members e.1))) (shown-slots m rs kept.shown kept.plain)
      ∙ all_In (λ (e : (ℕ × ℕ) × Filled). meets m condition e.0.0 e.0.1 (members e.1)) (flat_map slot_entries rs) (λ e i.
      let r = flat_map-In slot_entries rs e i in
      let met = sym (slots_meet_kept m rs kept condition r.0 r.1 r.0.slots refl) ∙ not-false _ (h r.0.id r.0.class (entry_of r.0 r.1)) in
      In-all (λ (e : (ℕ × ℕ) × Filled). meets m condition e.0.0 e.0.1 (members e.1)) (slot_entries r.0) e met r.2)

  within_live : (o : ℕ) → Within m o o → IsSome (kind m o)
  within_live o w =
      let s = first_step m o o w in
      let c = container_place m rs kept o s.1 s.0 s.2 in
      subst (λ x. IsSome (kind m x)) c.3 (live_at m rs kept c.0 c.1 c.2)

  module _ (wrong : List ℕ) where
    module _ (whole : broken m wrong ≡ None) where
      first_none : broken_first m wrong ≡ None
      unfolding broken
      first_none = (none_of_both _ _ whole).0

      values_none : broken_values m ≡ None
      unfolding broken
      values_none = (none_of_both _ _ (none_of_both _ _ whole).1).0

      containment_none : broken_containment m ≡ None
      unfolding broken
      containment_none = (none_of_both _ _ (none_of_both _ _ whole).1).1

      pub none_crowded : (o c : ℕ) → In (o, c) (entries m.kinds) → is_crowded m wrong o ≡ false
      unfolding broken_first
      none_crowded =
          let after_number = (none_of_both (broken_number m) _ first_none).1 in
          let after_class = (none_of_both (shown_by 2 (least m (λ o c. is_abstract m.metamodel c))) _ after_number).1 in
          let after_slots = (none_of_both (shown_by 3 (least m (λ o c. breaks m OfClass o))) _ after_class).1 in
          none_passes 4 (λ o c. is_crowded m wrong o) after_slots

      numbers : numbers_are_spent m ≡ true
      unfolding broken_first broken_number
      numbers =
          let both = none_of_both _ _ (none_of_both _ _ first_none).0 in
          and_from _ _ (holds_unless 1 _ both.0) (all_In (λ (e : ℕ × ℕ). ltb 0 e.0 && ltb e.0 m.next) (entries m.kinds) (λ e i. not-false _ (none_passes 1 (λ o c. is_misnumbered m o) both.1 e.0 e.1 i)))

      concrete : classes_are_concrete m ≡ true
      unfolding broken_first
      concrete = all_In (λ (e : ℕ × ℕ). not (is_abstract m.metamodel e.1)) (entries m.kinds) (λ e i. not_from_false _ (none_passes 2 (λ o c. is_abstract m.metamodel c) (none_of_both _ _ (none_of_both _ _ first_none).1).0 e.0 e.1 i))

      of_classes : every_slot m (meets m OfClass) ≡ true
      unfolding broken_first
      of_classes = all_slots_meet OfClass (none_passes 3 (λ o c. breaks m OfClass o) (none_of_both _ _ (none_of_both _ _ (none_of_both _ _ first_none).1).1).0)

      have_room : every_slot m (meets m HasRoom) ≡ true
      have_room = all_slots_meet HasRoom (λ o c i. (or_parts _ _ (none_crowded o c i)).1)

      of_kinds : every_slot m (meets m OfKinds) ≡ true
      unfolding broken_values
      of_kinds = all_slots_meet OfKinds (none_passes 5 (λ o c. breaks m OfKinds o) (none_of_both _ _ values_none).0)

      differing : every_slot m (meets m Differ) ≡ true
      unfolding broken_values
      differing = all_slots_meet Differ (none_passes 6 (λ o c. breaks m Differ o) (none_of_both _ _ (none_of_both _ _ values_none).1).0)

      agreeing : every_slot m (meets m HeldBack) ≡ true
      unfolding broken_values
      agreeing = all_slots_meet HeldBack (none_passes 7 (λ o c. breaks m HeldBack o) (none_of_both _ _ (none_of_both _ _ values_none).1).1)

      once_contained : AreContainedOnce m
      unfolding broken_containment
      once_contained = (contained_once-decided m).0 (all_In (λ (e : ℕ × ℕ). leb (length (holders m e.0)) 1) (entries m.kinds) (λ e i. at_most_one _ (none_passes 8 (λ o c. is_held_twice m o) (none_of_both _ _ containment_none).0 e.0 e.1 i)))

      no_ring : NoneIsWithinItself m
      unfolding broken_containment broken_holding
      no_ring = λ o w.
          let l = live_entry o (within_live o w) in
          both_ways _ (none_passes 9 (λ o c. is_within m o o) (none_of_both _ _ (none_of_both _ _ containment_none).1).0 o l.0 l.1) ((is_within-decides m o o).1 w)

      rooted : RootsAreUncontained m
      unfolding broken_containment broken_holding
      rooted = (roots-decided m).0 (holds_unless 10 _ (none_of_both _ _ (none_of_both _ _ containment_none).1).1)

      pub valid_from : len m.kinds ≤ 20000 → IsValid m
      unfolding IsValid
      valid_from few = record {
        numbers_are_spent = numbers;
        classes_are_concrete = concrete;
        slots_are_of_classes = of_classes;
        slots_have_room = have_room;
        values_are_of_kinds = of_kinds;
        values_differ = differing;
        opposites_agree = agreeing;
        are_contained_once = once_contained;
        none_is_within_itself = no_ring;
        roots_are_uncontained = rooted;
        few_objects = few;
      }
