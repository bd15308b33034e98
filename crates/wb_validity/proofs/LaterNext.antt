-- A valid model stays valid where numbers are left out: the next object gets a greater one.
use Rattle.std.proofs.Common.{◌≡◌, ℕ, ◌^◌, ◌<◌, ◌≤◌, true, ◌&&◌, ltb, arith}
use Rattle.std.proofs.lemmas.Bool.{and_parts, and_from, ltb-true, lt-ltb}
use Rattle.std.specs.FinMap.{entries}
use Rattle.wb_store.specs.Contents.{Contents, with_next}
use Rattle.wb_store.proofs.Members.{all_In, In-all}
use Rattle.wb_validity.specs.Valid.{numbers_are_spent, Within, Valid, IsValid}
use Rattle.wb_validity.specs.Valid.Within.{directly, through}

module _ (m : Contents) (next : ℕ) (later : m.next ≤ next) where
  within-later : (p o : ℕ) → Within (with_next next m) p o → Within m p o
  within-later p o (directly f h) = directly f h
  within-later p o (through {q = q} f w h) = through f (within-later p q w) h

  below-later : (o : ℕ) → (ltb 0 o && ltb o m.next) ≡ true → (ltb 0 o && ltb o next) ≡ true
  below-later o h =
      let both = and_parts (ltb 0 o) (ltb o m.next) h in
      let below = ltb-true o m.next both.1 in
      and_from (ltb 0 o) (ltb o next) both.0 (lt-ltb o next (omega arith))

  numbers-later : next < 2 ^ 32 → numbers_are_spent m ≡ true → numbers_are_spent (with_next next m) ≡ true
  numbers-later few h =
      let parts = and_parts (ltb 0 m.next && ltb m.next (2 ^ 32)) _ h in
      let first = ltb-true 0 m.next (and_parts (ltb 0 m.next) (ltb m.next (2 ^ 32)) parts.0).0 in
      and_from (ltb 0 next && ltb next (2 ^ 32)) _
      (and_from (ltb 0 next) (ltb next (2 ^ 32)) (lt-ltb 0 next (omega arith)) (lt-ltb next (2 ^ 32) few))
      (all_In (λ (e : ℕ × ℕ). ltb 0 e.0 && ltb e.0 next) (entries m.kinds) (λ e i. below-later e.0 (In-all (λ (e : ℕ × ℕ). ltb 0 e.0 && ltb e.0 m.next) (entries m.kinds) e parts.1 i)))

  pub Valid-later : next < 2 ^ 32 → Valid m → Valid (with_next next m)
  Valid-later few v = record {
    numbers_are_spent = numbers-later few v.numbers_are_spent;
    classes_are_concrete = v.classes_are_concrete;
    slots_are_of_classes = v.slots_are_of_classes;
    slots_have_room = v.slots_have_room;
    values_are_of_kinds = v.values_are_of_kinds;
    values_differ = v.values_differ;
    opposites_agree = v.opposites_agree;
    are_contained_once = v.are_contained_once;
    none_is_within_itself = λ o w. v.none_is_within_itself o (within-later o o w);
    roots_are_uncontained = record {
      each_once = v.roots_are_uncontained.each_once;
      live = v.roots_are_uncontained.live;
      uncontained = v.roots_are_uncontained.uncontained;
      all = v.roots_are_uncontained.all;
    };
    few_objects = v.few_objects;
  }

  pub valid-later : next < 2 ^ 32 → IsValid m → IsValid (with_next next m)
  unfolding IsValid
  valid-later few v = Valid-later few v
