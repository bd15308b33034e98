-- The contents without objects are valid.
use Rattle.std.proofs.Common.{◌≡◌, ℕ, Bool, true, false, ◌&&◌, [], refl, sym, ap, subst, ◌∙◌, arith}
use Rattle.std.proofs.lemmas.Bool.{false≢true}
use Rattle.std.specs.Ordering.{nat_cmp}
use Rattle.std.specs.Option.{IsSome, option_map_or}
use Rattle.std.specs.FinMap.{get-empty, len-empty, entries}
use Rattle.wb_metamodel.specs.Metamodel.{Metamodel}
use Rattle.wb_store.specs.Contents.{empty_contents, kind, slot, slot_cmp, Filled, members, has_object, contains, is_containment}
use Rattle.wb_validity.specs.Valid.{Valid, IsValid, Within}
use Rattle.wb_validity.specs.Valid.Within.{directly, through}
use Rattle.wb_store.proofs.Maps.{entries-kinds, entries-slots}

and_none : (b : Bool) → (b && false) ≡ false
and_none true = refl
and_none false = refl

module _ (metamodel : Metamodel) where
  no_objects : entries (empty_contents metamodel).kinds ≡ []
  no_objects = entries-kinds metamodel 1 [] [] refl

  no_slots : entries (empty_contents metamodel).slots ≡ []
  no_slots = entries-slots metamodel 1 [] [] refl refl

  no_slot : (o f : ℕ) → slot (empty_contents metamodel) o f ≡ []
  no_slot o f = ap (λ v. option_map_or members v []) (get-empty {X = Filled} slot_cmp (o, f))

  contains_nothing : (p f o : ℕ) → contains (empty_contents metamodel) p f o ≡ false
  contains_nothing p f o = ap (λ values. is_containment metamodel f && has_object values o) (no_slot p f) ∙ and_none (is_containment metamodel f)

  none_within : (p o : ℕ) → Within (empty_contents metamodel) p o → ⊥
  none_within p o (directly f h) = false≢true (sym (contains_nothing p f o) ∙ h)
  none_within p o (through {q = q} f w h) = false≢true (sym (contains_nothing q f o) ∙ h)

  dead : (o : ℕ) → ¬ (IsSome (kind (empty_contents metamodel) o))
  dead o h = false≢true (subst IsSome (get-empty {X = ℕ} nat_cmp o) h)

  pub empty-Valid : Valid (empty_contents metamodel)
  empty-Valid = record {
    numbers_are_spent = rw no_objects;
    classes_are_concrete = rw no_objects;
    slots_are_of_classes = rw no_slots;
    slots_have_room = rw no_slots;
    values_are_of_kinds = rw no_slots;
    values_differ = rw no_slots;
    opposites_agree = rw no_slots;
    are_contained_once = λ o p q f g live a b. absurd (dead o live);
    none_is_within_itself = λ o w. none_within o o w;
    roots_are_uncontained = record {
      each_once = refl;
      live = λ o h. absurd (false≢true h);
      uncontained = λ o p f h. absurd (false≢true h);
      all = λ o live h. absurd (dead o live);
    };
    few_objects = rw (len-empty nat_cmp ℕ) (omega arith);
  }

  pub empty-IsValid : IsValid (empty_contents metamodel)
  unfolding IsValid
  empty-IsValid = empty-Valid
