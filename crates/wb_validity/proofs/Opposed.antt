-- The links that a set of links has are those that stand in the slots.
use Rattle.std.proofs.Common.{◌≡◌, ℕ, Bool, true, false, ◌&&◌, ◌||◌, List, [], ◌∷◌, Some, None, refl, sym, ap, subst, ◌∙◌, cond, eqb, ltb, arith}
use Rattle.std.proofs.lemmas.Bool.{and_parts, eqb-true}
use Rattle.std.proofs.lemmas.Bool.Decides.{nat_tests}
use Rattle.std.specs.Prelude.{is_some}
use Rattle.std.specs.Option.{option_map_or}
use Rattle.std.specs.List.{list_all, list_any}
use Rattle.wb_metamodel.specs.Metamodel.{Metamodel, feature_at}
use Rattle.wb_metamodel.specs.WellFormed.{WellFormed}
use Rattle.wb_ecore.specs.declared.features.Feature.{Feature}
use Rattle.wb_store.specs.declared.records.Record.{Record}
use Rattle.wb_store.specs.declared.records.Slot.{Slot}
use Rattle.wb_store.specs.Contents.{Contents, has_object, slot}
use Rattle.wb_store.specs.invariants.Links.{Kept}
use Rattle.wb_store.specs.Places.{rises, numbered}
use Rattle.wb_store.specs.Records.{id_of, feature_of, values_in}
use Rattle.wb_store.proofs.Maps.{slot-numbered}
use Rattle.wb_store.proofs.Members.{In-all}
use Rattle.wb_validity.specs.invariants.LinkSets.{has_opposite, has_link, slot_has, record_has, KnowsLinks}
use Rattle.wb_validity.specs.Valid.{holds_back}
use Rattle.wb_validity.proofs.LinkLemmas.{numbered_sound}

-- ---- one more link, slot or object

pub or_more : (x c r : Bool) → ((x || c) || r) ≡ (x || (c || r))
or_more true c r = refl
or_more false c r = refl

pub or_more_of : (x a c r : Bool) → ((x || (a && c)) || (a && r)) ≡ (x || (a && (c || r)))
or_more_of true a c r = refl
or_more_of false true c r = refl
or_more_of false false c r = refl

pub or_more_in : (x a b c r : Bool) → ((x || (a && (b && c))) || (a && (b && r))) ≡ (x || (a && (b && (c || r))))
or_more_in x a true c r = or_more_of x a c r
or_more_in true a false c r = refl
or_more_in false true false c r = refl
or_more_in false false false c r = refl

pub or_none : (x : Bool) → (x || false) ≡ x
or_none true = refl
or_none false = refl

pub or_none_of : (x a : Bool) → (x || (a && false)) ≡ x
or_none_of true a = refl
or_none_of false true = refl
or_none_of false false = refl

pub or_none_in : (x a b : Bool) → (x || (a && (b && false))) ≡ x
or_none_in x a true = or_none_of x a
or_none_in x a false = or_none_of x a

-- ---- what stands in a list that rises, found by its number

above : (a n : ℕ) → ltb a n ≡ true → eqb a n ≡ false
above a n h = grind (arith, nat_tests)

module _ {A : Type 0} (number : A → ℕ) (passes : A → Bool) where
  abbrev is_numbered : ℕ → A → Bool
  is_numbered n x = eqb n (number x) && passes x

  none_above : (xs : List A) (n : ℕ) → list_all (λ x. ltb n (number x)) xs ≡ true → list_any (is_numbered n) xs ≡ false
  none_above [] n h = refl
  none_above (x ∷ xs) n h =
      let parts = and_parts _ _ h in
      ap (λ b. (b && passes x) || list_any (is_numbered n) xs) (above n (number x) parts.0) ∙ none_above xs n parts.1

  any_numbered : (xs : List A) (n : ℕ) → rises number xs ≡ true → list_any (is_numbered n) xs ≡ option_map_or passes (numbered number n xs) false
  any_numbered [] n h = refl
  any_numbered (x ∷ xs) n h =
      let parts = and_parts _ _ h in
      elim (eqb n (number x)) as (λ b. eqb n (number x) ≡ b → ((b && passes x) || list_any (is_numbered n) xs) ≡ option_map_or passes (cond b (Some x) (numbered number n xs)) false) [
        | true ↦ λ e. ap (λ b. passes x || b) (none_above xs n (subst (λ k. list_all (λ y. ltb k (number y)) xs ≡ true) (sym (eqb-true _ _ e)) parts.0)) ∙ or_none (passes x)
        | false ↦ λ e. any_numbered xs n parts.1
      ] refl

-- ---- the links of a store

module _ (metamodel : Metamodel) (g o : ℕ) (opposed : has_opposite metamodel g ≡ true) where
  slots_have : (ss : List Slot) → rises feature_of ss ≡ true → list_any (slot_has metamodel g o) ss ≡ has_object (values_in g ss) o
  slots_have ss h =
      any_numbered feature_of (λ (s : Slot). has_opposite metamodel s.feature && has_object s.values o) ss g h
      ∙ elim (numbered feature_of g ss) as (λ r. numbered feature_of g ss ≡ r → option_map_or (λ (s : Slot). has_opposite metamodel s.feature && has_object s.values o) r false ≡ has_object (option_map_or (λ (s : Slot). s.values) r []) o) [
        | None ↦ λ e. refl
        | Some s ↦ λ e. ap (λ b. b && has_object s.values o) (ap (has_opposite metamodel) (numbered_sound feature_of ss g s e).1 ∙ opposed)
      ] refl

  records_have : (rs : List Record) (p : ℕ) → rises id_of rs ≡ true → list_all (λ (r : Record). rises feature_of r.slots) rs ≡ true
      → list_any (record_has metamodel p g o) rs ≡ has_object (option_map_or (λ (r : Record). values_in g r.slots) (numbered id_of p rs) []) o
  records_have rs p h slots_rise =
      any_numbered id_of (λ (r : Record). list_any (slot_has metamodel g o) r.slots) rs p h
      ∙ elim (numbered id_of p rs) as (λ q. numbered id_of p rs ≡ q → option_map_or (λ (r : Record). list_any (slot_has metamodel g o) r.slots) q false ≡ has_object (option_map_or (λ (r : Record). values_in g r.slots) q []) o) [
        | None ↦ λ e. refl
        | Some r ↦ λ e. slots_have r.slots (In-all (λ (r : Record). rises feature_of r.slots) rs r slots_rise (numbered_sound id_of rs p r e).0)
      ] refl

pub knows_links : (m : Contents) (rs : List Record) (links : List (ℕ × ℕ × ℕ)) → Kept m rs → ((p g o : ℕ) → has_link links p g o ≡ list_any (record_has m.metamodel p g o) rs) → KnowsLinks m links
knows_links m rs links kept has = record {
  exact = λ p g o opposed.
      has p g o
      ∙ records_have m.metamodel g o opposed rs p kept.plain.objects_rise kept.plain.slots_rise
      ∙ ap (λ values. has_object values o) (sym (ap (λ m. slot m p g) kept.shown ∙ slot-numbered m.metamodel m.next rs m.roots p g kept.plain.objects_rise kept.plain.slots_rise));
}

-- ---- the other end of a link

module _ (m : Contents) (well : WellFormed m.metamodel) (f g : ℕ) (feature : Feature) (at : feature_at m.metamodel f ≡ Some feature) (names : feature.opposite ≡ Some g) where
  opposed_back : has_opposite m.metamodel g ≡ true
  opposed_back =
      let other = well.opposites f g feature at names in
      ap (λ r. is_some (option_map_or (λ (x : Feature). x.opposite) r None)) other.1 ∙ ap is_some other.2.named_back

  pub link_holds_back : (links : List (ℕ × ℕ × ℕ)) → KnowsLinks m links → (o p : ℕ) → has_link links p g o ≡ holds_back m o f p
  link_holds_back links knows o p =
      knows.exact p g o opposed_back
      ∙ sym (ap (λ r. option_map_or (λ g. has_object (slot m p g) o) (option_map_or (λ (x : Feature). x.opposite) r None) true) at
      ∙ ap (λ r. option_map_or (λ g. has_object (slot m p g) o) r true) names)
