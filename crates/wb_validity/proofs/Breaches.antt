-- The least object that passes a test, found among the objects as they are kept.
use Rattle.std.proofs.Common.{◌≡◌, ℕ, ◌+◌, ◌<◌, Bool, true, false, List, [], ◌∷◌, ◌++◌, map, drop, length, get_or, Option, Some, refl, sym, ap, ◌∙◌, cond, eqb, ltb, arith}
use Rattle.std.proofs.lemmas.Bool.{and_parts}
use Rattle.std.proofs.lemmas.Bool.Decides.{nat_tests}
use Rattle.std.proofs.lemmas.List.Elements.{filter-append}
use Rattle.std.specs.Prelude.{filter}
use Rattle.std.specs.Option.{option_map}
use Rattle.std.specs.List.{find, flat_map, list_all}
use Rattle.wb_validity.specs.declared.conditions.Condition.{Condition}
use Rattle.wb_store.specs.declared.scalars.Scalar.{Scalar}
use Rattle.wb_store.specs.declared.records.Record.{Record}
use Rattle.wb_store.specs.declared.records.Slot.{Slot}
use Rattle.wb_store.specs.Contents.{Contents, Filled, members}
use Rattle.wb_validity.specs.Conditions.{meets}
use Rattle.wb_validity.specs.Broken.{least, slots_at, slots_meet}
use Rattle.wb_store.specs.invariants.Links.{Kept}
use Rattle.wb_store.specs.Places.{rises}
use Rattle.wb_store.specs.Records.{id_of, kind_entry, filled, slot_entry, slot_entries}
use Rattle.wb_store.proofs.Found.{is_itself}
use Rattle.wb_store.proofs.Members.{In, In-all, In-Contains}
use Rattle.wb_store.proofs.Members.In.{here, there}
use Rattle.wb_store.proofs.Shown.{shown-kinds, shown-slots}
use Rattle.wb_store.proofs.Steps.{drop_more}

-- ---- the slots of one object

is_of : ℕ → (ℕ × ℕ) × Filled → Bool
is_of o e = eqb o e.0.0

own_filled : (o f : ℕ) (values : List Scalar) → filter (is_of o) (filled (o, f) values) ≡ filled (o, f) values
unfolding is_of
own_filled o f [] = refl
own_filled o f (value ∷ values) = ap (λ b. cond b (filled (o, f) (value ∷ values)) []) (is_itself o)

own_slots : (o : ℕ) (ss : List Slot) → filter (is_of o) (flat_map (slot_entry o) ss) ≡ flat_map (slot_entry o) ss
own_slots o [] = refl
own_slots o (s ∷ ss) = filter-append (is_of o) (slot_entry o s) (flat_map (slot_entry o) ss) ∙ (λ i. own_filled o s.feature s.values i ++ own_slots o ss i)

other_filled : (o p f : ℕ) (values : List Scalar) → eqb o p ≡ false → filter (is_of o) (filled (p, f) values) ≡ []
unfolding is_of
other_filled o p f [] h = refl
other_filled o p f (value ∷ values) h = ap (λ b. cond b (filled (p, f) (value ∷ values)) []) h

other_slots : (o p : ℕ) (ss : List Slot) → eqb o p ≡ false → filter (is_of o) (flat_map (slot_entry p) ss) ≡ []
other_slots o p [] h = refl
other_slots o p (s ∷ ss) h = filter-append (is_of o) (slot_entry p s) (flat_map (slot_entry p) ss) ∙ (λ i. other_filled o p s.feature s.values h i ++ other_slots o p ss h i)

above : (a b : ℕ) → ltb a b ≡ true → eqb a b ≡ false
above a b h = grind (arith, nat_tests)

below : (a b : ℕ) → ltb a b ≡ true → eqb b a ≡ false
below a b h = grind (arith, nat_tests)

later_slots : (o : ℕ) (rs : List Record) → ((r : Record) → In r rs → ltb o r.id ≡ true) → filter (is_of o) (flat_map slot_entries rs) ≡ []
later_slots o [] h = refl
later_slots o (r ∷ rs) h =
    filter-append (is_of o) (slot_entries r) (flat_map slot_entries rs)
    ∙ (λ i. other_slots o r.id r.slots (above o r.id (h r here)) i ++ later_slots o rs (λ q m. h q (there m)) i)

append_nothing : {A : Type 0} (xs : List A) → xs ++ [] ≡ xs
append_nothing [] = refl
append_nothing (x ∷ xs) = ap (λ ys. x ∷ ys) (append_nothing xs)

slots_found : (rs : List Record) → rises id_of rs ≡ true → (r : Record) → In r rs → filter (is_of r.id) (flat_map slot_entries rs) ≡ slot_entries r
slots_found [] h r m = elim m [ ]
slots_found (q ∷ rs) h r here =
    filter-append (is_of r.id) (slot_entries r) (flat_map slot_entries rs)
    ∙ (λ i. own_slots r.id r.slots i ++ later_slots r.id rs (λ q m. In-all (λ (q : Record). ltb r.id q.id) rs q (and_parts _ _ h).0 m) i)
    ∙ append_nothing (slot_entries r)
slots_found (q ∷ rs) h r (there m) =
    filter-append (is_of r.id) (slot_entries q) (flat_map slot_entries rs)
    ∙ (λ i. other_slots r.id q.id q.slots (below q.id r.id (In-all (λ (r : Record). ltb q.id r.id) rs r (and_parts _ _ h).0 m)) i ++ slots_found rs (and_parts _ _ h).1 r m i)

module _ (m : Contents) (rs : List Record) (kept : Kept m rs) where
  pub slots_kept : (r : Record) → In r rs → slots_at m r.id ≡ slot_entries r
  unfolding is_of
  slots_kept r i = ap (filter (is_of r.id)) (shown-slots m rs kept.shown kept.plain) ∙ slots_found rs kept.plain.objects_rise r i

  pub slots_meet_kept : (condition : Condition) (r : Record) → In r rs → (slots : List Slot) → slots ≡ r.slots
      → slots_meet m condition r.id ≡ list_all (λ (e : (ℕ × ℕ) × Filled). meets m condition e.0.0 e.0.1 (members e.1)) (flat_map (slot_entry r.id) slots)
  slots_meet_kept condition r i slots e =
      ap (list_all (λ (e : (ℕ × ℕ) × Filled). meets m condition e.0.0 e.0.1 (members e.1))) (slots_kept r i ∙ ap (flat_map (slot_entry r.id)) (sym e))

  -- ---- the least object

  abbrev pub least_among : (ℕ → ℕ → Bool) → List Record → Option ℕ
  least_among passes rs = option_map (λ (e : ℕ × ℕ). e.0) (find (λ (e : ℕ × ℕ). passes e.0 e.1) (map kind_entry rs))

  pub least_begins : (passes : ℕ → ℕ → Bool) → least_among passes rs ≡ least m passes
  least_begins passes = ap (λ es. option_map (λ (e : ℕ × ℕ). e.0) (find (λ (e : ℕ × ℕ). passes e.0 e.1) es)) (sym (shown-kinds m rs kept.shown kept.plain))

  module _ (passes : ℕ → ℕ → Bool) (i : ℕ) (r : Record) (within : i < length rs) (read : r ≡ get_or rs i r) where
    pub least_in : In r rs
    least_in = In-Contains rs r i within (sym read)

    least_step : least_among passes (drop i rs) ≡ cond (passes r.id r.class) (Some r.id) (least_among passes (drop (i + 1) rs))
    least_step =
        ap (least_among passes) (drop_more rs i r within read)
        ∙ elim (passes r.id r.class) as (λ b. option_map (λ (e : ℕ × ℕ). e.0) (cond b (Some (kind_entry r)) (find (λ (e : ℕ × ℕ). passes e.0 e.1) (map kind_entry (drop (i + 1) rs)))) ≡ cond b (Some r.id) (least_among passes (drop (i + 1) rs))) [
          | true ↦ refl
          | false ↦ refl
        ]

    pub least_here : passes r.id r.class ≡ true → least_among passes (drop i rs) ≡ least m passes → Some r.id ≡ least m passes
    least_here h so_far = ap (λ b. cond b (Some r.id) (least_among passes (drop (i + 1) rs))) (sym h) ∙ sym least_step ∙ so_far

    pub least_later : passes r.id r.class ≡ false → least_among passes (drop i rs) ≡ least m passes → least_among passes (drop (i + 1) rs) ≡ least m passes
    least_later h so_far = ap (λ b. cond b (Some r.id) (least_among passes (drop (i + 1) rs))) (sym h) ∙ sym least_step ∙ so_far
