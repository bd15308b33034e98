-- Following containers upwards: what is met after more steps than there are objects stands on a ring.
use Rattle.std.proofs.Common.{◌≡◌, ℕ, ◌+◌, ◌*◌, ◌<◌, ◌≤◌, suc, zero, Bool, true, false, ◌||◌, List, [], ◌∷◌, ◌++◌, All, length, map, take, get_or, Option, Some, None, refl, sym, ap, subst, ◌∙◌, arith, inl, inr, ◌⊎◌, ⊎_elim}
use Rattle.std.proofs.Math.ListN.{set, length-map, length-append, length-set}
use Rattle.std.proofs.lemmas.Bool.{false≢true, false_from_ne_true, cases_Bool, both_ways, eqb-true, eq-eqb, ne_eqb}
use Rattle.std.proofs.lemmas.List.{take_more, take_all, get_or_default}
use Rattle.std.proofs.lemmas.List.Folds.{list_any-append}
use Rattle.std.proofs.lemmas.Option.{none-some, same_Some, get_or_from_slice_get, slice_get_within, slice_get-get_or, slice_get_read, slice_get-map}
use Rattle.std.specs.Prelude.{filter, IsSome}
use Rattle.std.specs.Option.{option_map, option_map_or}
use Rattle.std.specs.List.{slice_get, list_any}
use Rattle.std.specs.FinMap.{entries, keys, len, len-entries}
use Rattle.wb_store.specs.declared.containment.Link.{Link}
use Rattle.wb_store.specs.declared.records.Record.{Record}
use Rattle.wb_store.specs.Contents.{Contents, contains, kind}
use Rattle.wb_validity.specs.Valid.{AreContainedOnce, Within}
use Rattle.wb_validity.specs.Valid.Within.{directly, through}
use Rattle.wb_validity.specs.ValidTest.{is_within}
use Rattle.wb_store.specs.invariants.Links.{Kept, KnowsHolders}
use Rattle.wb_validity.specs.invariants.Rings.{IsContainerPlace, Above, IsAbove, IsFarAbove, beyond, is_place, with_met, AreMet}
use Rattle.wb_validity.specs.invariants.Rings.Above.{itself, upwards}
use Rattle.wb_store.specs.Places.{IsPlaceOf}
use Rattle.wb_store.specs.Records.{id_of, kind_entry}
use Rattle.wb_validity.proofs.Climbing.{element_at, within_under}
use Rattle.wb_store.proofs.HolderLemmas.{decide, get-set_same, get-set_other, place_unique}
use Rattle.wb_validity.proofs.LinkLemmas.{container_place, live_at, place_get, place_at, any_found}
use Rattle.wb_store.proofs.Members.{any_In, Contains-In, In-Contains}
use Rattle.wb_store.proofs.Shown.{shown-kinds}
use Rattle.wb_validity.proofs.Trees.{one_fewer, all_pass, live_In}
use Rattle.wb_validity.proofs.ValidTest.{is_within-decides}

-- the first step down from a container
pub first_step : (m : Contents) (p o : ℕ) → Within m p o → (q : ℕ) × (f : ℕ) × (contains m p f q ≡ true) × ((q ≡ o) ⊎ Within m q o)
first_step m p o (directly f h) = (o, f, h, inl refl)
first_step m p o (through {q = r} f w h) =
    let s = first_step m p r w in
    (s.0, s.1, s.2, inr (⊎_elim (λ e. directly f (subst (λ x. contains m x f o ≡ true) (sym e) h)) (λ v. through f v h) s.3))

-- what contains itself contains another that does, or itself
ring_below : (m : Contents) (p : ℕ) → Within m p p → (q : ℕ) × (f : ℕ) × (contains m p f q ≡ true) × Within m q q
ring_below m p w =
    let s = first_step m p p w in
    (s.0, s.1, s.2, ⊎_elim (λ e. subst (λ x. Within m x x) (sym e) w) (λ v. through s.1 v s.2) s.3)

above_last : (m : Contents) (n o q p f : ℕ) → Above m n o q → contains m p f q ≡ true → Above m (suc n) o p
above_last m zero q q' p f itself h = upwards f h itself
above_last m (suc n) o q p f (upwards {q = r} g k a) h = upwards g k (above_last m n r q p f a h)

-- a ring goes round without end
ring_above : (m : Contents) (n p : ℕ) → Within m p p → (o : ℕ) × Above m n o p × Within m o o
ring_above m zero p w = (p, itself, w)
ring_above m (suc n) p w =
    let b = ring_below m p w in
    let r = ring_above m n b.0 b.3 in
    (r.0, above_last m n r.0 b.0 p b.1 r.1 b.2, r.2)

above_joined : (m : Contents) (n k o q p : ℕ) → Above m n o q → Above m k q p → Above m (n + k) o p
above_joined m zero k o q p itself b = subst (λ j. Above m j o p) (omega arith) b
above_joined m (suc n) k o q p (upwards {q = r} f h a) b = subst (λ j. Above m j o p) (omega arith) (upwards f h (above_joined m n k r q p a b))

first_up : (m : Contents) (n o p : ℕ) → Above m (suc n) o p → (q : ℕ) × (f : ℕ) × (contains m q f o ≡ true) × Above m n q p
first_up m n o p (upwards {q = q} f h a) = (q, f, h, a)

no_step : (m : Contents) (o p : ℕ) → Above m zero o p → o ≡ p
no_step m o p itself = refl

above_split : (m : Contents) (n k o p : ℕ) → Above m (n + k) o p → (q : ℕ) × Above m n o q × Above m k q p
above_split m zero k o p a = (o, itself, subst (λ j. Above m j o p) (omega arith) a)
above_split m (suc n) k o p a =
    let u = first_up m (n + k) o p (subst (λ j. Above m j o p) (omega arith) a) in
    let s = above_split m n k u.0 p u.3 in
    (s.0, upwards u.1 u.2 s.1, s.2)

module _ (m : Contents) (rs : List Record) (kept : Kept m rs) (once : AreContainedOnce m) where
  live_container : (p f o : ℕ) → contains m p f o ≡ true → IsSome (kind m p)
  live_container p f o h = let c = container_place m rs kept p f o h in subst (λ o. IsSome (kind m o)) c.3 (live_at m rs kept c.0 c.1 c.2)

  ring_up : (q f o : ℕ) → IsSome (kind m o) → contains m q f o ≡ true → Within m o o → Within m q q
  ring_up q f o live h (directly g k) = let s = once o q o f g live h k in subst (λ x. Within m x x) (sym s.0) (directly g k)
  ring_up q f o live h (through {q = r} g w k) = let s = once o q r f g live h k in within_under m q f o q h (subst (Within m o) (sym s.0) w)

  ring_over : (n o p : ℕ) → IsSome (kind m o) → Above m n o p → Within m o o → Within m p p
  ring_over zero o p live itself w = w
  ring_over (suc n) o p live (upwards {q = q} f h a) w = ring_over n q p (live_container q f o h) a (ring_up q f o live h w)

  same_above : (n o p q : ℕ) → IsSome (kind m o) → Above m n o p → Above m n o q → p ≡ q
  same_above zero o p q live a b = sym (no_step m o p a) ∙ no_step m o q b
  same_above (suc n) o p q live a b =
      let u = first_up m n o p a in
      let v = first_up m n o q b in
      same_above n u.0 p q (live_container u.0 u.1 o u.2) u.3 (subst (λ x. Above m n x q) (sym (once o u.0 v.0 u.1 v.1 live u.2 v.2).0) v.3)

  -- how many live objects stand above an object
  up_count : ℕ → ℕ
  up_count o = length (filter (λ q. is_within m q o) (keys m.kinds))

  -- without a ring fewer stand above a container
  up_falls : (q f o : ℕ) → contains m q f o ≡ true → (Within m q q → ⊥) → up_count q < up_count o
  unfolding up_count
  up_falls q f o h apart =
      one_fewer (λ x. is_within m x q) (λ x. is_within m x o) (keys m.kinds) q
      (λ x w. (is_within-decides m x o).1 (through f ((is_within-decides m x q).0 w) h))
      (live_In m q (live_container q f o h))
      (false_from_ne_true _ (λ w. apart ((is_within-decides m q q).0 w)))
      ((is_within-decides m q o).1 (directly f h))

  up_inside : (o : ℕ) → IsSome (kind m o) → (Within m o o → ⊥) → up_count o < len m.kinds
  unfolding up_count
  up_inside o live apart =
      let less = one_fewer (λ x. is_within m x o) (λ x. true) (keys m.kinds) o (λ x w. refl) (live_In m o live) (false_from_ne_true _ (λ w. apart ((is_within-decides m o o).0 w))) refl in
      let all = all_pass (keys m.kinds) in
      let keys_are = length-map (entries m.kinds) (λ (e : ℕ × ℕ). e.0) in
      omega (arith, less, all, keys_are, len-entries m.kinds)

  steps_counted : (n o p : ℕ) → IsSome (kind m o) → Above m n o p → (Within m p p → ⊥) → n + up_count p ≤ up_count o
  steps_counted zero o p live a apart = subst (λ x. 0 + up_count p ≤ up_count x) (sym (no_step m o p a)) (omega arith)
  steps_counted (suc n) o p live a apart =
      let u = first_up m n o p a in
      let live_up = live_container u.0 u.1 o u.2 in
      let rest = steps_counted n u.0 p live_up u.3 apart in
      let less = up_falls u.0 u.1 o u.2 (λ w. apart (ring_over n u.0 p live_up u.3 w)) in
      omega (arith, rest, less)

  -- what is above another by as many steps as there are objects is on a ring
  far_is_ring : (n o p : ℕ) → IsSome (kind m o) → len m.kinds ≤ n → Above m n o p → is_within m p p ≡ true
  far_is_ring n o p live far a = ⊎_elim (λ h. h) (λ f.
      let apart : Within m p p → ⊥ = λ w. both_ways _ f ((is_within-decides m p p).1 w) in
      let most = steps_counted n o p live a apart in
      let less = up_inside o live (λ w. apart (ring_over n o p live a w)) in
      absurd (omega (arith, most, less, far))) (cases_Bool (is_within m p p))

-- ---- places

module _ (m : Contents) (rs : List Record) (kept : Kept m rs) (hs : List (Option Link)) (knows : KnowsHolders m rs hs) where
  pub container_found : (at : ℕ) (l : Link) → at < length rs → slice_get hs at ≡ Some (Some l) → (found : Option ℕ) → IsPlaceOf id_of rs l.container found → (d : Record) → IsContainerPlace m rs (id_of (get_or rs at d)) found
  container_found at l within e None none d =
      let held = knows.held at (get_or rs at d) l (slice_get-get_or rs at d within) e in
      let c = container_place m rs kept l.container l.feature (id_of (get_or rs at d)) held in
      absurd (none c.0 c.1 (slice_get_within rs c.0 c.1 c.2) (ap id_of (get_or_from_slice_get rs c.0 c.1 c.1 c.2) ∙ c.3))
  container_found at l within e (Some j) p d =
      let held = knows.held at (get_or rs at d) l (slice_get-get_or rs at d within) e in
      let g = place_get id_of rs l.container j p in
      record { container = g.0; feature = l.feature; is_at = g.1; holds = subst (λ p. contains m p l.feature (id_of (get_or rs at d)) ≡ true) (sym g.2) held }

place_read : (i : ℕ) (p : Option ℕ) → is_place i p ≡ true → p ≡ Some i
place_read i None h = absurd (false≢true h)
place_read i (Some k) h = ap Some (eqb-true k i h)

got_push : (xs : List (Option ℕ)) (p q : Option ℕ) (i : ℕ) → slice_get (xs ++ p ∷ []) i ≡ Some q → (slice_get xs i ≡ Some q) ⊎ ((i ≡ length xs) × (p ≡ q))
got_push [] p q zero e = inr (refl, same_Some p q e)
got_push [] p q (suc i) e = absurd (none-some q e)
got_push (x ∷ xs) p q zero e = inl e
got_push (x ∷ xs) p q (suc i) e = ⊎_elim (λ h. inl h) (λ r. inr (ap suc r.0, r.1)) (got_push xs p q i e)

-- the containers of the first objects
pub record Placed (m : Contents) (rs : List Record) (k : ℕ) (above : List (Option ℕ)) : Type 0 where
  pub each : length above ≡ k
  pub at : (i : ℕ) (r : Record) (p : Option ℕ) → slice_get rs i ≡ Some r → slice_get above i ≡ Some p → IsContainerPlace m rs r.id p

pub none_placed : (m : Contents) (rs : List Record) (above : List (Option ℕ)) → above ≡ [] → Placed m rs 0 above
none_placed m rs above e = record {
  each = ap (λ (ps : List (Option ℕ)). length ps) e;
  at = λ i r p f g. absurd (none-some p (subst (λ (ps : List (Option ℕ)). slice_get ps i ≡ Some p) e g));
}

pub placed_more : (m : Contents) (rs : List Record) (k : ℕ) (above next : List (Option ℕ)) (p : Option ℕ) → Placed m rs k above → ((d : Record) → IsContainerPlace m rs (id_of (get_or rs k d)) p) → next ≡ above ++ p ∷ [] → Placed m rs (k + 1) next
placed_more m rs k above next p placed is e = record {
  each = let a = ap (λ (ps : List (Option ℕ)). length ps) e in let b = length-append above (p ∷ []) in omega (arith, a, b, placed.each);
  at = λ i r q f g. ⊎_elim
      (λ old. placed.at i r q f old)
      (λ new. subst (IsContainerPlace m rs r.id) new.1 (subst (λ x. IsContainerPlace m rs x p) (ap id_of (ap (λ j. get_or rs j r) (sym placed.each ∙ sym new.0) ∙ get_or_from_slice_get rs i r r f)) (is r)))
      (got_push above p q i (subst (λ (ps : List (Option ℕ)). slice_get ps i ≡ Some q) e g));
}

pub placed_above : (m : Contents) (rs : List Record) (k : ℕ) (above : List (Option ℕ)) → length rs ≤ k → k ≤ length rs → Placed m rs k above → IsAbove m rs 1 above
placed_above m rs k above low high placed = record {
  each = omega (arith, low, high, placed.each);
  some = λ i j r e g. let c = placed.at i r (Some j) e g in (c.container, c.is_at, upwards c.feature c.holds itself);
  none = λ i r e g p a. let u = first_up m 0 r.id p a in false≢true (sym (placed.at i r None e g u.0 u.1) ∙ u.2);
}

module _ (m : Contents) (rs : List Record) (kept : Kept m rs) (once : AreContainedOnce m) where
  module _ (n : ℕ) (above : List (Option ℕ)) (is : IsAbove m rs n above) where
    at_place : (i : ℕ) (r : Record) → slice_get rs i ≡ Some r → (p : Option ℕ) × (slice_get above i ≡ Some p)
    at_place i r e = element_at above i (omega (arith, slice_get_within rs i r e, is.each))

    beyond_read : (k : ℕ) (p : Option ℕ) → slice_get above k ≡ Some p → beyond above (Some k) ≡ p
    beyond_read k p e = ap (λ o. option_map_or (λ place. place) o None) e

    twice_some : (i j : ℕ) (r : Record) (p : Option ℕ) → slice_get rs i ≡ Some r → slice_get above i ≡ Some p → beyond above p ≡ Some j → (q : Record) × (slice_get rs j ≡ Some q) × Above m (n + n) r.id q.id
    twice_some i j r None e f g = absurd (none-some j g)
    twice_some i j r (Some k) e f g =
        let a = is.some i k r e f in
        let p = at_place k a.0 a.1 in
        let b = is.some k j a.0 a.1 (p.1 ∙ ap Some (sym (beyond_read k p.0 p.1) ∙ g)) in
        (b.0, b.1, above_joined m n n r.id a.0.id b.0.id a.2 b.2)

    twice_none : (i : ℕ) (r : Record) (p : Option ℕ) → slice_get rs i ≡ Some r → slice_get above i ≡ Some p → beyond above p ≡ None → (o : ℕ) → Above m (n + n) r.id o → ⊥
    twice_none i r None e f g o a = let s = above_split m n n r.id o a in is.none i r e f s.0 s.1
    twice_none i r (Some k) e f g o a =
        let s = above_split m n n r.id o a in
        let b = is.some i k r e f in
        let p = at_place k b.0 b.1 in
        let same = same_above m rs kept once n r.id s.0 b.0.id (live_at m rs kept i r e) s.1 b.2 in
        is.none k b.0 b.1 (p.1 ∙ ap Some (sym (beyond_read k p.0 p.1) ∙ g)) o (subst (λ x. Above m n x o) same s.2)

    read_twice : (i : ℕ) (p q : Option ℕ) → slice_get above i ≡ Some p → slice_get (map (beyond above) above) i ≡ Some q → beyond above p ≡ q
    read_twice i p q e f = same_Some (beyond above p) q (sym (slice_get-map (beyond above) above i ∙ ap (option_map (beyond above)) e) ∙ f)

    pub above_twice : IsAbove m rs (n + n) (map (beyond above) above)
    above_twice = record {
      each = length-map above (beyond above) ∙ is.each;
      some = λ i j r e g. let p = at_place i r e in twice_some i j r p.0 e p.1 (read_twice i p.0 (Some j) p.1 g);
      none = λ i r e g. let p = at_place i r e in twice_none i r p.0 e p.1 (read_twice i p.0 None p.1 g);
    }

  pub far_twice : (steps : ℕ) (above next : List (Option ℕ)) → IsFarAbove m rs steps above → next ≡ map (beyond above) above → IsFarAbove m rs (steps * 2) next
  far_twice steps above next far e = record {
    steps = far.steps + far.steps;
    far = let l = far.far in omega (arith, l);
    is_above = subst (IsAbove m rs (far.steps + far.steps)) (sym e) (above_twice far.steps above far.is_above);
  }

  -- ---- what is met far above

  module _ (above : List (Option ℕ)) (is : IsFarAbove m rs (length rs) above) where
    few : len m.kinds ≤ length rs
    few = let e = ap (λ (es : List (ℕ × ℕ)). length es) (shown-kinds m rs kept.shown kept.plain) in let k = length-map rs kind_entry in omega (arith, e, k, len-entries m.kinds)

    met_on_ring : (i : ℕ) (r : Record) → slice_get rs i ≡ Some r → list_any (is_place i) above ≡ true → is_within m r.id r.id ≡ true
    met_on_ring i r e h =
        let found = any_found (is_place i) above h in
        let p : found.0 ≡ Some i = place_read i found.0 found.2 in
        let c = Contains-In above found.0 found.1 in
        let start = element_at rs c.0 (omega (arith, c.1, is.is_above.each)) in
        let read : slice_get above c.0 ≡ Some (Some i) = slice_get_read above (length above) c.0 found.0 refl c.1 (sym c.2) ∙ ap Some p in
        let a = is.is_above.some c.0 i start.0 start.1 read in
        let same = same_Some a.0 r (sym a.1 ∙ e) in
        far_is_ring m rs kept once is.steps start.0.id r.id (live_at m rs kept c.0 start.0 start.1) (omega (arith, few, is.far)) (subst (λ (q : Record). Above m is.steps start.0.id q.id) same a.2)

    ring_is_met : (i : ℕ) (r : Record) → slice_get rs i ≡ Some r → Within m r.id r.id → list_any (is_place i) above ≡ true
    ring_is_met i r e w =
        let o = ring_above m is.steps r.id w in
        let s = first_step m o.0 o.0 o.2 in
        let c = container_place m rs kept o.0 s.1 s.0 s.2 in
        let a = subst (λ x. Above m is.steps x r.id) (sym c.3) o.1 in
        let p = element_at above c.0 (omega (arith, slice_get_within rs c.0 c.1 c.2, is.is_above.each)) in
        elim p.0 as (λ x. slice_get above c.0 ≡ Some x → list_any (is_place i) above ≡ true) [
          | None ↦ λ f. absurd (is.is_above.none c.0 c.1 c.2 f r.id a)
          | Some j ↦ λ f.
              let b = is.is_above.some c.0 j c.1 c.2 f in
              let same = same_above m rs kept once is.steps c.1.id b.0.id r.id (live_at m rs kept c.0 c.1 c.2) b.2 a in
              let here = place_unique id_of rs r.id j i kept.plain.objects_rise (subst (λ x. IsPlaceOf id_of rs x (Some j)) same (place_at id_of rs j b.0 b.1)) (place_at id_of rs i r e) in
              any_In (is_place i) above (Some j) (In-Contains above (Some j) c.0 (slice_get_within above c.0 (Some j) f) (get_or_from_slice_get above c.0 (Some j) (Some j) f)) (eq-eqb j i here)
        ] p.1

    pub met_is_ring : (i : ℕ) (r : Record) → slice_get rs i ≡ Some r → list_any (is_place i) above ≡ is_within m r.id r.id
    met_is_ring i r e = ⊎_elim
        (λ w. ring_is_met i r e ((is_within-decides m r.id r.id).0 w) ∙ sym w)
        (λ n. false_from_ne_true _ (λ h. both_ways _ n (met_on_ring i r e h)) ∙ sym n)
        (cases_Bool (is_within m r.id r.id))

-- ---- marks

pub record Meeting (places : List (Option ℕ)) (k : ℕ) (met : List Bool) : Type 0 where
  pub each : length met ≡ length places
  pub marked : (j : ℕ) (mark : Bool) → slice_get met j ≡ Some mark → mark ≡ list_any (is_place j) (take k places)

pub meeting_begins : (places : List (Option ℕ)) (met : List Bool) → length met ≡ length places → All (λ m. m ≡ false) met → Meeting places 0 met
meeting_begins places met each none = record {
  each = each;
  marked = λ j mark e. sym (get_or_from_slice_get met j mark mark e) ∙ none j mark (slice_get_within met j mark e);
}

or_false : (b : Bool) → b ≡ (b || false)
or_false true = refl
or_false false = refl

or_true : (b : Bool) → true ≡ (b || true)
or_true true = refl
or_true false = refl

met_next : (met : List Bool) (j : ℕ) (mark old : Bool) (p : Option ℕ) → slice_get (with_met met p) j ≡ Some mark → (slice_get met j ≡ Some old) → mark ≡ (old || (is_place j p || false))
met_next met j mark old None e f = same_Some mark old (sym e ∙ f) ∙ or_false old
met_next met j mark old (Some k) e f = ⊎_elim
    (λ s. same_Some mark true (sym e ∙ subst (λ x. slice_get (set met x true) j ≡ Some true) (sym s) (get-set_same met j true old f)) ∙ or_true old ∙ ap (λ b. old || (b || false)) (sym (eq-eqb k j s)))
    (λ n. same_Some mark old (sym e ∙ get-set_other met k j true n ∙ f) ∙ or_false old ∙ ap (λ b. old || (b || false)) (sym (ne_eqb k j n)))
    (decide k j)

length-with_met : (met : List Bool) (p : Option ℕ) → length (with_met met p) ≡ length met
length-with_met met None = refl
length-with_met met (Some k) = length-set met k true

pub meeting_more : (places : List (Option ℕ)) (k : ℕ) (met next : List Bool) (p : Option ℕ) → k < length places → p ≡ get_or places k p → Meeting places k met → next ≡ with_met met p → Meeting places (k + 1) next
meeting_more places k met next p within read meeting e = record {
  each = ap (λ (ms : List Bool). length ms) e ∙ length-with_met met p ∙ meeting.each;
  marked = λ j mark f.
      let g = subst (λ (ms : List Bool). slice_get ms j ≡ Some mark) e f in
      let old = element_at met j (let l = slice_get_within (with_met met p) j mark g in let s = length-with_met met p in omega (arith, l, s)) in
      met_next met j mark old.0 p g old.1
      ∙ ap (λ b. b || (is_place j p || false)) (meeting.marked j old.0 old.1)
      ∙ sym (ap (list_any (is_place j)) (take_more places k p within ∙ ap (λ x. take k places ++ x ∷ []) (sym read)) ∙ list_any-append (is_place j) (take k places) (p ∷ []));
}

pub meeting_ends : (places : List (Option ℕ)) (k : ℕ) (met : List Bool) → length places ≤ k → Meeting places k met → AreMet places met
meeting_ends places k met h meeting = record {
  each = meeting.each;
  marked = λ j mark e. meeting.marked j mark e ∙ ap (list_any (is_place j)) (take_all k places h);
}

-- the same, where the place is read at another default
pub meeting_reads : (places : List (Option ℕ)) (k : ℕ) (met next : List Bool) (d : Option ℕ) → k < length places → Meeting places k met → next ≡ with_met met (get_or places k d) → Meeting places (k + 1) next
meeting_reads places k met next d within = meeting_more places k met next (get_or places k d) within (get_or_default places k d (get_or places k d) within)
