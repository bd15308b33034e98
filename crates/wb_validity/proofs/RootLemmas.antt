-- Roots taken up one by one, until all objects in no containment slot are met.
use Rattle.std.proofs.Common.{◌≡◌, ◌≢◌, ℕ, ◌+◌, ◌<◌, ◌≤◌, suc, zero, Bool, true, false, not, ◌&&◌, ◌||◌, List, [], ◌∷◌, ◌++◌, length, get_or, take, All, Option, Some, None, refl, sym, ap, subst, ◌∙◌, eqb, arith, ⊎_elim}
use Rattle.std.proofs.Math.ListN.{set, length-set}
use Rattle.std.proofs.lemmas.Bool.{and_parts, eqb-true, false≢true, not-true}
use Rattle.std.proofs.lemmas.Bool.Decides.{nat_tests}
use Rattle.std.proofs.lemmas.Option.{same_Some, get_or_from_slice_get, slice_get_within}
use Rattle.std.proofs.lemmas.List.{take_more}
use Rattle.std.proofs.lemmas.List.Folds.{list_any-append}
use Rattle.std.specs.Bool.{OnTrue, OnFalse}
use Rattle.std.specs.Option.{IsSome}
use Rattle.std.specs.List.{slice_get, list_any}
use Rattle.wb_store.specs.declared.containment.Link.{Link}
use Rattle.wb_store.specs.declared.records.Record.{Record}
use Rattle.wb_store.specs.Contents.{Contents, contains, kind}
use Rattle.wb_store.specs.Places.{rises, IsPlaceOf, once}
use Rattle.wb_store.specs.Records.{id_of}
use Rattle.wb_validity.specs.Valid.{RootsAreUncontained}
use Rattle.wb_store.specs.invariants.Links.{Kept, KnowsHolders}
use Rattle.wb_validity.specs.invariants.Roots.{TakesRoot, IsNoRoot, AllSeen, IsUnseen}
use Rattle.wb_validity.specs.invariants.Roots.IsNoRoot.{dead, contained, again}
use Rattle.wb_store.proofs.Found.{is_itself}
use Rattle.wb_store.proofs.Members.{In, any_In, In-append_left, In-append_right, In-append_cases, In-Contains, not_both}
use Rattle.wb_store.proofs.Members.In.{here, there}
use Rattle.wb_store.proofs.HolderLemmas.{decide, get-set_same, get-set_other, place_not_both, place_unique}
use Rattle.wb_validity.proofs.LinkLemmas.{any_found, place_at, place_get, live_place, live_at}
use Rattle.wb_validity.proofs.Climbing.{element_at}

-- ---- lists in which each number stands once

among : (xs : List ℕ) (o : ℕ) → In o xs → list_any (λ other. eqb other o) xs ≡ true
among xs o m = any_In (λ other. eqb other o) xs o m (is_itself o)

from_among : (xs : List ℕ) (o : ℕ) → list_any (λ other. eqb other o) xs ≡ true → In o xs
from_among xs o h = let f = any_found (λ other. eqb other o) xs h in subst (λ x. In x xs) (eqb-true f.0 o f.2) f.1

apart : (a b : ℕ) → a ≢ b → eqb a b ≡ false
apart a b h = grind (arith, nat_tests)

once-push : (xs : List ℕ) (o : ℕ) → once xs ≡ true → (In o xs → ⊥) → once (xs ++ o ∷ []) ≡ true
once-push [] o h n = refl
once-push (x ∷ xs) o h n =
    let here_not : list_any (λ other. eqb other x) xs ≡ false = not-true _ (and_parts _ _ h).0 in
    let new_not : eqb o x ≡ false = apart o x (λ e. n (subst (λ z. In o (z ∷ xs)) e here)) in
    let none : list_any (λ other. eqb other x) (xs ++ o ∷ []) ≡ false =
    list_any-append (λ other. eqb other x) xs (o ∷ []) ∙ (λ i. here_not i || (new_not i || false)) in
    let rest = once-push xs o (and_parts _ _ h).1 (λ m. n (there m)) in
    λ i. not (none i) && rest i

once-take : (xs : List ℕ) (k o : ℕ) → k < length xs → o ≡ get_or xs k o → In o (take k xs) → once xs ≡ true → ⊥
once-take [] k o l e m h = absurd (omega arith)
once-take (x ∷ xs) zero o l e m h = elim m [ ]
once-take (x ∷ xs) (suc k) o l e here h = not_both _ (among xs o (In-Contains xs o k (omega arith) (sym e))) (and_parts _ _ h).0
once-take (x ∷ xs) (suc k) o l e (there m) h = once-take xs k o (omega arith) e m (and_parts _ _ h).1

take_all : (xs : List ℕ) (k : ℕ) → length xs ≤ k → take k xs ≡ xs
take_all [] zero h = refl
take_all [] (suc k) h = refl
take_all (x ∷ xs) zero h = absurd (omega arith)
take_all (x ∷ xs) (suc k) h = ap (λ ys. x ∷ ys) (take_all xs k (omega arith))

-- ---- the roots that were taken up

pub record Seen (rs : List Record) (hs : List (Option Link)) (os : List ℕ) (seen : List Bool) : Type 0 where
  pub each : length seen ≡ length rs
  pub once : once os ≡ true
  pub rooted : (o : ℕ) → In o os → (i : ℕ) × IsPlaceOf id_of rs o (Some i) × (slice_get hs i ≡ Some None) × (slice_get seen i ≡ Some true)
  pub only : (i : ℕ) (r : Record) → slice_get rs i ≡ Some r → slice_get seen i ≡ Some true → In r.id os

none_true : (seen : List Bool) → All (λ s. s ≡ false) seen → (i : ℕ) → slice_get seen i ≡ Some true → ⊥
none_true seen none i e = false≢true (sym (none i true (slice_get_within seen i true e)) ∙ get_or_from_slice_get seen i true true e)

pub seen_none : (rs : List Record) (hs : List (Option Link)) (seen : List Bool) → length seen ≡ length rs → All (λ s. s ≡ false) seen → Seen rs hs [] seen
seen_none rs hs seen each none = record {
  each = each;
  once = refl;
  rooted = λ o m. elim m [ ];
  only = λ i r e s. absurd (none_true seen none i s);
}

module _ (rs : List Record) (rise : rises id_of rs ≡ true) (hs : List (Option Link)) (os : List ℕ) (seen : List Bool) (state : Seen rs hs os seen) (o : ℕ) where
  new_root : (next : List Bool) → TakesRoot rs hs o seen next → In o os → ⊥
  new_root next takes m =
      let p = state.rooted o m in
      let s = place_unique id_of rs o p.0 takes.place rise p.1 takes.is_place in
      false≢true (same_Some false true (sym takes.unseen ∙ subst (λ i. slice_get seen i ≡ Some true) s p.3))

  set_true : (place : ℕ) → slice_get seen place ≡ Some false → slice_get (set seen place true) place ≡ Some true
  set_true place e = get-set_same seen place true false e

  stays_true : (place i : ℕ) → slice_get seen place ≡ Some false → slice_get seen i ≡ Some true → slice_get (set seen place true) i ≡ Some true
  stays_true place i e s = ⊎_elim (λ p. subst (λ k. slice_get (set seen place true) k ≡ Some true) p (set_true place e)) (λ n. get-set_other seen place i true n ∙ s) (decide place i)

  pub seen_more : (next : List Bool) → TakesRoot rs hs o seen next → Seen rs hs (os ++ o ∷ []) next
  seen_more next takes = subst (Seen rs hs (os ++ o ∷ [])) (sym takes.after) (record {
    each = length-set seen takes.place true ∙ state.each;
    once = once-push os o state.once (new_root next takes);
    rooted = λ x m. ⊎_elim
        (λ old. let p = state.rooted x old in (p.0, p.1, p.2, stays_true takes.place p.0 takes.unseen p.3))
        (λ new. subst (λ x. (i : ℕ) × IsPlaceOf id_of rs x (Some i) × (slice_get hs i ≡ Some None) × (slice_get (set seen takes.place true) i ≡ Some true)) (sym (single x o new)) (takes.place, takes.is_place, takes.free, set_true takes.place takes.unseen))
        (In-append_cases os (o ∷ []) x m);
    only = λ i r e s. ⊎_elim
        (λ p. let id : r.id ≡ o = ap id_of (sym (get_or_from_slice_get rs i r r e)) ∙ ap (λ k. id_of (get_or rs k r)) (sym p) ∙ takes.is_place.1 r in
        In-append_right os (o ∷ []) r.id (subst (λ x. In x (o ∷ [])) (sym id) here))
        (λ n. In-append_left os (o ∷ []) r.id (state.only i r e (sym (get-set_other seen takes.place i true n) ∙ s)))
        (decide takes.place i);
  })
    where
      single : (x y : ℕ) → In x (y ∷ []) → x ≡ y
      single x y here = refl
      single x y (there m) = elim m [ ]

module _ (m : Contents) (rs : List Record) (kept : Kept m rs) (hs : List (Option Link)) (knows : KnowsHolders m rs hs) where
  pub refused : (k o : ℕ) (seen : List Bool) → Seen rs hs (take k m.roots) seen → k < length m.roots → o ≡ get_or m.roots k o → IsNoRoot rs hs o seen → RootsAreUncontained m → ⊥
  refused k o seen state l e (dead none) rooted =
      let w = live_place m rs kept o (rooted.live o (among m.roots o (In-Contains m.roots o k l (sym e)))) in
      place_not_both id_of rs o w.0 none (subst (λ n. IsPlaceOf id_of rs n (Some w.0)) w.3 (place_at id_of rs w.0 w.1 w.2))
  refused k o seen state l e (contained i h p f) rooted =
      let g = place_get id_of rs o i p in
      false≢true (sym (rooted.uncontained o h.container h.feature (among m.roots o (In-Contains m.roots o k l (sym e)))) ∙ subst (λ n. contains m h.container h.feature n ≡ true) g.2 (knows.held i g.0 h g.1 f))
  refused k o seen state l e (again i p s) rooted =
      let g = place_get id_of rs o i p in
      once-take m.roots k o l e (subst (λ n. In n (take k m.roots)) g.2 (state.only i g.0 g.1 s)) rooted.each_once

  module _ (k : ℕ) (seen : List Bool) (state' : Seen rs hs (take k m.roots) seen) (whole : length m.roots ≤ k) where
    state : Seen rs hs m.roots seen
    state = subst (λ os. Seen rs hs os seen) (take_all m.roots k whole) state'

    pub rooted_all : AllSeen hs seen → RootsAreUncontained m
    rooted_all all = record {
      each_once = state.once;
      live = λ o h. let p = state.rooted o (from_among m.roots o h) in let g = place_get id_of rs o p.0 p.1 in subst (λ n. IsSome (kind m n)) g.2 (live_at m rs kept p.0 g.0 g.1);
      uncontained = λ o p f h. let w = state.rooted o (from_among m.roots o h) in let g = place_get id_of rs o w.0 w.1 in subst (λ n. contains m p f n ≡ false) g.2 (knows.free w.0 g.0 g.1 w.2 p f);
      all = λ o live free.
          let w = live_place m rs kept o live in
          let h = element_at hs w.0 (omega (arith, slice_get_within rs w.0 w.1 w.2, knows.each)) in
          among m.roots o (subst (λ n. In n m.roots) w.3 (elim h.0 as (λ x. slice_get hs w.0 ≡ Some x → In w.1.id m.roots) [
            | None ↦ λ e. state.only w.0 w.1 w.2 (all w.0 e)
            | Some l ↦ λ e. absurd (false≢true (sym (free l.container l.feature) ∙ subst (λ n. contains m l.container l.feature n ≡ true) w.3 (knows.held w.0 w.1 l w.2 e)))
          ] h.1));
    }

    pub unseen_one : IsUnseen hs seen → RootsAreUncontained m → ⊥
    unseen_one unseen rooted =
        let w = element_at rs unseen.place (omega (arith, slice_get_within hs unseen.place None unseen.free, knows.each)) in
        let root = rooted.all w.0.id (live_at m rs kept unseen.place w.0 w.1) (knows.free unseen.place w.0 w.1 unseen.free) in
        let p = state.rooted w.0.id (from_among m.roots w.0.id root) in
        let s = place_unique id_of rs w.0.id p.0 unseen.place kept.plain.objects_rise p.1 (place_at id_of rs unseen.place w.0 w.1) in
        false≢true (same_Some false true (sym unseen.unseen ∙ subst (λ i. slice_get seen i ≡ Some true) s p.3))

pub decided : (b : Bool) (P Q R : Type 0) → OnTrue b P → OnFalse b Q → (P → R) → (Q → R → ⊥) → (b ≡ true → R) × (R → b ≡ true)
decided true P Q R p q f g = (λ _. f p, λ _. refl)
decided false P Q R p q f g = (λ e. absurd (false≢true e), λ r. absurd (g q r))

pub seen_next : (rs : List Record) → rises id_of rs ≡ true → (hs : List (Option Link)) (roots : List ℕ) (k o : ℕ) (seen next : List Bool) → k < length roots → o ≡ get_or roots k o
    → Seen rs hs (take k roots) seen → TakesRoot rs hs o seen next → Seen rs hs (take (k + 1) roots) next
seen_next rs rise hs roots k o seen next l e state takes =
    subst (λ os. Seen rs hs os next) (sym (take_more roots k o l ∙ ap (λ x. take k roots ++ x ∷ []) (sym e))) (seen_more rs rise hs (take k roots) seen state o next takes)
