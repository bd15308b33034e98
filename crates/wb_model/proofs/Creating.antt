-- A new object as the code makes it: its place is taken first, and then the object comes.
use Rattle.std.proofs.Common.{◌≡◌, ℕ, ◌<◌, ◌^◌, true, false, not, ◌&&◌, List, [], ◌∷◌, ◌++◌, length, Option, Some, None, refl, sym, ap, subst, ◌∙◌, cond, ltb, leb, eqb, arith, suc}
use Rattle.std.proofs.lemmas.Bool.{and_parts, and_from, false≢true, eqb-true, lt-ltb, ltb-true, eq-eqb}
use Rattle.std.proofs.lemmas.Bool.Decides.{nat_tests}
use Rattle.std.proofs.lemmas.Option.{slice_get_within}
use Rattle.std.specs.Prelude.{filter, IsSome}
use Rattle.std.specs.Option.{option_map_or}
use Rattle.std.specs.List.{list_any, list_all}
use Rattle.std.specs.FinMap.{get, insert}
use Rattle.wb_metamodel.specs.Metamodel.{Metamodel}
use Rattle.wb_metamodel.specs.WellFormed.{WellFormed}
use Rattle.wb_store.specs.declared.scalars.Scalar.TheVariants.{Object}
use Rattle.wb_store.specs.declared.scalars.Place.TheVariants.{Root, In as Inside}
use Rattle.wb_store.specs.declared.records.Slot.{Slot}
use Rattle.wb_store.specs.Contents.{Contents, kind, slot, is_containment, contains}
use Rattle.wb_store.specs.Places.{rises}
use Rattle.wb_store.specs.Records.{values_in, is_known_slot, feature_of}
use Rattle.wb_store.specs.Features.{opposite}
use Rattle.wb_validity.specs.Valid.{IsValid}
use Rattle.wb_store.specs.Relinking.{Link, link, back, other_end, both_ends, change, is_at, stands, without_root}
use Rattle.wb_model.specs.Edits.{with_object, created}
use Rattle.wb_store.specs.LinkSteps.{with_link, with_root, Grows, back_slots}
use Rattle.wb_model.proofs.Ends.{opposites}
use Rattle.wb_validity.proofs.LinkLemmas.{to_false}
use Rattle.wb_model.proofs.Live.{contained-live, kind-some}
use Rattle.wb_model.proofs.MoveSteps.{place-free}
use Rattle.wb_store.proofs.Members.{In, any_In}
use Rattle.wb_store.proofs.Members.In.{here, there}
use Rattle.wb_store.proofs.Relinked.{values_at, slot-relink, slot-change, same_contents, next-relink, roots-relink, kinds-relink, metamodel-relink, none-any}
use Rattle.wb_store.proofs.Relinks.{filter_none, same_test, eqb_sym}
use Rattle.wb_model.proofs.Sound.{contains-from, stands-In}
use Rattle.wb_model.proofs.KeptLinks.{sound, housed}

eqb_apart : (a b : ℕ) → a < b → eqb a b ≡ false
eqb_apart a b h = grind (arith, nat_tests)

pub fits_next : (n : ℕ) → leb (2 ^ 32) (suc n) ≡ false → suc n < 2 ^ 32
fits_next n h = grind (arith, nat_tests)

-- every live object has a number below the next
pub live_below : (m : Contents) → IsValid m → (o : ℕ) → IsSome (kind m o) → o < m.next
live_below m valid o live =
    let c = kind-some m o live in
    ltb-true o m.next (and_parts (ltb 0 o) (ltb o m.next) ((sound m valid).numbers o c.0 c.1)).1

pub live_after : (m n : Contents) → IsValid m → ((o : ℕ) → kind n o ≡ kind m o) → n.next ≡ m.next → (o : ℕ) → IsSome (kind n o) → o < n.next
live_after m n valid kinds next o live = subst (λ k. o < k) (sym next) (live_below m valid o (subst IsSome (kinds o) live))

pub kind_linked : (m n : Contents) (l : Link) → n ≡ with_link l m → (o : ℕ) → kind n o ≡ kind m o
kind_linked m n l e o = ap (λ (m : Contents). kind m o) e ∙ ap (λ ks. get ks o) (kinds-relink _ _ m)

not_below : (n : ℕ) → n < n → ⊥
not_below n h = omega (arith, h)

module _ (m : Contents) (valid : IsValid m) where
  -- an object that is yet to come has no values
  slot_next : (o f : ℕ) → o ≡ m.next → slot m o f ≡ []
  slot_next o f e =
      elim (slot m o f) as (λ vs. slot m o f ≡ vs → vs ≡ []) [
        | [] ↦ λ h. refl
        | v ∷ vs ↦ λ h.
            let of_class = (sound m valid).of_class (link o f v) (subst (In v) (sym h) here) in
            absurd (not_below m.next (subst (λ o. o < m.next) e (live_below m valid o (live_of (kind m o) of_class))))
      ] refl
    where
      live_of : (r : Option ℕ) → option_map_or (λ c. Rattle.wb_validity.specs.Valid.has_feature m.metamodel c f) r false ≡ true → IsSome r
      live_of None h = absurd (false≢true h)
      live_of (Some c) h = refl

  -- and stands in no containment slot
  next_uncontained : (q g : ℕ) → contains m q g m.next ≡ false
  next_uncontained q g = to_false _ (λ c. not_below m.next (live_below m valid m.next (contained-live m (sound m valid) q g m.next c)))

  pub next_stands_nowhere : (p f o : ℕ) → o ≡ m.next → is_containment m.metamodel f ≡ true → stands m (link p f (Object o)) ≡ false
  next_stands_nowhere p f o e c =
      to_false (stands m (link p f (Object o)))
      (λ t.
      let live = contained-live m (sound m valid) p f o (contains-from m p f o c (stands-In m (link p f (Object o)) t)) in
      not_below m.next (subst (λ o. o < m.next) e (live_below m valid o live)))

  keeps : (os : List ℕ) (n : ℕ) → ((o : ℕ) → In o os → o < n) → filter (λ root. not (eqb root n)) (os ++ n ∷ []) ≡ os
  keeps [] n h = ap (λ b. cond (not b) (n ∷ []) []) (eq-eqb n n refl)
  keeps (o ∷ os) n h = ap (λ b. cond (not b) (o ∷ filter (λ root. not (eqb root n)) (os ++ n ∷ [])) (filter (λ root. not (eqb root n)) (os ++ n ∷ []))) (eqb_apart o n (h o here)) ∙ ap (λ ks. o ∷ ks) (keeps os n (λ p i. h p (there i)))

  -- the place among the roots is given back
  pub root_undone : (o : ℕ) → o ≡ m.next → without_root o (with_root o m) ≡ m
  root_undone o e =
      let roots = keeps m.roots o (λ q i. subst (λ n. q < n) (sym e) (live_below m valid q ((housed m valid).roots.live q (any_In (λ root. eqb root q) m.roots q i (eq-eqb q q refl))))) in
      λ i. record { metamodel = m.metamodel; next = m.next; kinds = m.kinds; slots = m.slots; roots = roots i }

  none_at : (q h : ℕ) → cond (eqb q m.next) [] (slot m q h) ≡ slot m q h
  none_at q h =
      elim (eqb q m.next) as (λ b. eqb q m.next ≡ b → cond b [] (slot m q h) ≡ slot m q h) [
        | true ↦ λ t. sym (slot_next q h (eqb-true q m.next t))
        | false ↦ λ t. refl
      ] refl

  pub created_root : (u n : Contents) (class o : ℕ) (slots : List Slot) → o ≡ m.next → u ≡ with_root o m → slots ≡ [] → Grows class slots u n → n ≡ created class Root m
  created_root u n class o slots e r s g =
      same_contents n (created class Root m)
      (g.metamodel ∙ ap (λ (m : Contents). m.metamodel) r)
      (g.next ∙ ap (λ (m : Contents). suc m.next) r)
      (g.roots ∙ ap (λ (m : Contents). m.roots) r ∙ ap (λ o. m.roots ++ o ∷ []) e)
      (λ q. ap (λ ks. get ks q) (g.kinds ∙ (λ i. insert (r i).kinds (r i).next class)))
      (λ q h. g.at q h ∙ (λ i. cond (eqb q (r i).next) (values_in h (s i)) (slot (r i) q h)) ∙ none_at q h)

  -- ---- in a containment slot

  ways : ℕ → ℕ → Option ℕ → List Slot
  ways p f r = option_map_or (λ g. record { feature = g; values = Object p ∷ [] } ∷ []) r []

  one_slot : (g h p : ℕ) → values_in h (record { feature = g; values = Object p ∷ [] } ∷ []) ≡ cond (eqb h g) (Object p ∷ []) []
  one_slot g h p = elim (eqb h g) as (λ b. option_map_or (λ (s : Slot). s.values) (cond b (Some (record { feature = g; values = Object p ∷ [] })) None) [] ≡ cond b (Object p ∷ []) []) [ true ↦ refl | false ↦ refl ]

  module _ (p f : ℕ) (live : IsSome (kind m p)) where
    abbrev l : Link
    l = link p f (Object m.next)

    -- the way back stands at the new object alone
    at_new : (q h : ℕ) (r : Option ℕ) → eqb q m.next ≡ true → values_in h (ways p f r) ≡ values_at q h (back p r (Object m.next) ++ [])
    unfolding ways
    at_new q h None t = refl
    at_new q h (Some g) t =
        one_slot g h p
        ∙ ap (λ b. cond b (Object p ∷ []) []) (eqb_sym h g ∙ ap (λ b. b && eqb g h) (sym (eqb_sym m.next q ∙ t)))

    at_old : (q h : ℕ) (r : Option ℕ) → eqb q m.next ≡ false → values_at q h (back p r (Object m.next) ++ []) ≡ []
    at_old q h None t = refl
    at_old q h (Some g) t = ap (λ b. cond (b && eqb g h) (Object p ∷ []) []) (eqb_sym m.next q ∙ t)

    apart : (q : ℕ) → eqb q m.next ≡ true → eqb p q ≡ false
    apart q t = ap (eqb p) (eqb-true q m.next t) ∙ eqb_apart p m.next (live_below m valid p live)

    slots_grown : (q h : ℕ) (r : Option ℕ)
        → cond (eqb q m.next) (values_in h (ways p f r)) (slot m q h ++ values_at q h (l ∷ [])) ≡ slot m q h ++ values_at q h (l ∷ (back p r (Object m.next) ++ []))
    slots_grown q h r =
        let others = back p r (Object m.next) ++ [] in
        elim (eqb q m.next) as (λ b. eqb q m.next ≡ b → cond b (values_in h (ways p f r)) (slot m q h ++ values_at q h (l ∷ [])) ≡ slot m q h ++ values_at q h (l ∷ others)) [
          | true ↦ λ t.
              at_new q h r t
              ∙ ap (λ b. cond (b && eqb f h) (Object m.next ∷ values_at q h others) (values_at q h others)) (sym (apart q t))
              ∙ ap (λ vs. vs ++ values_at q h (l ∷ others)) (sym (slot_next q h (eqb-true q m.next t)))
          | false ↦ λ t. ap (λ vs. slot m q h ++ cond (is_at q h l) (Object m.next ∷ vs) vs) (sym (at_old q h r t))
        ] refl

    -- where nothing leaves, the way back comes with the link
    abbrev linked_in : ℕ → Contents
    linked_in class = change (λ k. false) (l ∷ []) (with_object class m.roots m)

    with_way : (class q h : ℕ) → slot (linked_in class) q h ≡ slot m q h ++ values_at q h (l ∷ (other_end m.metamodel l ++ []))
    with_way class q h =
        slot-change (λ k. false) (l ∷ []) (with_object class m.roots m) q h
        ∙ ap (λ vs. vs ++ values_at q h (l ∷ (other_end m.metamodel l ++ [])))
        (same_test (λ v. not (list_any (λ k. false) (both_ends m.metamodel (link q h v)))) (λ v. true) (λ v. ap not (none-any (both_ends m.metamodel (link q h v)))) (slot m q h) ∙ filter_none (slot m q h))

    linked_slot : (q h : ℕ) → slot (with_link l m) q h ≡ slot m q h ++ values_at q h (l ∷ [])
    linked_slot q h = slot-relink (λ k. false) (l ∷ []) m q h ∙ ap (λ vs. vs ++ values_at q h (l ∷ [])) (filter_none (slot m q h))

    grown_here : (u n : Contents) (class : ℕ) (slots : List Slot) → u ≡ with_link l m → slots ≡ back_slots m.metamodel f p → Grows class slots u n → n ≡ linked_in class
    unfolding ways
    grown_here u n class slots r s g =
        same_contents n (linked_in class)
        (g.metamodel ∙ ap (λ (m : Contents). m.metamodel) r ∙ metamodel-relink _ _ m ∙ sym (metamodel-relink _ _ (with_object class m.roots m)))
        (g.next ∙ ap (λ (m : Contents). suc m.next) r ∙ ap suc (next-relink _ _ m) ∙ sym (next-relink _ _ (with_object class m.roots m)))
        (g.roots ∙ ap (λ (m : Contents). m.roots) r ∙ roots-relink _ _ m ∙ sym (roots-relink _ _ (with_object class m.roots m)))
        (λ q. ap (λ ks. get ks q) (g.kinds ∙ (λ i. insert (r i).kinds (r i).next class) ∙ (λ i. insert (kinds-relink (λ k. false) (l ∷ []) m i) (next-relink (λ k. false) (l ∷ []) m i) class) ∙ sym (kinds-relink _ _ (with_object class m.roots m))))
        (λ q h.
        g.at q h
        ∙ (λ i. cond (eqb q (r i).next) (values_in h (s i)) (slot (r i) q h))
        ∙ (λ i. cond (eqb q (next-relink (λ k. false) (l ∷ []) m i)) (values_in h (back_slots m.metamodel f p)) (linked_slot q h i))
        ∙ slots_grown q h (opposite m.metamodel f)
        ∙ sym (with_way class q h))

    pub created_in : (u n : Contents) (class o : ℕ) (slots : List Slot) → o ≡ m.next → u ≡ with_link (link p f (Object o)) m → slots ≡ back_slots m.metamodel f p → Grows class slots u n → n ≡ created class (Inside p f) m
    created_in u n class o slots e r s g =
        grown_here u n class slots (r ∙ ap (λ o. with_link (link p f (Object o)) m) e) s g
        ∙ sym (place-free (with_object class m.roots m) (sound m valid).agree m.next p f next_uncontained)

pub back_rise : (metamodel : Metamodel) (f p : ℕ) → rises feature_of (back_slots metamodel f p) ≡ true
back_rise metamodel f p = elim (opposite metamodel f) as (λ r. rises feature_of (option_map_or (λ g. record { feature = g; values = Object p ∷ [] } ∷ []) r []) ≡ true) [ None ↦ refl | Some g ↦ refl ]

pub back_known : (metamodel : Metamodel) → WellFormed metamodel → (f p : ℕ) → list_all (is_known_slot metamodel) (back_slots metamodel f p) ≡ true
back_known metamodel well f p =
    elim (opposite metamodel f) as (λ r. opposite metamodel f ≡ r → list_all (is_known_slot metamodel) (option_map_or (λ g. record { feature = g; values = Object p ∷ [] } ∷ []) r []) ≡ true) [
      | None ↦ λ e. refl
      | Some g ↦ λ e. let pair = opposites metamodel well f g e in and_from _ _ (lt-ltb g (length metamodel.features) (slice_get_within metamodel.features g pair.other pair.is_other)) refl
    ] refl
