-- Changes of both ends as steps, each of which changes one slot.
use Rattle.std.proofs.Common.{◌≡◌, ℕ, Bool, true, false, not, ◌&&◌, ◌||◌, List, [], ◌∷◌, ◌++◌, Some, None, refl, sym, ap, subst, ◌∙◌, cond, append_assoc, ◌⊎◌, ⊎_elim}
use Rattle.std.proofs.lemmas.Bool.{and_parts, and_from, or_left, or_right, or_cases}
use Rattle.std.proofs.lemmas.Option.{none-some}
use Rattle.std.proofs.lemmas.List.Elements.{filter-append}
use Rattle.std.specs.Prelude.{filter}
use Rattle.std.specs.List.{list_any, flat_map}
use Rattle.wb_metamodel.specs.Metamodel.{Metamodel}
use Rattle.wb_metamodel.specs.WellFormed.{WellFormed}
use Rattle.wb_store.specs.declared.scalars.Scalar.{Scalar}
use Rattle.wb_store.specs.Scalars.{same}
use Rattle.wb_store.specs.ScalarLaws.{same_decides}
use Rattle.wb_store.specs.Contents.{Contents, slot}
use Rattle.wb_store.specs.Features.{is_many, opposite}
use Rattle.wb_store.specs.Relinking.{Link, link, relink, other_end, both_ends, change, is_at, same_link, gives_way}
use Rattle.wb_model.specs.Edits.{unlink, emptied}
use Rattle.wb_store.specs.LinkSteps.{each_left}
use Rattle.wb_model.proofs.Changed.{both-same}
use Rattle.wb_model.proofs.Ends.{Opposed, other_end-is, other_end-In, In-other_end, In-both_ends, ends-this, ends-that, ends-cases, opposed-unique, opposed-back}
use Rattle.wb_store.proofs.Filtered.{filter-same, filter-twice}
use Rattle.wb_validity.proofs.LinkLemmas.{any_found}
use Rattle.wb_store.proofs.Members.{In, any_In, In-flat_map, flat_map-In}
use Rattle.wb_store.proofs.Members.In.{here, there}
use Rattle.wb_store.proofs.Relinked.{values_at, values_at-append, values_at-filter, is_at-link, is_at-itself, slot-relink, same_contents, none-any}
use Rattle.wb_model.proofs.Sound.{Stands, Sound}
use Rattle.wb_store.proofs.Relinks.{relink_none}

-- ---- relinks of relinks

-- two relinks are one
pub relink-relink : (a b : Link → Bool) (ls ks : List Link) (m : Contents) → relink b ks (relink a ls m) ≡ relink (λ l. a l || b l) (filter (λ l. not (b l)) ls ++ ks) m
unfolding relink
relink-relink a b ls ks m =
    same_contents (relink b ks (relink a ls m)) (relink (λ l. a l || b l) (filter (λ l. not (b l)) ls ++ ks) m) refl refl refl (λ o. refl)
    (λ o f.
    let na : Scalar → Bool = λ v. not (a (link o f v)) in
    let nb : Scalar → Bool = λ v. not (b (link o f v)) in
    let both : List Scalar = filter (λ v. not (a (link o f v) || b (link o f v))) (slot m o f) in
    slot-relink b ks (relink a ls m) o f
    ∙ ap (λ vs. filter nb vs ++ values_at o f ks) (slot-relink a ls m o f)
    ∙ ap (λ vs. vs ++ values_at o f ks) (filter-append nb (filter na (slot m o f)) (values_at o f ls))
    ∙ (λ i. (filter-twice (λ v. a (link o f v)) (λ v. b (link o f v)) (slot m o f) i ++ sym (values_at-filter o f (λ l. not (b l)) ls) i) ++ values_at o f ks)
    ∙ append_assoc both (values_at o f (filter (λ l. not (b l)) ls)) (values_at o f ks)
    ∙ ap (λ vs. both ++ vs) (sym (values_at-append o f (filter (λ l. not (b l)) ls) ks))
    ∙ sym (slot-relink (λ l. a l || b l) (filter (λ l. not (b l)) ls ++ ks) m o f))

-- relinks are the same where they take the same away of what stands, and bring the same to each slot
pub relink-agree : (a b : Link → Bool) (ls ks : List Link) (m : Contents) → ((l : Link) → Stands m l → a l ≡ b l) → ((o f : ℕ) → values_at o f ls ≡ values_at o f ks) → relink a ls m ≡ relink b ks m
unfolding relink
relink-agree a b ls ks m leave come =
    same_contents (relink a ls m) (relink b ks m) refl refl refl (λ o. refl)
    (λ o f.
    slot-relink a ls m o f
    ∙ (λ i. filter-same (λ v. not (a (link o f v))) (λ v. not (b (link o f v))) (slot m o f) (λ v j. ap not (leave (link o f v) j)) i ++ come o f i)
    ∙ sym (slot-relink b ks m o f))

-- nothing leaves, and nothing comes
-- ---- one link leaves

pub same_link-is : (l k : Link) → same_link l k ≡ true → l ≡ k
same_link-is l k h =
    let both = and_parts (is_at l.object l.feature k) (same k.value l.value) h in
    let v : k.value ≡ l.value = (same_decides k.value l.value).0 both.1 in
    ap (link l.object l.feature) (sym v) ∙ sym (is_at-link l.object l.feature k both.0)

pub same_link-itself : (l : Link) → same_link l l ≡ true
same_link-itself l = and_from _ _ (is_at-itself l.object l.feature l.value) ((same_decides l.value l.value).1 refl)

module _ (m : Contents) (well : WellFormed m.metamodel) where
  abbrev ends : Link → List Link
  ends l = both_ends m.metamodel l

  same-alone : (l k : Link) → other_end m.metamodel l ≡ [] → list_any (same_link l) (ends k) ≡ same_link l k
  same-alone l k alone =
      both-same _ _
      (λ h. ⊎_elim
      (λ t. t)
      (λ w.
      let s = same_link-is l w.0 w.2 in
      let none : In k [] = subst (In k) alone (In-other_end m.metamodel l k (opposed-back m.metamodel well k l (subst (Opposed m.metamodel k) (sym s) w.1))) in
      elim none [ ])
      (ends-cases m.metamodel (same_link l) k h))
      (λ h. ends-this m.metamodel (same_link l) k h)

  pub unlink-alone : (l : Link) → other_end m.metamodel l ≡ [] → unlink l m ≡ relink (same_link l) [] m
  unlink-alone l alone = relink-agree (λ k. list_any (same_link l) (ends k)) (same_link l) [] [] m (λ k i. same-alone l k alone) (λ o f. refl)

  same-both : (l k j : Link) → Opposed m.metamodel l k → list_any (same_link l) (ends j) ≡ (same_link l j || same_link k j)
  same-both l k j o =
      both-same _ _
      (λ h. ⊎_elim
      (λ t. or_left _ _ t)
      (λ w.
      let s = same_link-is l w.0 w.2 in
      let e : k ≡ j = opposed-unique m.metamodel l k j o (opposed-back m.metamodel well j l (subst (Opposed m.metamodel j) (sym s) w.1)) in
      or_right (same_link l j) _ (subst (λ z. same_link k z ≡ true) e (same_link-itself k)))
      (ends-cases m.metamodel (same_link l) j h))
      (λ h. ⊎_elim
      (λ t. ends-this m.metamodel (same_link l) j t)
      (λ t.
      let s = same_link-is k j t in
      ends-that m.metamodel (same_link l) j l (subst (λ z. Opposed m.metamodel z l) s (opposed-back m.metamodel well l k o)) (same_link-itself l))
      (or_cases (same_link l j) _ h))

  -- a link leaves, and then its other end
  pub unlink-both : (l k : Link) → Opposed m.metamodel l k → unlink l m ≡ relink (same_link k) [] (relink (same_link l) [] m)
  unlink-both l k o =
      relink-agree (λ j. list_any (same_link l) (ends j)) (λ j. same_link l j || same_link k j) [] [] m (λ j i. same-both l k j o) (λ o f. refl)
      ∙ sym (relink-relink (same_link l) (same_link k) [] [] m)

  -- ---- a slot is emptied

  at-none : (o f : ℕ) (k : Link) → opposite m.metamodel f ≡ None → list_any (is_at o f) (ends k) ≡ is_at o f k
  at-none o f k none =
      both-same _ _
      (λ h. ⊎_elim
      (λ t. t)
      (λ w.
      let back : opposite m.metamodel w.0.feature ≡ Some k.feature = (opposed-back m.metamodel well k w.0 w.1).features in
      absurd (none-some k.feature (sym none ∙ ap (λ (x : Link). opposite m.metamodel x.feature) (sym (is_at-link o f w.0 w.2)) ∙ back)))
      (ends-cases m.metamodel (is_at o f) k h))
      (λ h. ends-this m.metamodel (is_at o f) k h)

  pub emptied-alone : (o f : ℕ) → opposite m.metamodel f ≡ None → emptied o f m ≡ relink (is_at o f) [] m
  emptied-alone o f none = relink-agree (λ k. list_any (is_at o f) (ends k)) (is_at o f) [] [] m (λ k i. at-none o f k none) (λ p g. refl)

abbrev pub among : List Link → Link → Bool
among ls k = list_any (λ l. same_link l k) ls

or-false : (b : Bool) → (b || false) ≡ b
or-false true = refl
or-false false = refl

or-assoc : (a b c : Bool) → ((a || b) || c) ≡ (a || (b || c))
or-assoc true b c = refl
or-assoc false b c = refl

pub each_left-relink : (ls : List Link) (leaves : Link → Bool) (m : Contents) → each_left ls (relink leaves [] m) ≡ relink (λ k. leaves k || among ls k) [] m
each_left-relink [] leaves m = relink-agree leaves (λ k. leaves k || false) [] [] m (λ k i. sym (or-false (leaves k))) (λ o f. refl)
each_left-relink (l ∷ ls) leaves m =
    ap (each_left ls) (relink-relink leaves (same_link l) [] [] m)
    ∙ each_left-relink ls (λ k. leaves k || same_link l k) m
    ∙ relink-agree (λ k. (leaves k || same_link l k) || among ls k) (λ k. leaves k || (same_link l k || among ls k)) [] [] m (λ k i. or-assoc (leaves k) (same_link l k) (among ls k)) (λ o f. refl)

-- the other ends of the links of a slot
abbrev pub other_ends : Contents → ℕ → ℕ → List Link
other_ends m o f = flat_map (λ v. other_end m.metamodel (link o f v)) (slot m o f)

module _ (m : Contents) (well : WellFormed m.metamodel) (s : Sound m) where
  at-both : (o f : ℕ) (k : Link) → Stands m k → list_any (is_at o f) (both_ends m.metamodel k) ≡ (is_at o f k || among (other_ends m o f) k)
  at-both o f k i =
      both-same _ _
      (λ h. ⊎_elim
      (λ t. or_left _ _ t)
      (λ w.
      let at : w.0 ≡ link o f w.0.value = is_at-link o f w.0 w.2 in
      let stands : Stands m (link o f w.0.value) = subst (Stands m) at (s.agree k w.0 i w.1) in
      let back : Opposed m.metamodel (link o f w.0.value) k = subst (λ z. Opposed m.metamodel z k) at (opposed-back m.metamodel well k w.0 w.1) in
      or_right (is_at o f k) _ (any_In (λ l. same_link l k) (other_ends m o f) k
      (In-flat_map (λ v. other_end m.metamodel (link o f v)) (slot m o f) w.0.value k stands (In-other_end m.metamodel (link o f w.0.value) k back)) (same_link-itself k)))
      (ends-cases m.metamodel (is_at o f) k h))
      (λ h. ⊎_elim
      (λ t. ends-this m.metamodel (is_at o f) k t)
      (λ t.
      let r = any_found (λ l. same_link l k) (other_ends m o f) t in
      let e = same_link-is r.0 k r.2 in
      let v = flat_map-In (λ v. other_end m.metamodel (link o f v)) (slot m o f) r.0 r.1 in
      let o_k : Opposed m.metamodel (link o f v.0) k = subst (Opposed m.metamodel (link o f v.0)) e (other_end-In m.metamodel (link o f v.0) r.0 v.2) in
      ends-that m.metamodel (is_at o f) k (link o f v.0) (opposed-back m.metamodel well (link o f v.0) k o_k) (is_at-itself o f v.0))
      (or_cases (is_at o f k) _ h))

  -- the links of a slot leave, and then their other ends
  pub emptied-both : (o f : ℕ) → emptied o f m ≡ each_left (other_ends m o f) (relink (is_at o f) [] m)
  emptied-both o f =
      relink-agree (λ k. list_any (is_at o f) (both_ends m.metamodel k)) (λ k. is_at o f k || among (other_ends m o f) k) [] [] m (λ k i. at-both o f k i) (λ p g. refl)
      ∙ sym (each_left-relink (other_ends m o f) (is_at o f) m)

-- ---- a link comes

-- the link gives way, where its slot has one value
abbrev pub cleared : Link → Contents → Contents
cleared l m = cond (is_many m.metamodel l.feature) m (emptied l.object l.feature m)

unfoldable pub clears : Metamodel → Link → Link → Bool
clears mm l j = not (is_many mm l.feature) && list_any (is_at l.object l.feature) (both_ends mm j)

cleared-relink : (l : Link) (m : Contents) → cleared l m ≡ relink (clears m.metamodel l) [] m
unfolding clears
cleared-relink l m =
    elim (is_many m.metamodel l.feature) as (λ b. cond b m (emptied l.object l.feature m) ≡ relink (λ j. not b && list_any (is_at l.object l.feature) (both_ends m.metamodel j)) [] m) [
      | true ↦ sym (relink_none m)
      | false ↦ refl
    ]

module _ (mm : Metamodel) (l j : Link) where
  gives-cleared : list_any (gives_way mm l) (both_ends mm j) ≡ true → (e : Link) × ((l ≡ e) ⊎ Opposed mm l e) × (clears mm e j ≡ true)
  unfolding clears
  gives-cleared h =
      let r = any_found (gives_way mm l) (both_ends mm j) h in
      let e = any_found (λ (e : Link). not (is_many mm e.feature) && is_at e.object e.feature r.0) (both_ends mm l) r.2 in
      let both = and_parts (not (is_many mm e.0.feature)) (is_at e.0.object e.0.feature r.0) e.2 in
      (e.0, In-both_ends mm l e.0 e.1, and_from _ _ both.0 (any_In (is_at e.0.object e.0.feature) (both_ends mm j) r.0 r.1 both.1))

  cleared-gives : (e : Link) → In e (both_ends mm l) → clears mm e j ≡ true → list_any (gives_way mm l) (both_ends mm j) ≡ true
  unfolding clears
  cleared-gives e i h =
      let both = and_parts (not (is_many mm e.feature)) (list_any (is_at e.object e.feature) (both_ends mm j)) h in
      let r = any_found (is_at e.object e.feature) (both_ends mm j) both.1 in
      any_In (gives_way mm l) (both_ends mm j) r.0 r.1 (any_In (λ (e : Link). not (is_many mm e.feature) && is_at e.object e.feature r.0) (both_ends mm l) e i (and_from _ _ both.0 r.2))

module _ (m : Contents) (l : Link) where
  way-alone : (j : Link) → other_end m.metamodel l ≡ [] → list_any (gives_way m.metamodel l) (both_ends m.metamodel j) ≡ (clears m.metamodel l j || false)
  way-alone j alone =
      both-same _ _
      (λ h.
      let e = gives-cleared m.metamodel l j h in
      or_left _ _ (⊎_elim
      (λ s. subst (λ z. clears m.metamodel z j ≡ true) (sym s) e.2)
      (λ o. let none : In e.0 [] = subst (In e.0) alone (In-other_end m.metamodel l e.0 o) in elim none [ ])
      e.1))
      (λ h. cleared-gives m.metamodel l j l here (sym (or-false (clears m.metamodel l j)) ∙ h))

  -- the slot is cleared, where it has one value, and then the link comes
  pub linked-alone : other_end m.metamodel l ≡ [] → change (gives_way m.metamodel l) (l ∷ []) m ≡ relink (λ j. false) (l ∷ []) (cleared l m)
  linked-alone alone =
      let way : Link → Bool = λ j. list_any (gives_way m.metamodel l) (both_ends m.metamodel j) in
      relink-agree way (λ j. clears m.metamodel l j || false) (flat_map (both_ends m.metamodel) (l ∷ [])) (l ∷ []) m
      (λ j i. way-alone j alone)
      (λ o f. ap (λ ks. values_at o f (l ∷ (ks ++ []))) alone)
      ∙ sym (relink-relink (clears m.metamodel l) (λ j. false) [] (l ∷ []) m)
      ∙ ap (relink (λ j. false) (l ∷ [])) (sym (cleared-relink l m))

  pub way-both : (k j : Link) → Opposed m.metamodel l k → list_any (gives_way m.metamodel l) (both_ends m.metamodel j) ≡ (((clears m.metamodel l j || clears m.metamodel k j) || false) || false)
  way-both k j o =
      let mm = m.metamodel in
      let ends = clears mm l j || clears mm k j in
      both-same _ _
      (λ h.
      let e = gives-cleared mm l j h in
      or_left _ _ (or_left _ _ (⊎_elim
      (λ s. or_left _ _ (subst (λ z. clears mm z j ≡ true) (sym s) e.2))
      (λ q. or_right (clears mm l j) _ (subst (λ z. clears mm z j ≡ true) (opposed-unique mm l e.0 k q o) e.2))
      e.1)))
      (λ h. ⊎_elim
      (λ t. cleared-gives mm l j l here t)
      (λ t. cleared-gives mm l j k (there (In-other_end mm l k o)) t)
      (or_cases (clears mm l j) _ (sym (or-false ends) ∙ sym (or-false (ends || false)) ∙ h)))

  -- both slots are cleared, where they have one value, and then the link comes, and its other end
  pub linked-both : (k : Link) → Opposed m.metamodel l k
      → change (gives_way m.metamodel l) (l ∷ []) m ≡ relink (λ j. false) (k ∷ []) (relink (λ j. false) (l ∷ []) (cleared k (cleared l m)))
  unfolding relink
  linked-both k o =
      let mm = m.metamodel in
      let none : Link → Bool = λ j. false in
      let way : Link → Bool = λ j. list_any (gives_way mm l) (both_ends mm j) in
      let first : Link → Bool = clears mm l in
      let second : Link → Bool = clears mm k in
      relink-agree way (λ j. ((first j || second j) || false) || false) (flat_map (both_ends mm) (l ∷ [])) (l ∷ k ∷ []) m
      (λ j i. way-both k j o)
      (λ p g. ap (λ ks. values_at p g (l ∷ (ks ++ []))) (other_end-is mm l k o))
      ∙ sym (relink-relink (λ j. (first j || second j) || false) none (l ∷ []) (k ∷ []) m)
      ∙ ap (relink none (k ∷ [])) (sym (relink-relink (λ j. first j || second j) none [] (l ∷ []) m))
      ∙ ap (λ n. relink none (k ∷ []) (relink none (l ∷ []) n)) (sym (relink-relink first second [] [] m))
      ∙ ap (λ n. relink none (k ∷ []) (relink none (l ∷ []) n)) (sym (cleared-relink k (relink first [] m)))
      ∙ ap (λ n. relink none (k ∷ []) (relink none (l ∷ []) (cleared k n))) (sym (cleared-relink l m))

-- a link comes to a slot that has room, and its other end
pub come-alone : (m : Contents) (l : Link) → other_end m.metamodel l ≡ [] → change (λ j. false) (l ∷ []) m ≡ relink (λ j. false) (l ∷ []) m
come-alone m l alone =
    relink-agree (λ j. list_any (λ k. false) (both_ends m.metamodel j)) (λ j. false) (flat_map (both_ends m.metamodel) (l ∷ [])) (l ∷ []) m
    (λ j i. none-any (both_ends m.metamodel j)) (λ o f. ap (λ ks. values_at o f (l ∷ (ks ++ []))) alone)

pub come-both : (m : Contents) (l k : Link) → Opposed m.metamodel l k → change (λ j. false) (l ∷ []) m ≡ relink (λ j. false) (k ∷ []) (relink (λ j. false) (l ∷ []) m)
come-both m l k o =
    relink-agree (λ j. list_any (λ k. false) (both_ends m.metamodel j)) (λ j. false || false) (flat_map (both_ends m.metamodel) (l ∷ [])) (l ∷ k ∷ []) m
    (λ j i. none-any (both_ends m.metamodel j)) (λ p g. ap (λ ks. values_at p g (l ∷ (ks ++ []))) (other_end-is m.metamodel l k o))
    ∙ sym (relink-relink (λ j. false) (λ j. false) (l ∷ []) (k ∷ []) m)
