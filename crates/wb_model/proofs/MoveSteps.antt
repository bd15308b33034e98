-- A move as steps: the object leaves its container or the roots, and then it comes.
use Rattle.std.proofs.Common.{◌≡◌, ℕ, Bool, true, false, not, ◌||◌, List, [], ◌∷◌, Some, None, refl, sym, ap, subst, ◌∙◌, cond, eqb, ⊎_elim}
use Rattle.std.proofs.lemmas.Bool.{and_parts, and_from, false≢true, ne_eqb, eq-eqb, not_from_false}
use Rattle.std.proofs.lemmas.Option.{none-some, same_Some}
use Rattle.std.specs.Prelude.{filter, find}
use Rattle.std.specs.Option.{option_map, option_map_or}
use Rattle.std.specs.List.{list_any, flat_map}
use Rattle.std.specs.FinMap.{entries, get}
use Rattle.wb_store.specs.declared.scalars.Scalar.TheVariants.{Object}
use Rattle.wb_store.specs.Scalars.{same}
use Rattle.wb_store.specs.ScalarLaws.{same_decides}
use Rattle.wb_store.specs.Contents.{Contents, Filled, members, slot, has_object, is_containment, contains}
use Rattle.wb_store.specs.Cells.{holds, holder}
use Rattle.wb_validity.specs.Valid.{is_root}
use Rattle.wb_store.specs.Relinking.{Link, link, relink, both_ends, change, same_link, leads_to, without_root}
use Rattle.wb_model.specs.Edits.{unlink, place}
use Rattle.wb_model.proofs.Changed.{both-same}
use Rattle.wb_model.proofs.EditSteps.{relink-relink, relink-agree, same_link-is, same_link-itself}
use Rattle.wb_model.proofs.Ends.{Opposed, ends-this, ends-that, ends-cases}
use Rattle.wb_store.proofs.Filtered.{filter-all}
use Rattle.wb_validity.proofs.LinkLemmas.{to_false}
use Rattle.wb_model.proofs.Live.{contained-live}
use Rattle.wb_store.proofs.Members.{In, any_In}
use Rattle.wb_store.proofs.Members.In.{here, there}
use Rattle.wb_model.proofs.Sound.{Stands, contains-parts, contains-from, Sound, Housed, entry-In, In-entry}
use Rattle.wb_store.proofs.Relinked.{none-any}

-- ---- the container of an object

found-passes : {A : Type 0} (p : A → Bool) (xs : List A) (x : A) → find p xs ≡ Some x → In x xs × (p x ≡ true)
found-passes p [] x e = absurd (none-some x e)
found-passes p (y ∷ xs) x e =
    elim (p y) as (λ b. p y ≡ b → cond b (Some y) (find p xs) ≡ Some x → In x (y ∷ xs) × (p x ≡ true)) [
      | true ↦ λ t e. let s = same_Some y x e in (subst (λ z. In z (y ∷ xs)) s here, subst (λ z. p z ≡ true) s t)
      | false ↦ λ t e. let r = found-passes p xs x e in (there r.0, r.1)
    ] refl e

none-passes : {A : Type 0} (p : A → Bool) (xs : List A) (x : A) → find p xs ≡ None → In x xs → p x ≡ true → ⊥
none-passes p [] x e m h = elim m [ ]
none-passes p (z ∷ xs) x e here h = none-some x (sym e ∙ ap (λ b. cond b (Some x) (find p xs)) h)
none-passes p (y ∷ xs) x e (there m) h =
    elim (p y) as (λ b. cond b (Some y) (find p xs) ≡ None → ⊥) [
      | true ↦ λ e. none-some y (sym e)
      | false ↦ λ e. none-passes p xs x e m h
    ] e

module _ (m : Contents) (o : ℕ) where
  pub holder-some : (q g : ℕ) → holder m o ≡ Some (q, g) → contains m q g o ≡ true
  holder-some q g h =
      elim (find (holds m.metamodel o) (entries m.slots)) as (λ r. find (holds m.metamodel o) (entries m.slots) ≡ r → option_map (λ (e : (ℕ × ℕ) × Filled). e.0) r ≡ Some (q, g) → contains m q g o ≡ true) [
        | None ↦ λ e h. absurd (none-some (q, g) h)
        | Some e ↦ λ found h.
            let r = found-passes (holds m.metamodel o) (entries m.slots) e found in
            let at : e.0 ≡ (q, g) = same_Some e.0 (q, g) h in
            let both = and_parts (is_containment m.metamodel e.0.1) (has_object (members e.1) o) r.1 in
            subst (λ (k : ℕ × ℕ). contains m k.0 k.1 o ≡ true) at
            (and_from _ _ both.0 (ap (λ v. has_object (option_map_or members v []) o) (entry-In m e r.0) ∙ both.1))
      ] refl h

  pub holder-none : holder m o ≡ None → (q g : ℕ) → contains m q g o ≡ false
  holder-none h q g = to_false _ (λ c.
      let none : find (holds m.metamodel o) (entries m.slots) ≡ None =
      elim (find (holds m.metamodel o) (entries m.slots)) as (λ r. option_map (λ (e : (ℕ × ℕ) × Filled). e.0) r ≡ None → r ≡ None) [
        | None ↦ λ h. refl
        | Some e ↦ λ h. absurd (none-some e.0 (sym h))
      ] h in
      let both = and_parts (is_containment m.metamodel g) (has_object (slot m q g) o) c in
      elim (get m.slots (q, g)) as (λ r. get m.slots (q, g) ≡ r → has_object (option_map_or members r []) o ≡ true → ⊥) [
        | None ↦ λ e t. false≢true t
        | Some values ↦ λ e t. none-passes (holds m.metamodel o) (entries m.slots) ((q, g), values) none (In-entry m q g values e) (and_from _ _ both.0 t)
      ] refl both.1)

-- ---- the object leaves

or-none : (b : Bool) (ls : List Link) → (b || list_any (λ k. false) ls) ≡ b
or-none true ls = refl
or-none false ls = none-any ls

-- an object that is no root
no-root : (o : ℕ) (m : Contents) → is_root m o ≡ false → without_root o m ≡ m
no-root o m h =
    let same : filter (λ root. not (eqb root o)) m.roots ≡ m.roots = filter-all (λ root. not (eqb root o)) m.roots (λ q i. not_from_false _ (ne_eqb q o (λ e. false≢true (sym h ∙ any_In (λ root. eqb root o) m.roots q i (eq-eqb q o e))))) in
    λ i. record { metamodel = m.metamodel; next = m.next; kinds = m.kinds; slots = m.slots; roots = same i }

leads-stands : (m : Contents) (o : ℕ) (j : Link) → Stands m j → leads_to m.metamodel o j ≡ true → contains m j.object j.feature o ≡ true
leads-stands m o j i t =
    let both = and_parts (is_containment m.metamodel j.feature) (same j.value (Object o)) t in
    contains-from m j.object j.feature o both.0 (subst (λ v. In v (slot m j.object j.feature)) ((same_decides j.value (Object o)).0 both.1) i)

-- an object that stands in no containment slot leaves none
pub place-free : (m : Contents) → ((l k : Link) → Stands m l → Opposed m.metamodel l k → Stands m k) → (o p f : ℕ) → ((q g : ℕ) → contains m q g o ≡ false) → place o p f m ≡ change (λ j. false) (link p f (Object o) ∷ []) m
place-free m agree o p f free =
    let mm = m.metamodel in
    let come : List Link = flat_map (both_ends mm) (link p f (Object o) ∷ []) in
    relink-agree (λ j. list_any (leads_to mm o) (both_ends mm j)) (λ j. list_any (λ k. false) (both_ends mm j)) come come m
    (λ j i. to_false _ (λ t. ⊎_elim
    (λ e. false≢true (sym (free j.object j.feature) ∙ leads-stands m o j i e))
    (λ w. false≢true (sym (free w.0.object w.0.feature) ∙ leads-stands m o w.0 (agree j w.0 i w.1) w.2))
    (ends-cases mm (leads_to mm o) j t)) ∙ sym (none-any (both_ends mm j)))
    (λ p f. refl)

module _ (m : Contents) (s : Sound m) (h : Housed m) (o : ℕ) where
  -- it stands in one slot alone
  held-link : (q g : ℕ) → contains m q g o ≡ true → (j : Link) → Stands m j → leads_to m.metamodel o j ≡ true → link q g (Object o) ≡ j
  held-link q g c j i t =
      let at = leads-stands m o j i t in
      let both = and_parts (is_containment m.metamodel j.feature) (same j.value (Object o)) t in
      let v : j.value ≡ Object o = (same_decides j.value (Object o)).0 both.1 in
      let only = h.once o q j.object g j.feature (contained-live m s q g o c) c at in
      λ x. link (only.0 x) (only.1 x) (sym v x)

  leads-held : (q g : ℕ) → contains m q g o ≡ true → leads_to m.metamodel o (link q g (Object o)) ≡ true
  leads-held q g c = and_from _ _ (contains-parts m q g o c).0 ((same_decides (Object o) (Object o)).1 refl)

  goes-held : (q g : ℕ) → contains m q g o ≡ true → (j : Link) → Stands m j
      → list_any (leads_to m.metamodel o) (both_ends m.metamodel j) ≡ list_any (same_link (link q g (Object o))) (both_ends m.metamodel j)
  goes-held q g c j i =
      let mm = m.metamodel in
      let held : Link = link q g (Object o) in
      both-same _ _
      (λ t. ⊎_elim
      (λ e. ends-this mm (same_link held) j (subst (λ z. same_link held z ≡ true) (held-link q g c j i e) (same_link-itself held)))
      (λ w. ends-that mm (same_link held) j w.0 w.1 (subst (λ z. same_link held z ≡ true) (held-link q g c w.0 (s.agree j w.0 i w.1) w.2) (same_link-itself held)))
      (ends-cases mm (leads_to mm o) j t))
      (λ t. ⊎_elim
      (λ e. ends-this mm (leads_to mm o) j (subst (λ z. leads_to mm o z ≡ true) (same_link-is held j e) (leads-held q g c)))
      (λ w. ends-that mm (leads_to mm o) j w.0 w.1 (subst (λ z. leads_to mm o z ≡ true) (same_link-is held w.0 w.2) (leads-held q g c)))
      (ends-cases mm (same_link held) j t))

  -- it leaves its container, and comes
  pub moved-held : (q g : ℕ) (l : Link) → contains m q g o ≡ true → change (leads_to m.metamodel o) (l ∷ []) (without_root o m) ≡ change (λ j. false) (l ∷ []) (unlink (link q g (Object o)) m)
  unfolding relink
  moved-held q g l c =
      let mm = m.metamodel in
      let held : Link = link q g (Object o) in
      let come : List Link = flat_map (both_ends mm) (l ∷ []) in
      let goes : Link → Bool = λ j. list_any (same_link held) (both_ends mm j) in
      let none : Link → Bool = λ j. list_any (λ k. false) (both_ends mm j) in
      ap (change (leads_to mm o) (l ∷ [])) (no-root o m (to_false _ (λ r. false≢true (sym (h.roots.uncontained o q g r) ∙ c))))
      ∙ relink-agree (λ j. list_any (leads_to mm o) (both_ends mm j)) (λ j. goes j || none j) come come m (λ j i. goes-held q g c j i ∙ sym (or-none (goes j) (both_ends mm j))) (λ p f. refl)
      ∙ sym (relink-relink goes none [] come m)
