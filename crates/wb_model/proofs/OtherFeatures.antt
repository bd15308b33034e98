-- Edits of a plain feature change no slot of another feature than this one and its opposite.
use Rattle.std.proofs.Common.{◌≡◌, ◌≢◌, ℕ, Bool, true, false, not, ◌&&◌, List, [], ◌∷◌, ◌++◌, Some, refl, sym, ap, subst, ◌∙◌, cond, ◌⊎◌, inl, inr, ⊎_elim, append-nil}
use Rattle.std.proofs.lemmas.Bool.{and_parts, not_from_false}
use Rattle.std.proofs.lemmas.Option.{same_Some}
use Rattle.std.specs.Prelude.{filter, Ok}
use Rattle.std.specs.List.{list_any, flat_map}
use Rattle.wb_metamodel.specs.Metamodel.{Metamodel}
use Rattle.wb_metamodel.specs.WellFormed.{WellFormed}
use Rattle.wb_store.specs.declared.scalars.Scalar.{Scalar}
use Rattle.wb_store.specs.Scalars.{same}
use Rattle.wb_store.specs.Contents.{Contents, kind, slot}
use Rattle.wb_store.specs.Features.{is_many, opposite}
use Rattle.wb_store.specs.Relinking.{Link, link, relink, both_ends, change, is_at, same_link, stands, gives_way}
use Rattle.wb_model.specs.Edits.{link_up, unlink, emptied, refusal_of_link, refusal_of_take, refusal_of_unset, set, add, take_out, unset}
use Rattle.wb_model.specs.EditLaws.{ChangesOnly}
use Rattle.wb_model.proofs.Changed.{alone-ends}
use Rattle.wb_model.proofs.Ends.{opposite-back, In-both_ends, ends-cases}
use Rattle.wb_store.proofs.Filtered.{filter-all}
use Rattle.wb_model.proofs.Placing.{In-ends}
use Rattle.wb_model.proofs.KeptLinks.{accepted}
use Rattle.wb_validity.proofs.LinkLemmas.{any_found, to_false}
use Rattle.wb_store.proofs.Relinked.{values_at, is_at-link, slot-relink, kind-relink, roots-relink}

-- ---- other features

-- a link of another feature than this one and its opposite
abbrev IsOther : Metamodel → ℕ → ℕ → Type 0
IsOther mm f h = (h ≢ f) × (opposite mm f ≢ Some h)

module _ (m : Contents) (well : WellFormed m.metamodel) (f h : ℕ) (other : IsOther m.metamodel f h) (q : ℕ) where
  -- what leaves is of the feature or of its opposite
  abbrev OfEither : (Link → Bool) → Type 0
  OfEither leaves = (k : Link) → leaves k ≡ true → (k.feature ≡ f) ⊎ (opposite m.metamodel f ≡ Some k.feature)

  other-stays : (leaves : Link → Bool) → OfEither leaves → (w : Scalar) → list_any leaves (both_ends m.metamodel (link q h w)) ≡ false
  other-stays leaves either w = to_false _ (λ t.
      let mm = m.metamodel in
      ⊎_elim
      (λ e. ⊎_elim (λ s. other.0 s) (λ s. other.1 s) (either (link q h w) e))
      (λ k.
      let back : opposite mm k.0.feature ≡ Some h = opposite-back mm well h k.0.feature k.1.features in
      ⊎_elim
      (λ s. other.1 (ap (opposite mm) (sym s) ∙ back))
      (λ s. other.0 (same_Some h f (sym back ∙ opposite-back mm well f k.0.feature s)))
      (either k.0 k.2))
      (ends-cases mm leaves (link q h w) t))

  other-left : (leaves : Link → Bool) → OfEither leaves → slot (change leaves [] m) q h ≡ slot m q h
  other-left leaves either =
      let goes : Link → Bool = λ k. list_any leaves (both_ends m.metamodel k) in
      slot-relink goes [] m q h
      ∙ append-nil (filter (λ w. not (goes (link q h w))) (slot m q h))
      ∙ filter-all (λ w. not (goes (link q h w))) (slot m q h) (λ w i. not_from_false _ (other-stays leaves either w))

  none-comes : (l : Link) → l.feature ≡ f → values_at q h (flat_map (both_ends m.metamodel) (l ∷ [])) ≡ []
  none-comes l at =
      ⊎_elim
      (λ none. none)
      (λ one. absurd (⊎_elim
      (λ e. other.0 (sym (ap (λ (k : Link). k.feature) e) ∙ at))
      (λ o. other.1 (ap (opposite m.metamodel) (sym at) ∙ o.features))
      (In-ends m.metamodel l (link q h one.0) one.2)))
      (alone-ends m.metamodel well l q h)

  other-linked : (l : Link) → l.feature ≡ f → slot (link_up l m) q h ≡ slot m q h
  other-linked l at =
      let mm = m.metamodel in
      let goes : Link → Bool = λ k. list_any (gives_way mm l) (both_ends mm k) in
      let either : OfEither (gives_way mm l) = λ k t.
      let e = any_found (λ (e : Link). not (is_many mm e.feature) && is_at e.object e.feature k) (both_ends mm l) t in
      let same : e.0.feature ≡ k.feature = sym (ap (λ (j : Link). j.feature) (is_at-link e.0.object e.0.feature k (and_parts (not (is_many mm e.0.feature)) (is_at e.0.object e.0.feature k) e.2).1)) in
      ⊎_elim
      (λ s. inl (sym same ∙ sym (ap (λ (j : Link). j.feature) s) ∙ at))
      (λ o. inr (ap (opposite mm) (sym at) ∙ o.features ∙ ap Some same))
      (In-both_ends mm l e.0 e.1) in
      elim (stands m l) as (λ b. slot (cond b m (change (gives_way mm l) (l ∷ []) m)) q h ≡ slot m q h) [
        | true ↦ refl
        | false ↦
            slot-relink goes (flat_map (both_ends mm) (l ∷ [])) m q h
            ∙ (λ i. filter-all (λ w. not (goes (link q h w))) (slot m q h) (λ w j. not_from_false _ (other-stays (gives_way mm l) either w)) i ++ none-comes l at i)
            ∙ append-nil (slot m q h)
      ]

  of-slot : (o : ℕ) (k : Link) → is_at o f k ≡ true → (k.feature ≡ f) ⊎ (opposite m.metamodel f ≡ Some k.feature)
  of-slot o k t = inl (ap (λ (j : Link). j.feature) (is_at-link o f k t))

  other-unlinked : (o : ℕ) (v : Scalar) → slot (unlink (link o f v) m) q h ≡ slot m q h
  other-unlinked o v = other-left (same_link (link o f v)) (λ k t. of-slot o k (and_parts (is_at o f k) (same k.value v) t).0)

  other-emptied : (o : ℕ) → slot (emptied o f m) q h ≡ slot m q h
  other-emptied o = other-left (is_at o f) (of-slot o)

-- ---- classes and roots

module _ (m : Contents) (well : WellFormed m.metamodel) (f : ℕ) where
  only-left : (leaves : Link → Bool) → ((h : ℕ) → IsOther m.metamodel f h → (q : ℕ) → slot (change leaves [] m) q h ≡ slot m q h) → ChangesOnly m (change leaves [] m) f
  only-left leaves slots = record {
    slots = λ q h a b. slots h (a, b) q;
    classes = λ q. kind-relink (λ l. list_any leaves (both_ends m.metamodel l)) [] m q;
    roots = roots-relink (λ l. list_any leaves (both_ends m.metamodel l)) [] m;
  }

  only-linked : (l : Link) → l.feature ≡ f → ChangesOnly m (link_up l m) f
  only-linked l at =
      let goes : Link → Bool = λ k. list_any (gives_way m.metamodel l) (both_ends m.metamodel k) in
      let come : List Link = flat_map (both_ends m.metamodel) (l ∷ []) in
      record {
        slots = λ q h a b. other-linked m well f h (a, b) q l at;
        classes = λ q. elim (stands m l) as (λ b. kind (cond b m (relink goes come m)) q ≡ kind m q) [ true ↦ refl | false ↦ kind-relink goes come m q ];
        roots = elim (stands m l) as (λ b. (cond b m (relink goes come m)).roots ≡ m.roots) [ true ↦ refl | false ↦ roots-relink goes come m ];
      }

  module _ (n : Contents) (o : ℕ) where
    pub set-only : (v : Scalar) → set m o f v ≡ Ok n → ChangesOnly m n f
    set-only v e = let l : Link = link o f v in subst (λ k. ChangesOnly m k f) (accepted (refusal_of_link false m l) (link_up l m) n e).1 (only-linked l refl)

    pub add-only : (v : Scalar) → add m o f v ≡ Ok n → ChangesOnly m n f
    add-only v e = let l : Link = link o f v in subst (λ k. ChangesOnly m k f) (accepted (refusal_of_link true m l) (link_up l m) n e).1 (only-linked l refl)

    pub take-only : (v : Scalar) → take_out m o f v ≡ Ok n → ChangesOnly m n f
    take-only v e =
        let l : Link = link o f v in
        subst (λ k. ChangesOnly m k f) (accepted (refusal_of_take m l) (unlink l m) n e).1 (only-left (same_link l) (λ h other q. other-unlinked m well f h other q o v))

    pub unset-only : unset m o f ≡ Ok n → ChangesOnly m n f
    unset-only e = subst (λ k. ChangesOnly m k f) (accepted (refusal_of_unset m o f) (emptied o f m) n e).1 (only-left (is_at o f) (λ h other q. other-emptied m well f h other q o))
