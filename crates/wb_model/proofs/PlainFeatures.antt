-- To make or move an object changes no plain feature.
use Rattle.std.proofs.Common.{◌≡◌, ◌≢◌, ℕ, Bool, true, false, not, [], ◌∷◌, ◌++◌, None, refl, sym, ap, ◌∙◌, cond, ⊎_elim, append-nil}
use Rattle.std.proofs.lemmas.Bool.{and_parts, false≢true, not_from_false}
use Rattle.std.specs.Prelude.{Ok}
use Rattle.std.specs.List.{list_any, flat_map}
use Rattle.wb_metamodel.specs.WellFormed.{WellFormed}
use Rattle.wb_store.specs.declared.scalars.Scalar.{Scalar}
use Rattle.wb_store.specs.declared.scalars.Scalar.TheVariants.{Object}
use Rattle.wb_store.specs.declared.scalars.Place.{Place}
use Rattle.wb_store.specs.declared.scalars.Place.TheVariants.{Root, In as Inside}
use Rattle.wb_store.specs.Scalars.{same}
use Rattle.wb_store.specs.Contents.{Contents, kind, slot, is_containment}
use Rattle.wb_store.specs.Cells.{is_plain}
use Rattle.wb_store.specs.Relinking.{Link, link, relink, both_ends, change, leads_to, stands, without_root}
use Rattle.wb_model.specs.Edits.{place, with_object, created, moved, refusal_of_create, refusal_of_move, create, move_to}
use Rattle.wb_model.proofs.Changed.{alone-ends}
use Rattle.wb_model.proofs.Ends.{plain-parts, plain-other, opposite-back, ends-cases}
use Rattle.wb_store.proofs.Filtered.{filter-all}
use Rattle.wb_model.proofs.KeptCreated.{may-place, kind-other}
use Rattle.wb_model.proofs.KeptLinks.{accepted}
use Rattle.wb_model.proofs.KeptMoved.{may-move, moves-into}
use Rattle.wb_model.proofs.Placing.{In-ends, may-hold, placed-kind}
use Rattle.wb_validity.proofs.LinkLemmas.{to_false}
use Rattle.wb_store.proofs.Relinked.{values_at, slot-relink}

module _ (m : Contents) (well : WellFormed m.metamodel) (h : ℕ) (plain : is_plain m.metamodel h ≡ true) (q : ℕ) where
  -- with a containment link no link of a plain feature comes
  none-comes : (l : Link) → is_containment m.metamodel l.feature ≡ true → values_at q h (flat_map (both_ends m.metamodel) (l ∷ [])) ≡ []
  none-comes l c =
      let mm = m.metamodel in
      ⊎_elim
      (λ none. none)
      (λ one. absurd (⊎_elim
      (λ e. false≢true (sym (plain-parts mm well h plain).0 ∙ ap (λ (k : Link). is_containment mm k.feature) (sym e) ∙ c))
      (λ o. false≢true (sym (plain-other mm well h l.feature plain (opposite-back mm well l.feature h o.features)) ∙ c))
      (In-ends mm l (link q h one.0) one.2)))
      (alone-ends mm well l q h)

  -- and with containment links none leaves
  none-leaves : (o : ℕ) (w : Scalar) → list_any (leads_to m.metamodel o) (both_ends m.metamodel (link q h w)) ≡ false
  none-leaves o w = to_false _ (λ t.
      let mm = m.metamodel in
      ⊎_elim
      (λ e. false≢true (sym (plain-parts mm well h plain).0 ∙ (and_parts (is_containment mm h) (same w (Object o)) e).0))
      (λ k. false≢true (sym (plain-other mm well h k.0.feature plain k.1.features) ∙ (and_parts (is_containment mm k.0.feature) (same k.0.value (Object o)) k.2).0))
      (ends-cases mm (leads_to mm o) (link q h w) t))

  placed-plain : (leaves : Link → Bool) (l : Link) (n : Contents) → ((w : Scalar) → leaves (link q h w) ≡ false) → is_containment m.metamodel l.feature ≡ true → slot n q h ≡ slot m q h
      → slot (relink leaves (flat_map (both_ends m.metamodel) (l ∷ [])) n) q h ≡ slot m q h
  placed-plain leaves l n stay c same =
      slot-relink leaves (flat_map (both_ends m.metamodel) (l ∷ [])) n q h
      ∙ (λ i. filter-all (λ w. not (leaves (link q h w))) (slot n q h) (λ w j. not_from_false _ (stay w)) i ++ none-comes l c i)
      ∙ append-nil (slot n q h)
      ∙ same

  created-plain : (class : ℕ) (place : Place) → refusal_of_create m class place ≡ None → slot (created class place m) q h ≡ slot m q h
  created-plain class Root e = refl
  created-plain class (Inside p f) e =
      let l : Link = link p f (Object m.next) in
      let may = may-place m class p f e in
      placed-plain (λ k. list_any (leads_to m.metamodel m.next) (both_ends m.metamodel k)) l (with_object class m.roots m)
      (none-leaves m.next) (may-hold m p f class may.0.sort).containment refl

  moved-plain : (o p f : ℕ) → refusal_of_move m o p f ≡ None → slot (moved o p f m) q h ≡ slot m q h
  moved-plain o p f e =
      let l : Link = link p f (Object o) in
      let goes : Link → Bool = λ k. list_any (leads_to m.metamodel o) (both_ends m.metamodel k) in
      elim (stands m l) as (λ b. slot (cond b m (change (leads_to m.metamodel o) (l ∷ []) (without_root o m))) q h ≡ slot m q h) [
        | true ↦ refl
        | false ↦ placed-plain goes l (without_root o m) (none-leaves o) (moves-into m o p f (may-move m o p f e)).containment refl
      ]

  module _ (n : Contents) where
    pub create-plain : (class : ℕ) (place : Place) → create m class place ≡ Ok n → slot n q h ≡ slot m q h
    create-plain class place e =
        let a = accepted (refusal_of_create m class place) (created class place m) n e in
        ap (λ (k : Contents). slot k q h) (sym a.1) ∙ created-plain class place a.0

    pub move-plain : (o p f : ℕ) → move_to m o p f ≡ Ok n → slot n q h ≡ slot m q h
    move-plain o p f e =
        let a = accepted (refusal_of_move m o p f) (moved o p f m) n e in
        ap (λ (k : Contents). slot k q h) (sym a.1) ∙ moved-plain o p f a.0

-- ---- the other objects

module _ (m n : Contents) where
  created-others : (class : ℕ) (place : Place) (x : ℕ) → x ≢ m.next → kind (created class place m) x ≡ kind m x
  created-others class Root x other = kind-other m class (m.roots ++ m.next ∷ []) x other
  created-others class (Inside p f) x other = placed-kind (with_object class m.roots m) m.next p f x ∙ kind-other m class m.roots x other

  pub create-others : (class : ℕ) (place : Place) → create m class place ≡ Ok n → (x : ℕ) → x ≢ m.next → kind n x ≡ kind m x
  create-others class place e x other =
      ap (λ (k : Contents). kind k x) (sym (accepted (refusal_of_create m class place) (created class place m) n e).1) ∙ created-others class place x other

  pub move-others : (o p f : ℕ) → move_to m o p f ≡ Ok n → (x : ℕ) → kind n x ≡ kind m x
  move-others o p f e x =
      ap (λ (k : Contents). kind k x) (sym (accepted (refusal_of_move m o p f) (moved o p f m) n e).1)
      ∙ elim (stands m (link p f (Object o))) as (λ b. kind (cond b m (place o p f (without_root o m))) x ≡ kind m x) [
        | true ↦ refl
        | false ↦ placed-kind (without_root o m) o p f x
      ]
