-- What each edit does to the slot that it names.
use Rattle.std.proofs.Common.{◌≡◌, ℕ, ◌≤◌, Bool, true, false, not, ◌&&◌, List, [], ◌∷◌, ◌++◌, length, Some, None, refl, sym, ap, subst, ◌∙◌, cond, arith, ⊎_elim, append-nil}
use Rattle.std.proofs.lemmas.Bool.{and_parts, false≢true, not_from_true, not-true}
use Rattle.std.specs.Prelude.{filter, Ok}
use Rattle.std.specs.List.{list_any, flat_map}
use Rattle.wb_metamodel.specs.Metamodel.{Metamodel}
use Rattle.wb_metamodel.specs.WellFormed.{WellFormed}
use Rattle.wb_store.specs.declared.scalars.Scalar.{Scalar}
use Rattle.wb_store.specs.declared.scalars.Scalar.TheVariants.{Object}
use Rattle.wb_store.specs.declared.scalars.Place.{Place}
use Rattle.wb_store.specs.declared.scalars.Place.TheVariants.{Root, In as Inside}
use Rattle.wb_store.specs.Scalars.{same}
use Rattle.wb_store.specs.ScalarLaws.{same_decides}
use Rattle.wb_store.specs.Contents.{Contents, kind, slot, is_containment, contains}
use Rattle.wb_store.specs.Cells.{holder}
use Rattle.wb_store.specs.Features.{is_many}
use Rattle.wb_validity.specs.Valid.{IsValid, AreContainedOnce}
use Rattle.wb_store.specs.Relinking.{Link, link, both_ends, change, is_at, same_link, leads_to, stands, gives_way, without_root}
use Rattle.wb_model.specs.Edits.{link_up, unlink, emptied, moved, created, with_object, refusal_of_link, refusal_of_take, refusal_of_unset, refusal_of_move, refusal_of_create, set, add, take_out, unset, move_to, create}
use Rattle.wb_model.proofs.Changed.{alone-ends, In-values_at}
use Rattle.wb_model.proofs.Creating.{next_stands_nowhere}
use Rattle.wb_model.proofs.Ends.{opposite-apart, containment-one, In-both_ends, ends-this, ends-cases}
use Rattle.wb_store.proofs.Filtered.{In-cons, filter-none, filter-all, filter-same}
use Rattle.wb_model.proofs.KeptCreated.{kind-new, may-place, is_placed, kept_create}
use Rattle.wb_model.proofs.KeptLinks.{accepted, sound, housed, link-accepted, way-all}
use Rattle.wb_model.proofs.KeptMoved.{moves-into, may-move, is_there, kept_move}
use Rattle.wb_validity.proofs.LinkLemmas.{any_found, to_false}
use Rattle.wb_model.proofs.Live.{contained-live}
use Rattle.wb_store.proofs.Members.{In}
use Rattle.wb_store.proofs.Members.In.{here}
use Rattle.wb_model.proofs.MoveSteps.{holder-some, holder-none}
use Rattle.wb_model.proofs.Placing.{may-hold, placed-kind}
use Rattle.wb_store.proofs.Relinked.{values_at, is_at-link, is_at-itself, slot-relink}
use Rattle.wb_model.proofs.Sound.{stands-In, absent, contains-from, Sound}

-- ---- the value that comes

own-value : (mm : Metamodel) → WellFormed mm → (l : Link) → values_at l.object l.feature (flat_map (both_ends mm) (l ∷ [])) ≡ l.value ∷ []
own-value mm well l =
    let there_now : In l.value (values_at l.object l.feature (flat_map (both_ends mm) (l ∷ []))) = In-values_at (flat_map (both_ends mm) (l ∷ [])) l here in
    ⊎_elim
    (λ none. let in_none : In l.value [] = subst (In l.value) none there_now in elim in_none [ ])
    (λ one. one.1 ∙ ap (λ v. v ∷ []) (only one.0 l.value (subst (In l.value) one.1 there_now)))
    (alone-ends mm well l l.object l.feature)
  where
    only : (v w : Scalar) → In w (v ∷ []) → v ≡ w
    only v w m = ⊎_elim (λ e. e) (λ n. elim n [ ]) (In-cons v [] w m)

-- a slot whose other values stay
comes-last : (m : Contents) → WellFormed m.metamodel → (leaves : Link → Bool) (l : Link) → ((v : Scalar) → In v (slot m l.object l.feature) → list_any leaves (both_ends m.metamodel (link l.object l.feature v)) ≡ false)
    → slot (change leaves (l ∷ []) m) l.object l.feature ≡ slot m l.object l.feature ++ l.value ∷ []
comes-last m well leaves l stay =
    let goes : Link → Bool = λ k. list_any leaves (both_ends m.metamodel k) in
    slot-relink goes (flat_map (both_ends m.metamodel) (l ∷ [])) m l.object l.feature
    ∙ (λ i. (filter-same (λ v. not (goes (link l.object l.feature v))) (λ v. true) (slot m l.object l.feature) (λ v j. ap not (stay v j)) ∙ filter-all (λ v. true) (slot m l.object l.feature) (λ v j. refl)) i ++ own-value m.metamodel well l i)

-- ---- set and add

single-slot : (vs : List Scalar) (v : Scalar) → length vs ≤ 1 → In v vs → vs ≡ v ∷ []
single-slot [] v few i = elim i [ ]
single-slot (w ∷ []) v few i = ⊎_elim (λ e. ap (λ z. z ∷ []) e) (λ n. elim n [ ]) (In-cons w [] v i)
single-slot (w ∷ u ∷ vs) v few i = absurd (omega arith)

one-sort : (b : Bool) → cond b false true ≡ true → b ≡ false
one-sort true h = absurd (false≢true h)
one-sort false h = refl

many-sort : (b : Bool) → cond b true false ≡ true → b ≡ true
many-sort true h = refl
many-sort false h = absurd (false≢true h)

module _ (m : Contents) (well : WellFormed m.metamodel) (v : IsValid m) (l : Link) where
  s : Sound m
  s = sound m v

  one-room : is_many m.metamodel l.feature ≡ false → length (slot m l.object l.feature) ≤ 1
  one-room one = subst (λ b. length (slot m l.object l.feature) ≤ cond b 20000 1) one (s.has_room l.object l.feature)

  set-linked : is_many m.metamodel l.feature ≡ false → slot (link_up l m) l.object l.feature ≡ l.value ∷ []
  set-linked one =
      elim (stands m l) as (λ b. stands m l ≡ b → slot (cond b m (change (gives_way m.metamodel l) (l ∷ []) m)) l.object l.feature ≡ l.value ∷ []) [
        | true ↦ λ e. single-slot (slot m l.object l.feature) l.value (one-room one) (stands-In m l e)
        | false ↦ λ e.
            slot-relink (λ k. list_any (gives_way m.metamodel l) (both_ends m.metamodel k)) (flat_map (both_ends m.metamodel) (l ∷ [])) m l.object l.feature
            ∙ (λ i. way-all m well v l l here one i ++ own-value m.metamodel well l i)
      ] refl

  -- no value of the slot gives way to one more
  none-gives : is_many m.metamodel l.feature ≡ true → stands m l ≡ false → (w : Scalar) → In w (slot m l.object l.feature) → list_any (gives_way m.metamodel l) (both_ends m.metamodel (link l.object l.feature w)) ≡ false
  none-gives many new w i = to_false _ (λ t.
      let mm = m.metamodel in
      let at : Link = link l.object l.feature w in
      let r = any_found (gives_way mm l) (both_ends mm at) t in
      let e = any_found (λ (e : Link). not (is_many mm e.feature) && is_at e.object e.feature r.0) (both_ends mm l) r.2 in
      let both = and_parts (not (is_many mm e.0.feature)) (is_at e.0.object e.0.feature r.0) e.2 in
      let same : r.0 ≡ link e.0.object e.0.feature r.0.value = is_at-link e.0.object e.0.feature r.0 both.1 in
      ⊎_elim
      (λ here_too. false≢true (sym (not-true _ both.0) ∙ subst (λ (k : Link). is_many mm k.feature ≡ true) here_too many))
      (λ other. ⊎_elim
      (λ itself. opposite-apart mm well l.feature e.0.feature other.features (ap (λ (k : Link). k.feature) (itself ∙ same)))
      (λ back.
      let value : w ≡ l.value = back.to ∙ ap (λ (k : Link). Object k.object) same ∙ sym other.to in
      absent m l new (subst (λ z. In z (slot m l.object l.feature)) value i))
      (In-both_ends mm at r.0 r.1))
      (In-both_ends mm l e.0 e.1))

  add-linked : is_many m.metamodel l.feature ≡ true → slot (link_up l m) l.object l.feature ≡ cond (stands m l) (slot m l.object l.feature) (slot m l.object l.feature ++ l.value ∷ [])
  add-linked many =
      elim (stands m l) as (λ b. stands m l ≡ b → slot (cond b m (change (gives_way m.metamodel l) (l ∷ []) m)) l.object l.feature ≡ cond b (slot m l.object l.feature) (slot m l.object l.feature ++ l.value ∷ [])) [
        | true ↦ λ e. refl
        | false ↦ λ e. comes-last m well (gives_way m.metamodel l) l (none-gives many e)
      ] refl

  -- ---- take and unset

  taken-alone : (w : Scalar) → list_any (same_link l) (both_ends m.metamodel (link l.object l.feature w)) ≡ same w l.value
  taken-alone w =
      let mm = m.metamodel in
      let at : Link = link l.object l.feature w in
      let own : same_link l at ≡ same w l.value = ap (λ b. b && same w l.value) (is_at-itself l.object l.feature w) in
      elim (same_link l at) as (λ b. same_link l at ≡ b → list_any (same_link l) (both_ends mm at) ≡ b) [
        | true ↦ λ e. ends-this mm (same_link l) at e
        | false ↦ λ e. to_false _ (λ t. ⊎_elim
            (λ h. false≢true (sym e ∙ h))
            (λ k.
            let there_too = (and_parts (is_at l.object l.feature k.0) (same k.0.value l.value) k.2).0 in
            opposite-apart mm well l.feature k.0.feature k.1.features (sym (ap (λ (j : Link). j.feature) (is_at-link l.object l.feature k.0 there_too))))
            (ends-cases mm (same_link l) at t))
      ] refl ∙ own

  take-unlinked : slot (unlink l m) l.object l.feature ≡ filter (λ w. not (same w l.value)) (slot m l.object l.feature)
  take-unlinked =
      let goes : Link → Bool = λ k. list_any (same_link l) (both_ends m.metamodel k) in
      slot-relink goes [] m l.object l.feature
      ∙ append-nil (filter (λ w. not (goes (link l.object l.feature w))) (slot m l.object l.feature))
      ∙ filter-same (λ w. not (goes (link l.object l.feature w))) (λ w. not (same w l.value)) (slot m l.object l.feature) (λ w i. ap not (taken-alone w))

unset-emptied : (m : Contents) (o f : ℕ) → slot (emptied o f m) o f ≡ []
unset-emptied m o f =
    let goes : Link → Bool = λ k. list_any (is_at o f) (both_ends m.metamodel k) in
    slot-relink goes [] m o f
    ∙ append-nil (filter (λ w. not (goes (link o f w))) (slot m o f))
    ∙ filter-none (λ w. not (goes (link o f w))) (slot m o f) (λ w i. not_from_true _ (ends-this m.metamodel (is_at o f) (link o f w) (is_at-itself o f w)))

-- ---- a new container

-- the container of an object is the one that has it
pub holder-is : (m : Contents) → Sound m → AreContainedOnce m → (p f o : ℕ) → contains m p f o ≡ true → holder m o ≡ Some (p, f)
holder-is m s once p f o c =
    elim (holder m o) as (λ r. holder m o ≡ r → r ≡ Some (p, f)) [
      | None ↦ λ e. absurd (false≢true (sym (holder-none m o e p f) ∙ c))
      | Some k ↦ λ e.
          let both = once o k.0 p k.1 f (contained-live m s p f o c) (holder-some m o k.0 k.1 e) c in
          λ i. Some (both.0 i, both.1 i)
    ] refl

module _ (m n : Contents) (well : WellFormed m.metamodel) (v : IsValid m) where
  pub set-slot : (o f : ℕ) (w : Scalar) → set m o f w ≡ Ok n → slot n o f ≡ w ∷ []
  set-slot o f w h =
      let l : Link = link o f w in
      let a = accepted (refusal_of_link false m l) (link_up l m) n h in
      subst (λ (k : Contents). slot k o f ≡ w ∷ []) a.1 (set-linked m well v l (one-sort (is_many m.metamodel f) (link-accepted false m l a.0).sort))

  pub add-slot : (o f : ℕ) (w : Scalar) → add m o f w ≡ Ok n → slot n o f ≡ cond (stands m (link o f w)) (slot m o f) (slot m o f ++ w ∷ [])
  add-slot o f w h =
      let l : Link = link o f w in
      let a = accepted (refusal_of_link true m l) (link_up l m) n h in
      subst (λ (k : Contents). slot k o f ≡ cond (stands m (link o f w)) (slot m o f) (slot m o f ++ w ∷ [])) a.1 (add-linked m well v l (many-sort (is_many m.metamodel f) (link-accepted true m l a.0).sort))

  pub take-slot : (o f : ℕ) (w : Scalar) → take_out m o f w ≡ Ok n → slot n o f ≡ filter (λ u. not (same u w)) (slot m o f)
  take-slot o f w h =
      let l : Link = link o f w in
      subst (λ (k : Contents). slot k o f ≡ filter (λ u. not (same u w)) (slot m o f)) (accepted (refusal_of_take m l) (unlink l m) n h).1 (take-unlinked m well v l)

  -- ---- move_to

  none-goes : (o p f : ℕ) → is_containment m.metamodel f ≡ true → stands m (link p f (Object o)) ≡ false → (w : Scalar) → In w (slot m p f) → list_any (leads_to m.metamodel o) (both_ends m.metamodel (link p f w)) ≡ false
  none-goes o p f c new w i = to_false _ (λ t.
      let mm = m.metamodel in
      ⊎_elim
      (λ e.
      let value = (same_decides w (Object o)).0 (and_parts (is_containment mm f) (same w (Object o)) e).1 in
      absent m (link p f (Object o)) new (subst (λ z. In z (slot m p f)) value i))
      (λ k. false≢true (sym (containment-one mm well f k.0.feature k.1.features c) ∙ (and_parts (is_containment mm k.0.feature) (same k.0.value (Object o)) k.2).0))
      (ends-cases mm (leads_to mm o) (link p f w) t))

  moved-slot : (o p f : ℕ) → refusal_of_move m o p f ≡ None → slot (moved o p f m) p f ≡ cond (stands m (link p f (Object o))) (slot m p f) (slot m p f ++ Object o ∷ [])
  moved-slot o p f e =
      let l : Link = link p f (Object o) in
      elim (stands m l) as (λ b. stands m l ≡ b → slot (cond b m (change (leads_to m.metamodel o) (l ∷ []) (without_root o m))) p f ≡ cond b (slot m p f) (slot m p f ++ Object o ∷ [])) [
        | true ↦ λ t. refl
        | false ↦ λ t. comes-last (without_root o m) well (leads_to m.metamodel o) l
            (λ w i. none-goes o p f (moves-into m o p f (may-move m o p f e)).containment t w i)
      ] refl

  pub move-slot : (o p f : ℕ) → move_to m o p f ≡ Ok n → slot n p f ≡ cond (stands m (link p f (Object o))) (slot m p f) (slot m p f ++ Object o ∷ [])
  move-slot o p f h =
      let a = accepted (refusal_of_move m o p f) (moved o p f m) n h in
      subst (λ (k : Contents). slot k p f ≡ cond (stands m (link p f (Object o))) (slot m p f) (slot m p f ++ Object o ∷ [])) a.1 (moved-slot o p f a.0)

  moved-contains : (o p f : ℕ) → refusal_of_move m o p f ≡ None → contains (moved o p f m) p f o ≡ true
  moved-contains o p f e =
      let l : Link = link p f (Object o) in
      let may = may-move m o p f e in
      elim (stands m l) as (λ b. stands m l ≡ b → contains (cond b m (change (leads_to m.metamodel o) (l ∷ []) (without_root o m))) p f o ≡ true) [
        | true ↦ λ t. contains-from m p f o (moves-into m o p f may).containment (stands-In m l t)
        | false ↦ λ t. is_there m well (sound m v) (housed m v) o p f may t
      ] refl

  pub move-holder : (o p f : ℕ) → move_to m o p f ≡ Ok n → holder n o ≡ Some (p, f)
  move-holder o p f h =
      let a = accepted (refusal_of_move m o p f) (moved o p f m) n h in
      let after = kept_move m n o p f well v h in
      holder-is n (sound n after) (housed n after).once p f o (subst (λ (k : Contents). contains k p f o ≡ true) a.1 (moved-contains o p f a.0))

  -- ---- create

  pub create-slot : (class p f : ℕ) → create m class (Inside p f) ≡ Ok n → slot n p f ≡ slot m p f ++ Object m.next ∷ []
  create-slot class p f h =
      let a = accepted (refusal_of_create m class (Inside p f)) (created class (Inside p f) m) n h in
      let c = (may-hold m p f class (may-place m class p f a.0).0.sort).containment in
      subst (λ (k : Contents). slot k p f ≡ slot m p f ++ Object m.next ∷ []) a.1
      (comes-last (with_object class m.roots m) well (leads_to m.metamodel m.next) (link p f (Object m.next))
      (λ w i. none-goes m.next p f c (next_stands_nowhere m v p f m.next refl c) w i))

  pub create-holder : (class p f : ℕ) → create m class (Inside p f) ≡ Ok n → holder n m.next ≡ Some (p, f)
  create-holder class p f h =
      let a = accepted (refusal_of_create m class (Inside p f)) (created class (Inside p f) m) n h in
      let may = may-place m class p f a.0 in
      let after = kept_create m n class (Inside p f) well v h in
      holder-is n (sound n after) (housed n after).once p f m.next (subst (λ (k : Contents). contains k p f m.next ≡ true) a.1 (is_placed m well (sound m v) (housed m v) class p f may.1 may.0))

-- ---- of every model

module _ (m n : Contents) where
  pub unset-slot : (o f : ℕ) → unset m o f ≡ Ok n → slot n o f ≡ []
  unset-slot o f h = subst (λ (k : Contents). slot k o f ≡ []) (accepted (refusal_of_unset m o f) (emptied o f m) n h).1 (unset-emptied m o f)

  created-kind : (class : ℕ) (place : Place) → kind (created class place m) m.next ≡ Some class
  created-kind class Root = kind-new m class (m.roots ++ m.next ∷ [])
  created-kind class (Inside p f) = placed-kind (with_object class m.roots m) m.next p f m.next ∙ kind-new m class m.roots

  pub create-kind : (class : ℕ) (place : Place) → create m class place ≡ Ok n → kind n m.next ≡ Some class
  create-kind class place h = subst (λ (k : Contents). kind k m.next ≡ Some class) (accepted (refusal_of_create m class place) (created class place m) n h).1 (created-kind class place)

  pub create-root : (class : ℕ) → create m class Root ≡ Ok n → n.roots ≡ m.roots ++ m.next ∷ []
  create-root class h = ap (λ (k : Contents). k.roots) (sym (accepted (refusal_of_create m class Root) (created class Root m) n h).1)
