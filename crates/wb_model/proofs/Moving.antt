-- A move as the code takes it: the object comes to its slot, and then leaves where it was.
use Rattle.std.proofs.Common.{◌≡◌, ℕ, ◌<◌, Bool, true, false, ◌||◌, List, [], ◌∷◌, ◌++◌, length, Some, None, refl, sym, ap, ◌∙◌, cond}
use Rattle.std.proofs.lemmas.Bool.{false≢true}
use Rattle.std.proofs.lemmas.Option.{slice_get_within}
use Rattle.std.specs.Option.{option_map_or}
use Rattle.std.specs.List.{list_any, flat_map}
use Rattle.wb_metamodel.specs.Metamodel.{Metamodel, feature_at}
use Rattle.wb_ecore.specs.declared.features.Feature.{Feature}
use Rattle.wb_metamodel.specs.WellFormed.{WellFormed}
use Rattle.wb_store.specs.declared.scalars.Scalar.TheVariants.{Object}
use Rattle.wb_store.specs.Contents.{Contents, contains, is_containment}
use Rattle.wb_validity.specs.Valid.{IsValid}
use Rattle.wb_store.specs.Relinking.{Link, link, relink, both_ends, change, same_link, leads_to, stands, without_root}
use Rattle.wb_model.specs.Edits.{unlink, moved}
use Rattle.wb_store.specs.LinkSteps.{with_ends}
use Rattle.wb_model.proofs.Comings.{come_then, keep_given}
use Rattle.wb_model.proofs.EditSteps.{relink-relink, relink-agree}
use Rattle.wb_model.proofs.MoveSteps.{moved-held, place-free}
use Rattle.wb_model.proofs.Sound.{Stands, absent, contains-parts}
use Rattle.wb_model.proofs.KeptLinks.{housed, sound}
use Rattle.wb_store.proofs.Relinked.{metamodel-relink, none-any}

-- the feature of a containment slot is one of the metamodel
pub containment_known : (metamodel : Metamodel) (f : ℕ) → is_containment metamodel f ≡ true → f < length metamodel.features
containment_known metamodel f h =
    elim (feature_at metamodel f) as (λ r. feature_at metamodel f ≡ r → option_map_or (λ (feature : Feature). feature.containment) r false ≡ true → f < length metamodel.features) [
      | None ↦ λ e h. absurd (false≢true h)
      | Some feature ↦ λ e h. slice_get_within metamodel.features f feature e
    ] refl h

or_last : (b c : Bool) → c ≡ false → (b || c) ≡ b
or_last true c h = refl
or_last false c h = h

module _ (m : Contents) (well : WellFormed m.metamodel) (valid : IsValid m) where
  -- to leave and then to come is to change at once
  leave_then : (held l : Link) → with_ends l (unlink held m) ≡ change (same_link held) (l ∷ []) m
  leave_then held l =
      let mm = m.metamodel in
      let b : Link → Bool = λ j. list_any (same_link held) (both_ends mm j) in
      let never : Link → Bool = λ j. list_any (λ k. false) (both_ends mm j) in
      let comes : List Link = flat_map (both_ends mm) (l ∷ []) in
      ap (λ (metamodel : Metamodel). relink (λ j. list_any (λ k. false) (both_ends metamodel j)) (flat_map (both_ends metamodel) (l ∷ [])) (unlink held m)) (metamodel-relink b [] m)
      ∙ relink-relink b never [] comes m
      ∙ relink-agree (λ j. b j || never j) b ([] ++ comes) comes m (λ j st. or_last (b j) (never j) (none-any (both_ends mm j))) (λ o f. refl)

  come_leave : (held l : Link) → Stands m held → stands m l ≡ false → unlink held (with_ends l m) ≡ change (same_link held) (l ∷ []) m
  come_leave held l st fresh =
      let mm = m.metamodel in
      let b : Link → Bool = λ j. list_any (same_link held) (both_ends mm j) in
      ap (λ (metamodel : Metamodel). relink (λ j. list_any (same_link held) (both_ends metamodel j)) [] (with_ends l m)) (metamodel-relink _ _ m)
      ∙ come_then m b (same_link held) l (λ j s. refl) (λ j i. keep_given m well (sound m valid) l held (absent m l fresh) st j i)

  moved_fresh : (o p f : ℕ) → stands m (link p f (Object o)) ≡ false → change (leads_to m.metamodel o) (link p f (Object o) ∷ []) (without_root o m) ≡ moved o p f m
  moved_fresh o p f fresh = sym (ap (λ b. cond b m (change (leads_to m.metamodel o) (link p f (Object o) ∷ []) (without_root o m))) fresh)

  pub rehoused_held : (o p f q g : ℕ) → contains m q g o ≡ true → stands m (link p f (Object o)) ≡ false → unlink (link q g (Object o)) (with_ends (link p f (Object o)) m) ≡ moved o p f m
  rehoused_held o p f q g c fresh =
      let l : Link = link p f (Object o) in
      let held : Link = link q g (Object o) in
      come_leave held l (contains-parts m q g o c).1 fresh
      ∙ sym (leave_then held l)
      ∙ sym (moved-held m (sound m valid) (housed m valid) o q g l c)
      ∙ moved_fresh o p f fresh

  root_last : (o : ℕ) (l : Link) → without_root o (with_ends l m) ≡ with_ends l (without_root o m)
  unfolding relink
  root_last o l = refl

  pub rehoused_root : (o p f : ℕ) → ((q g : ℕ) → contains m q g o ≡ false) → stands m (link p f (Object o)) ≡ false → without_root o (with_ends (link p f (Object o)) m) ≡ moved o p f m
  rehoused_root o p f free fresh =
      root_last o (link p f (Object o))
      ∙ sym (place-free (without_root o m) (sound m valid).agree o p f free)
      ∙ moved_fresh o p f fresh
