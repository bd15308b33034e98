-- An object that is put into a containment slot: containment stays a forest, and the roots are what stands in no slot.
use Rattle.std.proofs.Common.{◌≡◌, ◌≢◌, ℕ, true, refl, sym, subst, ◌∙◌, ◌⊎◌, inl, inr, ⊎_elim}
use Rattle.std.proofs.lemmas.Bool.{false≢true}
use Rattle.std.specs.Prelude.{IsSome}
use Rattle.wb_store.specs.Contents.{Contents, kind, contains}
use Rattle.wb_store.specs.Places.{once}
use Rattle.wb_validity.specs.Valid.{AreContainedOnce, Within, NoneIsWithinItself, is_root, RootsAreUncontained}
use Rattle.wb_validity.specs.Valid.Within.{directly, through}
use Rattle.wb_validity.proofs.LinkLemmas.{to_false}
use Rattle.wb_model.proofs.Sound.{Housed}

pub within-joined : (m : Contents) (a b c : ℕ) → Within m a b → Within m b c → Within m a c
within-joined m a b c w (directly f h) = through f w h
within-joined m a b c w (through {q = q} f v h) = through f (within-joined m a b q w v) h

-- the first step of a way down
pub within-first : (m : Contents) (p o : ℕ) → Within m p o → (f q : ℕ) × (contains m p f q ≡ true) × ((q ≡ o) ⊎ Within m q o)
within-first m p o (directly f h) = (f, o, h, inl refl)
within-first m p o (through {q = q} f w h) =
    let first = within-first m p q w in
    (first.0, first.1, first.2, inr (⊎_elim (λ e. directly f (subst (λ z. contains m z f o ≡ true) (sym e) h)) (λ v. through f v h) first.3))

-- the object stands in the slot, and in no other one; the others stand where they did
pub record IsRehoused (m n : Contents) (p f o : ℕ) : Type 0 where
  pub only : (q g x : ℕ) → contains n q g x ≡ true → ((contains m q g x ≡ true) × (x ≢ o)) ⊎ ((q ≡ p) × (g ≡ f) × (x ≡ o))
  pub stays : (q g x : ℕ) → contains m q g x ≡ true → x ≢ o → contains n q g x ≡ true
  pub placed : contains n p f o ≡ true
  -- no other object goes or comes
  pub live : (x : ℕ) → IsSome (kind n x) → x ≢ o → IsSome (kind m x)
  pub lives : (x : ℕ) → IsSome (kind m x) → IsSome (kind n x)
  -- it does not contain its new container
  pub apart : p ≢ o
  pub not_within : ¬ (Within m o p)
  -- it is no root
  pub roots_once : once n.roots ≡ true
  pub root : (x : ℕ) → is_root n x ≡ true → (is_root m x ≡ true) × (x ≢ o)
  pub roots : (x : ℕ) → is_root m x ≡ true → x ≢ o → is_root n x ≡ true

module _ (m n : Contents) (p f o : ℕ) (is : IsRehoused m n p f o) (h : Housed m) where
  -- above and below the new link
  abbrev Above : ℕ → Type 0
  Above a = (a ≡ p) ⊎ Within m a p

  abbrev Below : ℕ → Type 0
  Below x = (o ≡ x) ⊎ Within m o x

  below-step : (q g x : ℕ) → Below q → contains m q g x ≡ true → Within m o x
  below-step q g x below c = ⊎_elim (λ e. directly g (subst (λ z. contains m z g x ≡ true) (sym e) c)) (λ w. through g w c) below

  not-below : Below p → ⊥
  not-below below = ⊎_elim (λ e. is.apart (sym e)) (λ w. is.not_within w) below

  way : (a x : ℕ) → Within n a x → Within m a x ⊎ (Above a × Below x)
  way a x (directly g c) =
      ⊎_elim (λ old. inl (directly g old.0)) (λ new. inr (inl new.0, inl (sym new.2))) (is.only a g x c)
  way a x (through {q = q} g w c) =
      ⊎_elim
      (λ old. ⊎_elim (λ up. inl (through g up old.0)) (λ both. inr (both.0, inr (below-step q g x both.1 old.0))) (way a q w))
      (λ new. ⊎_elim
      (λ up. inr (inr (subst (Within m a) new.0 up), inl (sym new.2)))
      (λ both. absurd (not-below (⊎_elim (λ e. inl (e ∙ new.0)) (λ v. inr (subst (Within m o) new.0 v)) both.1)))
      (way a q w))
      (is.only q g x c)

  ring : (x : ℕ) → Above x → Below x → Below p
  ring x above below =
      ⊎_elim
      (λ e. ⊎_elim (λ d. inl (d ∙ e)) (λ w. inr (subst (Within m o) e w)) below)
      (λ v. ⊎_elim (λ d. inr (subst (λ z. Within m z p) (sym d) v)) (λ w. inr (within-joined m o x p w v)) below)
      above

  once-kept : AreContainedOnce n
  once-kept x q r g k live a b =
      ⊎_elim
      (λ old. ⊎_elim
      (λ too. h.once x q r g k (is.live x live old.1) old.0 too.0)
      (λ new. absurd (old.1 new.2))
      (is.only r k x b))
      (λ new. ⊎_elim
      (λ old. absurd (old.1 new.2))
      (λ too. (new.0 ∙ sym too.0, new.1 ∙ sym too.1))
      (is.only r k x b))
      (is.only q g x a)

  no_ring-kept : NoneIsWithinItself n
  no_ring-kept x w = ⊎_elim (λ old. h.no_ring x old) (λ both. not-below (ring x both.0 both.1)) (way x x w)

  roots-kept : RootsAreUncontained n
  roots-kept = record {
    each_once = is.roots_once;
    live = λ x r. is.lives x (h.roots.live x (is.root x r).0);
    uncontained = λ x q g r. to_false _ (λ c. ⊎_elim (λ old. false≢true (sym (h.roots.uncontained x q g (is.root x r).0) ∙ old.0)) (λ new. (is.root x r).1 new.2) (is.only q g x c));
    all = λ x live none.
        let other : x ≢ o = λ e. false≢true (sym (none p f) ∙ subst (λ z. contains n p f z ≡ true) (sym e) is.placed) in
        is.roots x (h.roots.all x (is.live x live other) (λ q g. to_false _ (λ c. false≢true (sym (none q g) ∙ is.stays q g x c other)))) other;
  }

  pub housed-rehoused : Housed n
  housed-rehoused = record { once = once-kept; no_ring = no_ring-kept; roots = roots-kept }
