-- The test `leads_through` holds exactly where a path leads.
use Rattle.std.proofs.Common.{◌≡◌, ℕ, Bool, true, false, cond, eqb, List, [], ◌∷◌, refl, sym, subst, ◌↔◌, inl, inr, ⊎_elim, ◌⊎◌}
use Rattle.std.proofs.lemmas.Bool.{false≢true, or_cases, or_left, or_right, eqb-true, eq-eqb}
use Rattle.std.specs.List.{list_any}
use Rattle.wb_base.specs.Paths.{Leads, LeadsThrough, leads_through}
use Rattle.wb_base.specs.Paths.Leads.{directly as one_step, onward as and_step}
use Rattle.wb_base.specs.Paths.LeadsThrough.{directly, onward}

both : (x y : Bool) → x ≡ true → y ≡ true → cond x y false ≡ true
both true y h k = k
both false y h k = h

parts : (x y : Bool) → cond x y false ≡ true → (x ≡ true) × (y ≡ true)
parts true y h = (refl, h)
parts false y h = absurd (false≢true h)

module _ (edge : ℕ → ℕ → Bool) where
  -- an edge is a path
  pub leads_through-edge : (ks : List ℕ) (a b : ℕ) → edge a b ≡ true → leads_through edge ks a b ≡ true
  unfolding leads_through
  leads_through-edge [] a b h = h
  leads_through-edge (k ∷ ks) a b h = or_left _ _ (leads_through-edge ks a b h)

  -- a path either has the first number of the list between its ends, or does without it
  by_first : (j : ℕ) (ks : List ℕ) (a b : ℕ) → leads_through edge (j ∷ ks) a b ≡ true
      → (leads_through edge ks a b ≡ true) ⊎ ((leads_through edge ks a j ≡ true) × (leads_through edge ks j b ≡ true))
  unfolding leads_through
  by_first j ks a b h = ⊎_elim (λ p. inl p) (λ p. inr (parts _ _ p)) (or_cases (leads_through edge ks a b) _ h)

  without : (j : ℕ) (ks : List ℕ) (a b : ℕ) → leads_through edge ks a b ≡ true → leads_through edge (j ∷ ks) a b ≡ true
  unfolding leads_through
  without j ks a b h = or_left _ _ h

  over : (j : ℕ) (ks : List ℕ) (a b : ℕ) → leads_through edge ks a j ≡ true → leads_through edge ks j b ≡ true → leads_through edge (j ∷ ks) a b ≡ true
  unfolding leads_through
  over j ks a b p q = or_right (leads_through edge ks a b) _ (both _ _ p q)

  up_to_first : (j : ℕ) (ks : List ℕ) (a : ℕ) → leads_through edge (j ∷ ks) a j ≡ true → leads_through edge ks a j ≡ true
  up_to_first j ks a p = ⊎_elim (λ h. h) (λ h. h.0) (by_first j ks a j p)

  from_first : (j : ℕ) (ks : List ℕ) (b : ℕ) → leads_through edge (j ∷ ks) j b ≡ true → leads_through edge ks j b ≡ true
  from_first j ks b q = ⊎_elim (λ h. h) (λ h. h.1) (by_first j ks j b q)

  -- two paths join at a number of the list
  pub leads_through-joined : (ks : List ℕ) (k : ℕ) → list_any (eqb k) ks ≡ true
      → (a b : ℕ) → leads_through edge ks a k ≡ true → leads_through edge ks k b ≡ true → leads_through edge ks a b ≡ true
  leads_through-joined [] k m a b p q = absurd (false≢true m)
  leads_through-joined (j ∷ ks) k m a b p q =
      ⊎_elim
      (λ e.
      let same : k ≡ j = eqb-true k j e in
      over j ks a b
      (up_to_first j ks a (subst (λ x. leads_through edge (j ∷ ks) a x ≡ true) same p))
      (from_first j ks b (subst (λ x. leads_through edge (j ∷ ks) x b ≡ true) same q)))
      (λ i.
      let join : (x y : ℕ) → leads_through edge ks x k ≡ true → leads_through edge ks k y ≡ true → leads_through edge ks x y ≡ true = leads_through-joined ks k i in
      ⊎_elim
      (λ h. ⊎_elim (λ g. without j ks a b (join a b h g)) (λ g. over j ks a b (join a j h g.0) g.1) (by_first j ks k b q))
      (λ h. ⊎_elim (λ g. over j ks a b h.0 (join j b h.1 g)) (λ g. over j ks a b h.0 g.1) (by_first j ks k b q))
      (by_first j ks a k p))
      (or_cases (eqb k j) _ m)

  wider : (j : ℕ) (ks : List ℕ) (a b : ℕ) → LeadsThrough edge ks a b → LeadsThrough edge (j ∷ ks) a b
  wider j ks a b (directly h) = directly h
  wider j ks a b (onward {k = k} p m h) = onward (wider j ks a k p) (or_right (eqb k j) _ m) h

  joined : (ks : List ℕ) (a k b : ℕ) → list_any (eqb k) ks ≡ true → LeadsThrough edge ks a k → LeadsThrough edge ks k b → LeadsThrough edge ks a b
  joined ks a k b m p (directly h) = onward p m h
  joined ks a k b m p (onward {k = j} q n h) = onward (joined ks a k j m p q) n h

  path_from_test : (ks : List ℕ) (a b : ℕ) → leads_through edge ks a b ≡ true → LeadsThrough edge ks a b
  unfolding leads_through
  path_from_test [] a b h = directly h
  path_from_test (j ∷ ks) a b h =
      ⊎_elim
      (λ g. wider j ks a b (path_from_test ks a b g))
      (λ g. joined (j ∷ ks) a j b (or_left (eqb j j) _ (eq-eqb j j refl)) (wider j ks a j (path_from_test ks a j g.0)) (wider j ks j b (path_from_test ks j b g.1)))
      (by_first j ks a b h)

  test_from_path : (ks : List ℕ) (a b : ℕ) → LeadsThrough edge ks a b → leads_through edge ks a b ≡ true
  test_from_path ks a b (directly h) = leads_through-edge ks a b h
  test_from_path ks a b (onward {k = k} p m h) = leads_through-joined ks k m a b (test_from_path ks a k p) (leads_through-edge ks k b h)

  -- the test decides, for any list, whether there is a path through it
  pub leads_through-decides : (ks : List ℕ) (a b : ℕ) → (leads_through edge ks a b ≡ true) ↔ LeadsThrough edge ks a b
  leads_through-decides ks a b = (path_from_test ks a b, test_from_path ks a b)

  anywhere : (ks : List ℕ) (a b : ℕ) → LeadsThrough edge ks a b → Leads edge a b
  anywhere ks a b (directly h) = one_step h
  anywhere ks a b (onward {k = k} p m h) = and_step (anywhere ks a k p) h

  within : (ks : List ℕ) → ((k b : ℕ) → edge k b ≡ true → list_any (eqb k) ks ≡ true) → (a b : ℕ) → Leads edge a b → LeadsThrough edge ks a b
  within ks all a b (one_step h) = directly h
  within ks all a b (and_step {k = k} p h) = onward (within ks all a k p) (all k b h) h

  -- a list that has every number with an edge to another is wide enough for every path
  pub leads_through-decides_all : (ks : List ℕ) → ((k b : ℕ) → edge k b ≡ true → list_any (eqb k) ks ≡ true)
      → (a b : ℕ) → (leads_through edge ks a b ≡ true) ↔ Leads edge a b
  leads_through-decides_all ks all a b = (λ h. anywhere ks a b (path_from_test ks a b h), λ p. test_from_path ks a b (within ks all a b p))

  -- ---- paths of any length

  -- two paths join
  pub leads-joined : (a k b : ℕ) → Leads edge a k → Leads edge k b → Leads edge a b
  leads-joined a k b p (one_step h) = and_step p h
  leads-joined a k b p (and_step {k = j} q h) = and_step (leads-joined a k j p q) h

  -- an edge, and a path from its end
  pub leads-over : (a k b : ℕ) → edge a k ≡ true → Leads edge k b → Leads edge a b
  leads-over a k b h p = leads-joined a k b (one_step h) p

  -- a path begins with an edge, which ends where the path does or where a path goes on
  pub leads-first : (a b : ℕ) → Leads edge a b → (k : ℕ) × (edge a k ≡ true) × ((k ≡ b) ⊎ Leads edge k b)
  leads-first a b (one_step h) = (b, h, inl refl)
  leads-first a b (and_step {k = j} p h) =
      let first = leads-first a j p in
      (first.0, first.1, inr (⊎_elim (λ e. one_step (subst (λ x. edge x b ≡ true) (sym e) h)) (λ q. and_step q h) first.2))
