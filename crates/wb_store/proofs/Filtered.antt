-- What stays of a list when some of it is left out.
use Rattle.std.proofs.Common.{◌≡◌, ◌≤◌, Bool, true, false, not, ◌||◌, List, [], ◌∷◌, length, sym, ap, subst, refl, ◌∙◌, cond, arith, ◌⊎◌, inl, inr, ⊎_elim}
use Rattle.std.specs.Prelude.{filter}
use Rattle.wb_store.proofs.Members.{In}
use Rattle.wb_store.proofs.Members.In.{here, there}

module _ {A : Type 0} where
  pub In-cons : (y : A) (ys : List A) (x : A) → In x (y ∷ ys) → (y ≡ x) ⊎ In x ys
  In-cons y ys x here = inl refl
  In-cons y ys x (there m) = inr m

  pub filter-In : (p : A → Bool) (xs : List A) (x : A) → In x (filter p xs) → In x xs × (p x ≡ true)
  filter-In p [] x m = elim m [ ]
  filter-In p (y ∷ xs) x m =
      elim (p y) as (λ b. p y ≡ b → In x (cond b (y ∷ filter p xs) (filter p xs)) → In x (y ∷ xs) × (p x ≡ true)) [
        | true ↦ λ e m.
            ⊎_elim
            (λ s. (subst (λ z. In z (y ∷ xs)) s here, subst (λ z. p z ≡ true) s e))
            (λ n. let r = filter-In p xs x n in (there r.0, r.1))
            (In-cons y (filter p xs) x m)
        | false ↦ λ e m. let r = filter-In p xs x m in (there r.0, r.1)
      ] refl m

  pub In-filter : (p : A → Bool) (xs : List A) (x : A) → In x xs → p x ≡ true → In x (filter p xs)
  In-filter p [] x m h = elim m [ ]
  In-filter p (z ∷ xs) x here h = subst (λ b. In x (cond b (x ∷ filter p xs) (filter p xs))) (sym h) here
  In-filter p (y ∷ xs) x (there m) h =
      elim (p y) as (λ b. In x (cond b (y ∷ filter p xs) (filter p xs))) [
        | true ↦ there (In-filter p xs x m h)
        | false ↦ In-filter p xs x m h
      ]

  pub filter-few : (p : A → Bool) (xs : List A) → length (filter p xs) ≤ length xs
  filter-few p [] = omega arith
  filter-few p (x ∷ xs) =
      let few = filter-few p xs in
      elim (p x) as (λ b. length (cond b (x ∷ filter p xs) (filter p xs)) ≤ length (x ∷ xs)) [
        | true ↦ omega arith
        | false ↦ omega arith
      ]

  pub filter-none : (p : A → Bool) (xs : List A) → ((x : A) → In x xs → p x ≡ false) → filter p xs ≡ []
  filter-none p [] h = refl
  filter-none p (x ∷ xs) h = ap (λ b. cond b (x ∷ filter p xs) (filter p xs)) (h x here) ∙ filter-none p xs (λ y m. h y (there m))

  pub filter-all : (p : A → Bool) (xs : List A) → ((x : A) → In x xs → p x ≡ true) → filter p xs ≡ xs
  filter-all p [] h = refl
  filter-all p (x ∷ xs) h = ap (λ b. cond b (x ∷ filter p xs) (filter p xs)) (h x here) ∙ ap (λ rest. x ∷ rest) (filter-all p xs (λ y m. h y (there m)))

  pub filter-same : (p q : A → Bool) (xs : List A) → ((x : A) → In x xs → p x ≡ q x) → filter p xs ≡ filter q xs
  filter-same p q [] h = refl
  filter-same p q (x ∷ xs) h = λ i. cond (h x here i) (x ∷ filter-same p q xs (λ y m. h y (there m)) i) (filter-same p q xs (λ y m. h y (there m)) i)

  pub filter-twice : (a b : A → Bool) (xs : List A) → filter (λ x. not (b x)) (filter (λ x. not (a x)) xs) ≡ filter (λ x. not (a x || b x)) xs
  filter-twice a b [] = refl
  filter-twice a b (x ∷ xs) =
      let later = filter-twice a b xs in
      elim (a x) as (λ t. filter (λ x. not (b x)) (cond (not t) (x ∷ filter (λ x. not (a x)) xs) (filter (λ x. not (a x)) xs)) ≡ cond (not (t || b x)) (x ∷ filter (λ x. not (a x || b x)) xs) (filter (λ x. not (a x || b x)) xs)) [
        | true ↦ later
        | false ↦ ap (λ rest. cond (not (b x)) (x ∷ rest) rest) later
      ]
