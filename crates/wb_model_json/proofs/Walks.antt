-- What is true of the results of a walk, one step after the other.
use Rattle.std.proofs.Common.{◌≡◌, ℕ, Bool, true, false, List, [], ◌∷◌, map, Some, Result, Ok, refl, sym, ap, ◌∙◌, subst, cond}
use Rattle.std.proofs.lemmas.Bool.{and_from}
use Rattle.std.proofs.lemmas.Option.{none-some, same_Some}
use Rattle.std.specs.List.{list_all, find, AllByRecursion}
use Rattle.wb_base.specs.Results.{◌>>=◌}
use Rattle.wb_base.proofs.Steps.{then_ok, same_ok}
use Rattle.wb_json.specs.Place.{Place}
use Rattle.wb_json.specs.Form.{in_turn}
use Rattle.wb_store.proofs.Members.{In}
use Rattle.wb_store.proofs.Members.In.{here, there}

-- what is found in a list stands in it, and is what was looked for
pub find-own : (p : ℕ → Bool) (xs : List ℕ) (x : ℕ) → find p xs ≡ Some x → In x xs × (p x ≡ true)
find-own p [] x e = absurd (none-some x e)
find-own p (z ∷ xs) x e =
    elim (p z) as (λ b. p z ≡ b → cond b (Some z) (find p xs) ≡ Some x → In x (z ∷ xs) × (p x ≡ true)) [
      | true ↦ λ t e. let s = same_Some z x e in (subst (λ y. In y (z ∷ xs)) s here, subst (λ y. p y ≡ true) s t)
      | false ↦ λ t e. let r = find-own p xs x e in (there r.0, r.1)
    ] refl e

module _ {A B : Type 0} (step : A → Result B Place) where
  -- the first step of a walk, and the others
  pub record Walked (x : A) (xs : List A) (ys : List B) : Type 0 where
    pub first : B
    pub others : List B
    pub made : step x ≡ Ok first
    pub made_on : in_turn step xs ≡ Ok others
    pub all : ys ≡ first ∷ others

  pub turned : (x : A) (xs : List A) (ys : List B) → in_turn step (x ∷ xs) ≡ Ok ys → Walked x xs ys
  turned x xs ys e =
      let one = then_ok (step x) (λ y. in_turn step xs >>= (λ ys. Ok (y ∷ ys))) ys e in
      let two = then_ok (in_turn step xs) (λ ys. Ok (one.0 ∷ ys)) ys one.2 in
      record { first = one.0; others = two.0; made = one.1; made_on = two.1; all = sym (same_ok (one.0 ∷ two.0) ys two.2) }

  pub turn-each : (P : B → Type 0) → ((x : A) (y : B) → step x ≡ Ok y → P y) → (xs : List A) (ys : List B) → in_turn step xs ≡ Ok ys → AllByRecursion P ys
  turn-each P h [] ys e = subst (AllByRecursion P) (same_ok [] ys e) tt
  turn-each P h (x ∷ xs) ys e =
      let w = turned x xs ys e in
      subst (AllByRecursion P) (sym w.all) (h x w.first w.made, turn-each P h xs w.others w.made_on)

  pub turn-passes : (p : B → Bool) → ((x : A) (y : B) → step x ≡ Ok y → p y ≡ true) → (xs : List A) (ys : List B) → in_turn step xs ≡ Ok ys → list_all p ys ≡ true
  turn-passes p h [] ys e = subst (λ (ys : List B). list_all p ys ≡ true) (same_ok [] ys e) refl
  turn-passes p h (x ∷ xs) ys e =
      let w = turned x xs ys e in
      subst (λ (ys : List B). list_all p ys ≡ true) (sym w.all) (and_from _ _ (h x w.first w.made) (turn-passes p h xs w.others w.made_on))

  pub turn-keeps : {C : Type 0} (f : A → C) (g : B → C) → ((x : A) (y : B) → step x ≡ Ok y → g y ≡ f x) → (xs : List A) (ys : List B) → in_turn step xs ≡ Ok ys → map g ys ≡ map f xs
  turn-keeps f g h [] ys e = ap (map g) (sym (same_ok [] ys e))
  turn-keeps f g h (x ∷ xs) ys e =
      let w = turned x xs ys e in
      ap (map g) w.all ∙ (λ i. h x w.first w.made i ∷ turn-keeps f g h xs w.others w.made_on i)
