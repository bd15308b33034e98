-- How many were seen, once one more is.
use Rattle.std.proofs.Common.{◌≡◌, ◌+◌, ◌≤◌, ℕ, zero, suc, Bool, true, false, List, [], ◌∷◌, length, take, cond, Option, Some, refl, sym, ap, ◌∙◌, arith}
use Rattle.std.specs.declared.cmp.Ordering.{Ordering}
use Rattle.std.specs.declared.cmp.Ordering.TheVariants as c
use Rattle.std.specs.List.{filter}
use Rattle.std.specs.Map.{count_at}
use Rattle.std.specs.Option.{unwrap_or}
use Rattle.std.specs.Ordering.{is_eq}
use Rattle.wb_diagram.specs.declared.keys.Key.{Key}
use Rattle.wb_layout.specs.Orders.{key_cmp, same_key}
use Rattle.wb_layout.proofs.KeyOrder.{key_cmp-IsAntisymmetric}

equal_of : (r : Ordering) → is_eq r ≡ true → r ≡ c.Equal
equal_of c.Less e = absurd cc
equal_of c.Equal e = refl
equal_of c.Greater e = absurd cc

one_more : (b : Bool) (n : ℕ) (o : Option ℕ) → (b ≡ true → unwrap_or o 0 ≡ n) → unwrap_or (cond b (Some (n + 1)) o) 0 ≡ unwrap_or o 0 + cond b 1 0
one_more true n o h = ap (λ x. x + 1) (sym (h refl))
one_more false n o h = omega arith

pub counted_more : (old new : Key → Option ℕ) (k p : Key) (n : ℕ) (q : Key) → k ≡ p → n ≡ count_at old k → new q ≡ cond (same_key k q) (Some (n + 1)) (old q)
    → count_at new q ≡ count_at old q + cond (same_key p q) 1 0
counted_more old new k p n q same is e =
    ap (λ o. unwrap_or o 0) e
    ∙ one_more (same_key k q) n (old q) (λ t. ap (count_at old) (sym (key_cmp-IsAntisymmetric k q (equal_of (key_cmp k q) t))) ∙ sym is)
    ∙ ap (λ x. count_at old q + cond (same_key x q) 1 0) same

pub few : {X : Type 0} (p : X → Bool) (xs : List X) (i : ℕ) → length (filter p (take i xs)) ≤ i
few p xs zero = omega arith
few p [] (suc i) = omega arith
few p (x ∷ xs) (suc i) = at_most_one_more (p x) x (filter p (take i xs)) i (few p xs i)
  where
    at_most_one_more : {X : Type 0} (b : Bool) (x : X) (ys : List X) (i : ℕ) → length ys ≤ i → length (cond b (x ∷ ys) ys) ≤ suc i
    at_most_one_more true x ys i l = omega arith
    at_most_one_more false x ys i l = omega arith
