-- The first place of what passes a test.
use Rattle.std.proofs.Common.{◌≡◌, ℕ, ◌+◌, ◌<◌, ◌≤◌, Bool, true, false, cond, eqb, ltb, List, [], ◌∷◌, ◌++◌, length, Option, Some, None, refl, sym, ap, ◌∙◌, subst, ⊎_elim, arith, get_or, take, not}
use Rattle.std.proofs.lemmas.Bool.{cases_lt, not-true, not-false, cond-true, cond-false, lt-ltb, le-ltb, eq-eqb, ne_eqb}
use Rattle.std.proofs.lemmas.List.Folds.{position_or_len_push}
use Rattle.std.proofs.lemmas.List.{length_push, take_more, length-take-le}
use Rattle.std.proofs.lemmas.List.Sums.{position_or_len_is, prefix_len-le-length, prefix_len_passes, prefix_len_stops}
use Rattle.std.proofs.lemmas.Option.{none-some, same_Some, slice_get_within, slice_get-get_or, get_or_from_slice_get}
use Rattle.std.specs.List.{position, position_or_len, slice_get, find}
use Rattle.std.specs.Option.{option_or, option_map_or}

counted : ℕ → ℕ → Option ℕ
counted k n = cond (ltb k n) (Some k) None

counted-in : (k n : ℕ) → k < n → counted k n ≡ Some k
unfolding counted
counted-in k n h = cond-true _ _ _ (lt-ltb k n h)

counted-out : (k n : ℕ) → n ≤ k → counted k n ≡ None
unfolding counted
counted-out k n h = cond-false _ _ _ (le-ltb k n h)

counted-push : (k n : ℕ) (b : Bool) → k ≤ n → counted (cond (eqb k n) (n + cond b 0 1) k) (n + 1) ≡ option_or (counted k n) (cond b (Some n) None)
counted-push k n true h =
    ⊎_elim
    (λ l.
    ap (λ j. counted j (n + 1)) (cond-false _ (n + 0) k (ne_eqb k n (omega arith))) ∙ counted-in k (n + 1) (omega arith) ∙ sym (ap (λ o. option_or o (Some n)) (counted-in k n l)))
    (λ m.
    ap (λ j. counted j (n + 1)) (cond-true _ (n + 0) k (eq-eqb k n (omega arith))) ∙ (let z : n + 0 ≡ n = omega arith in ap (λ j. counted j (n + 1)) z) ∙ counted-in n (n + 1) (omega arith) ∙ sym (ap (λ o. option_or o (Some n)) (counted-out k n m)))
    (cases_lt k n)
counted-push k n false h =
    ⊎_elim
    (λ l.
    ap (λ j. counted j (n + 1)) (cond-false _ (n + 1) k (ne_eqb k n (omega arith))) ∙ counted-in k (n + 1) (omega arith) ∙ sym (ap (λ o. option_or o None) (counted-in k n l)))
    (λ m.
    ap (λ j. counted j (n + 1)) (cond-true _ (n + 1) k (eq-eqb k n (omega arith))) ∙ counted-out (n + 1) (n + 1) (omega arith) ∙ sym (ap (λ o. option_or o None) (counted-out k n m)))
    (cases_lt k n)

is_counted : {X : Type 0} (p : X → Bool) (xs : List X) → position p xs ≡ counted (position_or_len p xs) (length xs)
unfolding counted
is_counted p xs = refl

-- one more item
pub position-push : {X : Type 0} (p : X → Bool) (xs : List X) (x : X) → position p (xs ++ x ∷ []) ≡ option_or (position p xs) (cond (p x) (Some (length xs)) None)
position-push p xs x =
    is_counted p (xs ++ x ∷ [])
    ∙ ap (λ k. counted k (length (xs ++ x ∷ []))) (position_or_len_push p xs x)
    ∙ ap (counted (cond (eqb (position_or_len p xs) (length xs)) (length xs + cond (p x) 0 1) (position_or_len p xs))) (length_push xs x)
    ∙ counted-push (position_or_len p xs) (length xs) (p x) (prefix_len-le-length (λ y. not (p y)) xs)
    ∙ sym (ap (λ o. option_or o (cond (p x) (Some (length xs)) None)) (is_counted p xs))

-- one more item of a list that is walked
pub position_more : {X : Type 0} (p : X → Bool) (xs : List X) (i : ℕ) (x : X) → i < length xs → x ≡ get_or xs i x
    → position p (take (i + 1) xs) ≡ option_or (position p (take i xs)) (cond (p x) (Some i) None)
position_more p xs i x h e =
    ap (position p) (take_more xs i x h)
    ∙ position-push p (take i xs) (get_or xs i x)
    ∙ ap (λ n. option_or (position p (take i xs)) (cond (p (get_or xs i x)) (Some n) None)) (length-take-le i xs (omega arith))
    ∙ ap (λ y. option_or (position p (take i xs)) (cond (p y) (Some i) None)) (sym e)

-- where there is no first place, nothing passes
pub position-None : {X : Type 0} (p : X → Bool) (xs : List X) (i : ℕ) (x : X) → position p xs ≡ None → slice_get xs i ≡ Some x → p x ≡ false
unfolding counted
position-None p xs i x none at =
    ⊎_elim
    (λ l. absurd (none-some (position_or_len p xs) (sym none ∙ counted-in (position_or_len p xs) (length xs) l)))
    (λ m.
    let inside : i < length xs = slice_get_within xs i x at in
    ap p (sym (get_or_from_slice_get xs i x x at)) ∙ not-true _ (prefix_len_passes (λ y. not (p y)) xs i x (omega arith)))
    (cases_lt (position_or_len p xs) (length xs))

-- what stands at the first place passes
pub position-Some : {X : Type 0} (p : X → Bool) (xs : List X) (k : ℕ) → position p xs ≡ Some k → (x : X) × (slice_get xs k ≡ Some x) × (p x ≡ true)
unfolding counted
position-Some p xs k e =
    ⊎_elim
    (λ l.
    let same : position_or_len p xs ≡ k = same_Some (position_or_len p xs) k (sym (counted-in (position_or_len p xs) (length xs) l) ∙ e) in
    passes_at p xs k (omega arith) same)
    (λ m. absurd (none-some k (sym (counted-out (position_or_len p xs) (length xs) m) ∙ e)))
    (cases_lt (position_or_len p xs) (length xs))
  where
    passes_at : {X : Type 0} (p : X → Bool) (xs : List X) (k : ℕ) → k < length xs → position_or_len p xs ≡ k → (x : X) × (slice_get xs k ≡ Some x) × (p x ≡ true)
    passes_at p [] k h s = absurd (omega arith)
    passes_at {X} p (y ∷ ys) k h s = (
      get_or (y ∷ ys) k y,
      slice_get-get_or (y ∷ ys) k y h,
      not-false _ (subst (λ j. not (p (get_or (y ∷ ys) j y)) ≡ false) s (prefix_len_stops (λ x. not (p x)) (y ∷ ys) y (omega arith))),
    )

pub find-none : {X : Type 0} (p : X → Bool) (xs : List X) → ((x : X) → p x ≡ false) → find p xs ≡ None
find-none p [] h = refl
find-none p (x ∷ xs) h = cond-false (p x) (Some x) (find p xs) (h x) ∙ find-none p xs h

pub find-same : {X : Type 0} (p q : X → Bool) (xs : List X) → ((x : X) → p x ≡ q x) → find p xs ≡ find q xs
find-same p q [] h = refl
find-same p q (x ∷ xs) h = ap (λ b. cond b (Some x) (find p xs)) (h x) ∙ ap (cond (q x) (Some x)) (find-same p q xs h)

-- a test of what stands at a place, where it fails at all that stands
pub at-false : {X : Type 0} (p : X → Bool) (o : Option X) → ((x : X) → o ≡ Some x → p x ≡ false) → option_map_or p o false ≡ false
at-false p None h = refl
at-false p (Some x) h = h x refl

-- the first place, where what stands before it does not pass
pub position-first : {X : Type 0} (p : X → Bool) (xs : List X) (i : ℕ) (x : X) → slice_get xs i ≡ Some x → p x ≡ true → ((k : ℕ) (z : X) → k < i → slice_get xs k ≡ Some z → p z ≡ false) → position p xs ≡ Some i
unfolding counted
position-first p xs i x at passes before =
    let inside : i < length xs = slice_get_within xs i x at in
    let first : position_or_len p xs ≡ i =
    position_or_len_is p xs i x (omega arith)
    (λ k l. before k (get_or xs k x) l (slice_get-get_or xs k x (omega arith)))
    (λ _. ap p (get_or_from_slice_get xs i x x at) ∙ passes) in
    is_counted p xs ∙ ap (λ k. counted k (length xs)) first ∙ counted-in i (length xs) inside
