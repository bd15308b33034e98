-- What a search in a list that rises finds, and what a finite map of that list has.
use Rattle.std.proofs.Common.{◌≡◌, ◌≢◌, ℕ, ◌+◌, ◌<◌, suc, zero, Bool, true, false, List, [], ◌∷◌, length, get_or, Some, None, Result, Ok, Err, refl, sym, ap, subst, ◌∙◌, cond, ltb, eqb, arith, Ordering, ⊎_elim}
use Rattle.std.specs.FinMap.{nat_cmp-IsAntisymmetric}
use Rattle.std.proofs.lemmas.Bool.{cases_lt, and_parts}
use Rattle.std.proofs.lemmas.Option.{slice_get_read, none-some, same_Some}
use Rattle.std.proofs.lemmas.Bool.Decides.{nat_tests}
use Rattle.std.proofs.lemmas.List.Sorted.{searchable_from_sorted}
use Rattle.std.proofs.lemmas.Cmp.{nat_cmp_total}
use Rattle.std.specs.Ordering.{nat_cmp, is_lt}
use Rattle.std.specs.List.{list_all, slice_get}
use Rattle.std.specs.List.Sorted.{IsSortedBy, IsBinarySearchResult, IsSearchInRange}
use Rattle.std.specs.Result.{result_ok}
use Rattle.wb_store.specs.Places.{rises, numbered, IsPlaceOf}

pub is_itself : (n : ℕ) → eqb n n ≡ true
is_itself n = grind (arith, nat_tests)

module _ {A : Type 0} (number : A → ℕ) where
  pub all_at : (p : A → Bool) (xs : List A) (i : ℕ) (d : A) → list_all p xs ≡ true → i < length xs → p (get_or xs i d) ≡ true
  all_at p [] i d h l = absurd (omega arith)
  all_at p (x ∷ xs) zero d h l = (and_parts _ _ h).0
  all_at p (x ∷ xs) (suc i) d h l = all_at p xs i d (and_parts _ _ h).1 (omega arith)

  pub rises-below : (xs : List A) (i j : ℕ) (d : A) → rises number xs ≡ true → i < j → j < length xs → number (get_or xs i d) < number (get_or xs j d)
  rises-below [] i j d h l m = absurd (omega arith)
  rises-below (x ∷ xs) zero zero d h l m = absurd (omega arith)
  rises-below (x ∷ xs) zero (suc j) d h l m =
      let t : ltb (number x) (number (get_or xs j d)) ≡ true = all_at (λ y. ltb (number x) (number y)) xs j d (and_parts _ _ h).0 (omega arith) in
      grind (arith, nat_tests)
  rises-below (x ∷ xs) (suc i) zero d h l m = absurd (omega arith)
  rises-below (x ∷ xs) (suc i) (suc j) d h l m = rises-below xs i j d (and_parts _ _ h).1 (omega arith) (omega arith)

  not_less : (a b : ℕ) → b < a → is_lt (nat_cmp a b) ≡ false
  not_less a b h = grind (arith, nat_tests)

  pub rises-sorted : (xs : List A) → rises number xs ≡ true → IsSortedBy (λ a b. is_lt (nat_cmp (number a) (number b))) xs
  rises-sorted xs h k d l m = not_less _ _ (rises-below xs k (k + 1) d h (omega arith) m)

  pub never_less : (a b : ℕ) → nat_cmp a b ≡ Ordering.Less → a ≢ b
  never_less a b e f = absurd (grind (arith, nat_tests))

  pub never_greater : (a b : ℕ) → nat_cmp a b ≡ Ordering.Greater → a ≢ b
  never_greater a b e f = absurd (grind (arith, nat_tests))

  pub place_found : (xs : List A) (n : ℕ) (r : Result ℕ ℕ) → rises number xs ≡ true → IsSearchInRange r (length xs) → IsBinarySearchResult (λ y. nat_cmp (number y) n) xs r → IsPlaceOf number xs n (result_ok r)
  place_found xs n (Ok i) h b p = (b, λ d. nat_cmp-IsAntisymmetric _ _ (p d))
  place_found xs n (Err i) h b p = λ k d l e.
      let q = p (searchable_from_sorted nat_cmp_total number xs n (rises-sorted xs h)) in
      ⊎_elim (λ m. never_less _ _ (q.0 k d (omega arith) m) e) (λ m. never_greater _ _ (q.1 k d m l) e) (cases_lt k i)

  above_other : (a n : ℕ) → a < n → eqb n a ≡ false
  above_other a n h = grind (arith, nat_tests)

  pub numbered_at : (xs : List A) (n i : ℕ) (x : A) → rises number xs ≡ true → IsPlaceOf number xs n (Some i) → slice_get xs i ≡ Some x → numbered number n xs ≡ Some x
  numbered_at [] n i x h p e = absurd (omega (arith, p.0))
  numbered_at (y ∷ ys) n zero x h p e = ap (λ b. cond b (Some y) (numbered number n ys)) (subst (λ k. eqb n k ≡ true) (sym (p.1 y)) (is_itself n)) ∙ e
  numbered_at (y ∷ ys) n (suc i) x h p e =
      let apart : number y < n = subst (λ k. number y < k) (p.1 y) (rises-below (y ∷ ys) 0 (suc i) y h (omega arith) p.0) in
      ap (λ b. cond b (Some y) (numbered number n ys)) (above_other _ _ apart) ∙ numbered_at ys n i x (and_parts _ _ h).1 (omega (arith, p.0), p.1) e

  other : (a n : ℕ) → a ≢ n → eqb n a ≡ false
  other a n h = grind (arith, nat_tests)

  pub numbered_none : (xs : List A) (n : ℕ) → IsPlaceOf number xs n None → numbered number n xs ≡ None
  numbered_none [] n p = refl
  numbered_none (y ∷ ys) n p =
      let apart : number y ≢ n = p 0 y (omega arith) in
      ap (λ b. cond b (Some y) (numbered number n ys)) (other _ _ apart) ∙ numbered_none ys n (λ k d l. p (suc k) d (omega arith))

  pub numbered_read : (xs : List A) (n i : ℕ) (x : A) → rises number xs ≡ true → IsPlaceOf number xs n (Some i) → x ≡ get_or xs i x → Some x ≡ numbered number n xs
  numbered_read xs n i x h p e = sym (numbered_at xs n i x h p (slice_get_read xs (length xs) i x refl p.0 e))

  pub all_numbered : (p : A → Bool) (xs : List A) (n : ℕ) (x : A) → list_all p xs ≡ true → Some x ≡ numbered number n xs → p x ≡ true
  all_numbered p [] n x h e = absurd (none-some x (sym e))
  all_numbered p (y ∷ ys) n x h e =
      elim (eqb n (number y)) as (λ b. Some x ≡ cond b (Some y) (numbered number n ys) → p x ≡ true) [
        | true ↦ λ e. subst (λ z. p z ≡ true) (sym (same_Some x y e)) (and_parts _ _ h).0
        | false ↦ λ e. all_numbered p ys n x (and_parts _ _ h).1 e
      ] e
