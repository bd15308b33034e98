-- What a search in an ascending list of objects finds.
use Rattle.std.proofs.Common.{◌≡◌, ◌≢◌, ℕ, ◌<◌, suc, zero, Bool, true, false, ◌||◌, List, [], ◌∷◌, length, get_or, Result, Ok, Err, refl, sym, ap, subst, ◌∙◌, eqb, arith, ⊎_elim}
use Rattle.std.specs.FinMap.{nat_cmp-IsAntisymmetric}
use Rattle.std.proofs.lemmas.Bool.{cases_lt}
use Rattle.std.proofs.lemmas.Bool.Decides.{nat_tests}
use Rattle.std.proofs.lemmas.Cmp.{nat_cmp_total}
use Rattle.std.proofs.lemmas.List.Sorted.{searchable_from_sorted}
use Rattle.std.specs.Ordering.{nat_cmp}
use Rattle.std.specs.List.Sorted.{IsSorted, IsBinarySearchResult, IsSearchInRange}
use Rattle.std.specs.Result.{is_ok}
use Rattle.wb_store.specs.Relinking.{is_among}
use Rattle.wb_store.proofs.Found.{is_itself, never_less, never_greater}

or_true : (b : Bool) → (b || true) ≡ true
or_true true = refl
or_true false = refl

unequal : (a n : ℕ) → a ≢ n → eqb a n ≡ false
unequal a n h = grind (arith, nat_tests)

among_at : (xs : List ℕ) (n i : ℕ) → i < length xs → get_or xs i 0 ≡ n → is_among xs n ≡ true
among_at [] n i l e = absurd (omega arith)
among_at (x ∷ xs) n zero l e = ap (λ b. b || is_among xs n) (subst (λ k. eqb x k ≡ true) e (is_itself x))
among_at (x ∷ xs) n (suc i) l e = ap (λ b. eqb x n || b) (among_at xs n i (omega arith) e) ∙ or_true (eqb x n)

not_among : (xs : List ℕ) (n : ℕ) → ((k : ℕ) → k < length xs → get_or xs k 0 ≢ n) → is_among xs n ≡ false
not_among [] n h = refl
not_among (x ∷ xs) n h = ap (λ b. b || is_among xs n) (unequal x n (h 0 (omega arith))) ∙ not_among xs n (λ k l. h (suc k) (omega arith))

pub found_among : (xs : List ℕ) (n : ℕ) (r : Result ℕ ℕ) → IsSorted nat_cmp xs → IsSearchInRange r (length xs) → IsBinarySearchResult (λ y. nat_cmp y n) xs r → is_ok r ≡ is_among xs n
found_among xs n (Ok i) h b p = sym (among_at xs n i b (nat_cmp-IsAntisymmetric _ _ (p 0)))
found_among xs n (Err i) h b p = sym (not_among xs n (λ k l e.
    let q = p (searchable_from_sorted nat_cmp_total (λ x. x) xs n h) in
    ⊎_elim (λ m. never_less (λ x. x) _ _ (q.0 k 0 (omega arith) m) e) (λ m. never_greater (λ x. x) _ _ (q.1 k 0 m l) e) (cases_lt k i)))
