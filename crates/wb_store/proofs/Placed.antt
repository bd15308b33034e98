-- A list that rises keeps rising where one of it is replaced by one of the same number, or a new one comes at its gap; and what it then has at each number.
use Rattle.std.proofs.Common.{◌≡◌, ◌≢◌, ℕ, ◌<◌, suc, zero, Bool, true, false, ◌&&◌, List, [], ◌∷◌, ◌++◌, length, get_or, set, take, drop, Some, None, refl, sym, ap, subst, ◌∙◌, cond, ltb, eqb, arith, Ordering, Result, Ok, Err, Option}
use Rattle.std.proofs.lemmas.Bool.{and_parts, eqb-true, lt-ltb}
use Rattle.std.proofs.lemmas.Bool.Decides.{nat_tests}
use Rattle.std.proofs.lemmas.Cmp.{nat_cmp_total}
use Rattle.std.proofs.lemmas.List.Sorted.{searchable_from_sorted}
use Rattle.std.specs.FinMap.{nat_cmp-IsAntisymmetric}
use Rattle.std.specs.Ordering.{nat_cmp}
use Rattle.std.specs.List.{list_all}
use Rattle.std.specs.List.Sorted.{IsBinarySearchResult, IsSearchInRange}
use Rattle.wb_store.specs.Places.{rises, numbered}
use Rattle.wb_store.specs.invariants.Slots.{IsGapFor, IsPlaceOrGap}
use Rattle.wb_store.proofs.Found.{rises-below, rises-sorted}
use Rattle.std.specs.Option.{option_map_or}

-- what is read of the one that a test picks
pub pick : {A B : Type 0} (f : A → B) (d : B) (b : Bool) (x : A) (r : Option A) → option_map_or f (cond b (Some x) r) d ≡ cond b (f x) (option_map_or f r d)
pick f d true x r = refl
pick f d false x r = refl

-- two that have different numbers may be asked in any order
swap_tests : {A : Type 0} (a b : ℕ) (m : ℕ) (x y z : A) → a ≢ b → cond (eqb m a) x (cond (eqb m b) y z) ≡ cond (eqb m b) y (cond (eqb m a) x z)
swap_tests a b m x y z apart =
    elim (eqb m a) as (λ p. eqb m a ≡ p → cond p x (cond (eqb m b) y z) ≡ cond (eqb m b) y (cond p x z)) [
      | true ↦ λ e. elim (eqb m b) as (λ q. eqb m b ≡ q → x ≡ cond q y x) [
        | true ↦ λ f. absurd (apart (sym (eqb-true _ _ e) ∙ eqb-true _ _ f))
        | false ↦ λ f. refl
      ] refl
      | false ↦ λ e. refl
    ] refl

-- a test that has failed fails again
drop_test : {A : Type 0} (a b : ℕ) (m : ℕ) (x y z : A) → a ≡ b → cond (eqb m a) x z ≡ cond (eqb m a) x (cond (eqb m b) y z)
drop_test a b m x y z e = subst (λ b. cond (eqb m a) x z ≡ cond (eqb m a) x (cond (eqb m b) y z)) e
    (elim (eqb m a) as (λ p. cond p x z ≡ cond p x (cond p y z)) [ true ↦ refl | false ↦ refl ])

pub all-insert : {A : Type 0} (p : A → Bool) (xs : List A) (i : ℕ) (x : A) → list_all p xs ≡ true → p x ≡ true → list_all p (take i xs ++ x ∷ drop i xs) ≡ true
all-insert p [] zero x h e = λ j. e j && true
all-insert p [] (suc i) x h e = λ j. e j && true
all-insert p (y ∷ ys) zero x h e = λ j. e j && h j
all-insert p (y ∷ ys) (suc i) x h e = let parts = and_parts (p y) (list_all p ys) h in λ j. parts.0 j && all-insert p ys i x parts.1 e j

all_from : {A : Type 0} (p : A → Bool) (xs : List A) → ((k : ℕ) (d : A) → k < length xs → p (get_or xs k d) ≡ true) → list_all p xs ≡ true
all_from p [] h = refl
all_from p (x ∷ xs) h = λ j. h 0 x (omega arith) j && all_from p xs (λ k d l. h (suc k) d (omega arith)) j

pub all-set : {A : Type 0} (p : A → Bool) (xs : List A) (i : ℕ) (x : A) → list_all p xs ≡ true → p x ≡ true → list_all p (set xs i x) ≡ true
all-set p [] i x h e = refl
all-set p (y ∷ ys) zero x h e = let parts = and_parts (p y) (list_all p ys) h in λ j. e j && parts.1 j
all-set p (y ∷ ys) (suc i) x h e = let parts = and_parts (p y) (list_all p ys) h in λ j. parts.0 j && all-set p ys i x parts.1 e j

module _ {A : Type 0} (number : A → ℕ) where
  below-set : (n : ℕ) (xs : List A) (i : ℕ) (x : A) → i < length xs → number x ≡ number (get_or xs i x) → list_all (λ y. ltb n (number y)) (set xs i x) ≡ list_all (λ y. ltb n (number y)) xs
  below-set n [] i x l e = absurd (omega arith)
  below-set n (y ∷ ys) zero x l e = λ j. ltb n (e j) && list_all (λ y. ltb n (number y)) ys
  below-set n (y ∷ ys) (suc i) x l e = λ j. ltb n (number y) && below-set n ys i x (omega arith) e j

  pub rises-set : (xs : List A) (i : ℕ) (x : A) → i < length xs → number x ≡ number (get_or xs i x) → rises number (set xs i x) ≡ rises number xs
  rises-set [] i x l e = absurd (omega arith)
  rises-set (y ∷ ys) zero x l e = ap (λ k. list_all (λ z. ltb k (number z)) ys && rises number ys) e
  rises-set (y ∷ ys) (suc i) x l e = λ j. below-set (number y) ys i x (omega arith) e j && rises-set ys i x (omega arith) e j

  pub numbered-set : (xs : List A) (i : ℕ) (x : A) (m : ℕ) → rises number xs ≡ true → i < length xs → number x ≡ number (get_or xs i x) → numbered number m (set xs i x) ≡ cond (eqb m (number x)) (Some x) (numbered number m xs)
  numbered-set [] i x m h l e = absurd (omega arith)
  numbered-set (y ∷ ys) zero x m h l e = drop_test (number x) (number y) m (Some x) (Some y) (numbered number m ys) e
  numbered-set (y ∷ ys) (suc i) x m h l e =
      let apart : number y < number x = subst (λ k. number y < k) (sym e) (rises-below number (y ∷ ys) 0 (suc i) x h (omega arith) l) in
      ap (cond (eqb m (number y)) (Some y)) (numbered-set ys i x m (and_parts _ _ h).1 (omega arith) e)
      ∙ swap_tests (number y) (number x) m (Some y) (Some x) (numbered number m ys) (λ same. absurd (omega (arith, same, apart)))

  later : (y : A) (ys : List A) (n i : ℕ) → IsGapFor number (y ∷ ys) n (suc i) → IsGapFor number ys n i
  later y ys n i gap = record {
    within = omega (arith, gap.within);
    below = λ k d l. gap.below (suc k) d (omega arith);
    above = λ k d l m. gap.above (suc k) d (omega arith) (omega arith);
  }

  pub rises-insert : (xs : List A) (i : ℕ) (x : A) → rises number xs ≡ true → IsGapFor number xs (number x) i → rises number (take i xs ++ x ∷ drop i xs) ≡ true
  rises-insert [] zero x h gap = refl
  rises-insert [] (suc i) x h gap = absurd (omega (arith, gap.within))
  rises-insert (y ∷ ys) zero x h gap = λ j. all_from (λ z. ltb (number x) (number z)) (y ∷ ys) (λ k d l. lt-ltb _ _ (gap.above k d (omega arith) l)) j && h j
  rises-insert (y ∷ ys) (suc i) x h gap = λ j.
      all-insert (λ z. ltb (number y) (number z)) ys i x (and_parts _ _ h).0 (lt-ltb _ _ (gap.below 0 y (omega arith))) j
      && rises-insert ys i x (and_parts _ _ h).1 (later y ys (number x) i gap) j

  pub numbered-insert : (xs : List A) (i : ℕ) (x : A) (m : ℕ) → IsGapFor number xs (number x) i → numbered number m (take i xs ++ x ∷ drop i xs) ≡ cond (eqb m (number x)) (Some x) (numbered number m xs)
  numbered-insert [] zero x m gap = refl
  numbered-insert [] (suc i) x m gap = absurd (omega (arith, gap.within))
  numbered-insert (y ∷ ys) zero x m gap = refl
  numbered-insert (y ∷ ys) (suc i) x m gap =
      let apart : number y < number x = gap.below 0 y (omega arith) in
      ap (cond (eqb m (number y)) (Some y)) (numbered-insert ys i x m (later y ys (number x) i gap))
      ∙ swap_tests (number y) (number x) m (Some y) (Some x) (numbered number m ys) (λ same. absurd (omega (arith, same, apart)))

  pub none-gap : (xs : List A) (i : ℕ) (n : ℕ) → IsGapFor number xs n i → numbered number n xs ≡ None
  none-gap [] i n gap = refl
  none-gap (y ∷ ys) zero n gap =
      let apart : n < number y = gap.above 0 y (omega arith) (omega arith) in
      let no : eqb n (number y) ≡ false = grind (arith, nat_tests) in
      ap (λ b. cond b (Some y) (numbered number n ys)) no
      ∙ none-gap ys 0 n (record { within = omega arith; below = λ k d l. absurd (omega arith); above = λ k d l m. gap.above (suc k) d (omega arith) (omega arith) })
  none-gap (y ∷ ys) (suc i) n gap =
      let apart : number y < n = gap.below 0 y (omega arith) in
      let no : eqb n (number y) ≡ false = grind (arith, nat_tests) in
      ap (λ b. cond b (Some y) (numbered number n ys)) no ∙ none-gap ys i n (later y ys n i gap)

  under : (a n : ℕ) → nat_cmp a n ≡ Ordering.Less → a < n
  under a n e = grind (arith, nat_tests)

  over : (a n : ℕ) → nat_cmp a n ≡ Ordering.Greater → n < a
  over a n e = grind (arith, nat_tests)

  -- what a search by halving answers
  pub place_or_gap : (xs : List A) (n : ℕ) (r : Result ℕ ℕ) → rises number xs ≡ true → IsSearchInRange r (length xs) → IsBinarySearchResult (λ y. nat_cmp (number y) n) xs r → IsPlaceOrGap number xs n r
  place_or_gap xs n (Ok i) h b p = (b, λ d. nat_cmp-IsAntisymmetric _ _ (p d))
  place_or_gap xs n (Err i) h b p =
      let q = p (searchable_from_sorted nat_cmp_total number xs n (rises-sorted number xs h)) in
      record {
        within = b;
        below = λ k d l. under _ _ (q.0 k d (omega (arith, b, l)) l);
        above = λ k d l m. over _ _ (q.1 k d l m);
      }
