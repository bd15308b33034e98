-- Members of lists, and what finite maps of lists with the same members have.
use Rattle.std.proofs.Common.{◌≡◌, ◌≢◌, ℕ, ◌+◌, ◌<◌, ◌≤◌, suc, zero, Bool, true, false, not, ◌&&◌, ◌||◌, List, [], ◌∷◌, ◌++◌, map, length, get_or, Some, None, refl, sym, ap, subst, ◌∙◌, cond, ltb, eqb, arith, Ordering, Less, Equal, Greater, ◌⊎◌, inl, inr, ⊎_elim}
use Rattle.std.proofs.lemmas.Bool.{and_parts, false≢true, or_left, or_right, eqb-true, eq-eqb, not-true}
use Rattle.std.proofs.lemmas.Bool.Decides.{nat_tests}
use Rattle.std.proofs.lemmas.Option.{none-some, same_Some}
use Rattle.std.proofs.lemmas.List.Sums.{sum_by-cons}
use Rattle.std.proofs.lemmas.List.Sorted.{Contains-permutation, sum_by-IsPermutation}
use Rattle.std.specs.Cmp.{IsTotalOrder}
use Rattle.std.proofs.lemmas.Cmp.{tied_itself}
use Rattle.std.specs.Ordering.{eq_by_cmp, is_eq}
use Rattle.std.specs.List.{list_all, list_any, flat_map, AllZip, Contains, sum_by}
use Rattle.std.specs.List.Sorted.{IsPermutation, IsNonDecreasingBy}
use Rattle.std.specs.FinMap.{find, IsAntisymmetric, from_entries, get-from_entries, same_map}
use Rattle.wb_store.specs.Places.{rises, once}
use Rattle.wb_store.proofs.Found.{is_itself}

pub data In {A : Type 0} (x : A) : List A → Type 0 where
  here : {xs : List A} → In x (x ∷ xs)
  there : {y : A} {xs : List A} → In x xs → In x (y ∷ xs)

module _ {A : Type 0} where
  pub Contains-In : (xs : List A) (x : A) → In x xs → Contains xs x
  Contains-In [] x m = elim m [ ]
  Contains-In (z ∷ xs) x here = (0, omega arith, refl)
  Contains-In (y ∷ xs) x (there p) = let c = Contains-In xs x p in (suc c.0, omega (arith, c.1), c.2)

  pub In-Contains : (xs : List A) (x : A) (k : ℕ) → k < length xs → get_or xs k x ≡ x → In x xs
  In-Contains [] x k h e = absurd (omega arith)
  In-Contains (y ∷ xs) x zero h e = subst (λ z. In z (y ∷ xs)) e here
  In-Contains (y ∷ xs) x (suc k) h e = there (In-Contains xs x k (omega arith) e)

  pub In-permutation : (xs ys : List A) (x : A) → IsPermutation xs ys → In x xs → In x ys
  In-permutation xs ys x p h = let c = Contains-permutation xs ys x p (Contains-In xs x h) in In-Contains ys x c.0 c.1 c.2

  pub In-append_left : (xs ys : List A) (x : A) → In x xs → In x (xs ++ ys)
  In-append_left [] ys x m = elim m [ ]
  In-append_left (z ∷ xs) ys x here = here
  In-append_left (y ∷ xs) ys x (there p) = there (In-append_left xs ys x p)

  pub In-append_right : (xs ys : List A) (x : A) → In x ys → In x (xs ++ ys)
  In-append_right [] ys x p = p
  In-append_right (y ∷ xs) ys x p = there (In-append_right xs ys x p)

  pub In-append_cases : (xs ys : List A) (x : A) → In x (xs ++ ys) → In x xs ⊎ In x ys
  In-append_cases [] ys x p = inr p
  In-append_cases (y ∷ xs) ys x here = inl here
  In-append_cases (y ∷ xs) ys x (there p) = ⊎_elim (λ l. inl (there l)) (λ r. inr r) (In-append_cases xs ys x p)

  pub all_In : (p : A → Bool) (xs : List A) → ((x : A) → In x xs → p x ≡ true) → list_all p xs ≡ true
  all_In p [] h = refl
  all_In p (x ∷ xs) h = λ i. h x here i && all_In p xs (λ y m. h y (there m)) i

  pub In-all : (p : A → Bool) (xs : List A) (x : A) → list_all p xs ≡ true → In x xs → p x ≡ true
  In-all p [] x h m = elim m [ ]
  In-all p (z ∷ xs) x h here = (and_parts _ _ h).0
  In-all p (y ∷ xs) x h (there m) = In-all p xs x (and_parts _ _ h).1 m

  pub any_In : (p : A → Bool) (xs : List A) (x : A) → In x xs → p x ≡ true → list_any p xs ≡ true
  any_In p [] x m e = elim m [ ]
  any_In p (z ∷ xs) x here e = or_left _ _ e
  any_In p (y ∷ xs) x (there m) e = or_right _ _ (any_In p xs x m e)

module _ {A B : Type 0} (f : A → List B) where
  pub In-flat_map : (xs : List A) (x : A) (y : B) → In x xs → In y (f x) → In y (flat_map f xs)
  In-flat_map [] x y m h = elim m [ ]
  In-flat_map (z ∷ xs) x y here h = In-append_left (f x) (flat_map f xs) y h
  In-flat_map (z ∷ xs) x y (there m) h = In-append_right (f z) (flat_map f xs) y (In-flat_map xs x y m h)

  pub flat_map-In : (xs : List A) (y : B) → In y (flat_map f xs) → (x : A) × In x xs × In y (f x)
  flat_map-In [] y h = elim h [ ]
  flat_map-In (x ∷ xs) y h = ⊎_elim (λ l. (x, here, l)) (λ r. let p = flat_map-In xs y r in (p.0, there p.1, p.2)) (In-append_cases (f x) (flat_map f xs) y h)

module _ {A B : Type 0} (f : A → B) where
  pub In-map : (xs : List A) (x : A) → In x xs → In (f x) (map f xs)
  In-map [] x m = elim m [ ]
  In-map (z ∷ xs) x here = here
  In-map (y ∷ xs) x (there m) = there (In-map xs x m)

  pub map-In : (xs : List A) (y : B) → In y (map f xs) → (x : A) × In x xs × (y ≡ f x)
  map-In [] y h = elim h [ ]
  map-In (x ∷ xs) y here = (x, here, refl)
  map-In (x ∷ xs) y (there m) = let p = map-In xs y m in (p.0, there p.1, p.2)

module _ {A B : Type 0} (R : A → B → Type 0) where
  pub zip_left : (xs : List A) (ys : List B) (x : A) → AllZip R xs ys → In x xs → (y : B) × In y ys × R x y
  zip_left [] ys x h m = elim m [ ]
  zip_left (z ∷ xs) [] x h m = absurd h
  zip_left (z ∷ xs) (y ∷ ys) x h here = (y, here, h.0)
  zip_left (z ∷ xs) (y ∷ ys) x h (there m) = let p = zip_left xs ys x h.1 m in (p.0, there p.1, p.2)

  pub zip_right : (xs : List A) (ys : List B) (y : B) → AllZip R xs ys → In y ys → (x : A) × In x xs × R x y
  zip_right [] [] y h m = elim m [ ]
  zip_right (x ∷ xs) [] y h m = elim m [ ]
  zip_right [] (z ∷ ys) y h m = absurd h
  zip_right (x ∷ xs) (z ∷ ys) y h here = (x, here, h.0)
  zip_right (x ∷ xs) (z ∷ ys) y h (there m) = let p = zip_right xs ys y h.1 m in (p.0, there p.1, p.2)

-- ---- finite maps

abbrev pub IsFunctional : {K X : Type 0} → List (K × X) → Type 0
IsFunctional {K} {X} es = (k : K) (v w : X) → In (k, v) es → In (k, w) es → v ≡ w

equal_of : (r : Ordering) → is_eq r ≡ true → r ≡ Ordering.Equal
equal_of Less h = absurd (false≢true h)
equal_of Equal h = refl
equal_of Greater h = absurd (false≢true h)

module _ {K X : Type 0} {R : K → K → Ordering} (total : IsTotalOrder R) (same : IsAntisymmetric R) where
  pub find-In : (es : List (K × X)) (q : K) (v : X) → find R q es ≡ Some v → In (q, v) es
  find-In [] q v e = absurd (none-some v e)
  find-In (e ∷ es) q v h =
      elim (eq_by_cmp R q e.0) as (λ b. eq_by_cmp R q e.0 ≡ b → cond b (Some e.1) (find R q es) ≡ Some v → In (q, v) (e ∷ es)) [
        | true ↦ λ t h. subst (λ z. In z (e ∷ es)) (λ i. (sym (same q e.0 (equal_of _ t)) i, same_Some e.1 v h i)) here
        | false ↦ λ t h. there (find-In es q v h)
      ] refl h

  pub In-found : (es : List (K × X)) (q : K) (v : X) → In (q, v) es → find R q es ≢ None
  In-found [] q v m e = elim m [ ]
  In-found (z ∷ es) q v here e = none-some v (sym e ∙ ap (λ r. cond (is_eq r) (Some v) (find R q es)) (tied_itself total q))
  In-found (f ∷ es) q v (there m) e =
      elim (eq_by_cmp R q f.0) as (λ b. cond b (Some f.1) (find R q es) ≡ None → ⊥) [
        | true ↦ λ e. none-some f.1 (sym e)
        | false ↦ λ e. In-found es q v m e
      ] e

  pub In-find : (es : List (K × X)) (q : K) (v : X) → IsFunctional es → In (q, v) es → find R q es ≡ Some v
  In-find es q v functional m =
      elim (find R q es) as (λ r. find R q es ≡ r → r ≡ Some v) [
        | None ↦ λ e. absurd (In-found es q v m e)
        | Some w ↦ λ e. ap Some (functional q w v (find-In es q w e) m)
      ] refl

  module _ (es fs : List (K × X)) (functional : IsFunctional es) (sub : (e : K × X) → In e es → In e fs) (sup : (e : K × X) → In e fs → In e es) where
    same-find : (q : K) → find R q es ≡ find R q fs
    same-find q =
        elim (find R q es) as (λ r. find R q es ≡ r → r ≡ find R q fs) [
          | Some v ↦ λ e. sym (In-find fs q v (λ k v w a b. functional k v w (sup _ a) (sup _ b)) (sub (q, v) (find-In es q v e)))
          | None ↦ λ e. elim (find R q fs) as (λ r. find R q fs ≡ r → None ≡ r) [
            | None ↦ λ g. refl
            | Some w ↦ λ g. absurd (In-found es q w (sup (q, w) (find-In fs q w g)) e)
          ] refl
        ] refl

    pub from_entries-same : from_entries {R = R} es ≡ from_entries fs
    from_entries-same = same_map total same _ _ (λ q. get-from_entries total es q ∙ same-find q ∙ sym (get-from_entries total fs q))

-- ---- numbers that stand once

pub not_both : (b : Bool) → b ≡ true → not b ≡ true → ⊥
not_both true e h = false≢true h
not_both false e h = false≢true e

abbrev one_number : ℕ
one_number = 1

module _ {A : Type 0} (number : A → ℕ) where
  among : (xs : List A) (y : A) (n : ℕ) → In y xs → number y ≡ n → list_any (λ other. eqb other n) (map number xs) ≡ true
  among xs y n m e = any_In (λ other. eqb other n) (map number xs) (number y) (In-map number xs y m) (eq-eqb _ _ e)

  pub once-apart : (xs : List A) (x y : A) → once (map number xs) ≡ true → In x xs → In y xs → number x ≡ number y → x ≡ y
  once-apart [] x y h m n e = elim m [ ]
  once-apart (z ∷ xs) x y h here here e = refl
  once-apart (z ∷ xs) x y h here (there m) e = absurd (not_both _ (among xs y (number x) m (sym e)) (and_parts _ _ h).0)
  once-apart (z ∷ xs) x y h (there m) here e = absurd (not_both _ (among xs x (number y) m e) (and_parts _ _ h).0)
  once-apart (z ∷ xs) x y h (there m) (there n) e = once-apart xs x y (and_parts _ _ h).1 m n e

  is_numbered : ℕ → A → ℕ
  is_numbered n x = cond (eqb (number x) n) 1 0

  count : ℕ → List A → ℕ
  unfolding is_numbered
  count n xs = sum_by (is_numbered n) xs

  count-cons : (n : ℕ) (x : A) (xs : List A) → count n (x ∷ xs) ≡ cond (eqb (number x) n) 1 0 + count n xs
  unfolding count is_numbered
  count-cons n x xs = sum_by-cons (is_numbered n) x xs

  count_nil : (n : ℕ) → count n [] ≡ 0
  unfolding count
  count_nil n = refl

  count_none : (n : ℕ) (xs : List A) → list_any (λ other. eqb other n) (map number xs) ≡ false → count n xs ≡ 0
  count_none n [] h = count_nil n
  count_none n (x ∷ xs) h = count-cons n x xs ∙
      elim (eqb (number x) n) as (λ b. (b || list_any (λ other. eqb other n) (map number xs)) ≡ false → cond b 1 0 + count n xs ≡ 0) [
        | true ↦ λ h. absurd (false≢true (sym h))
        | false ↦ λ h. omega (arith, count_none n xs h)
      ] h

  count_once : (n : ℕ) (xs : List A) → once (map number xs) ≡ true → count n xs ≤ 1
  count_once n [] h = omega (arith, count_nil n)
  count_once n (x ∷ xs) h = subst (λ k. k ≤ 1) (sym (count-cons n x xs))
      (elim (eqb (number x) n) as (λ b. eqb (number x) n ≡ b → cond b 1 0 + count n xs ≤ 1) [
        | true ↦ λ t. let none = count_none n xs (subst (λ k. list_any (λ other. eqb other k) (map number xs) ≡ false) (eqb-true _ _ t) (not-true _ (and_parts _ _ h).0)) in omega (arith, none)
        | false ↦ λ t. let few = count_once n xs (and_parts _ _ h).1 in omega (arith, few)
      ] refl)

  one : (n : ℕ) → cond (eqb n n) 1 0 ≡ one_number
  one n = subst (λ b. cond b 1 0 ≡ one_number) (sym (is_itself n)) refl

  count_some : (n : ℕ) (xs : List A) (y : A) → In y xs → number y ≡ n → 1 ≤ count n xs
  count_some n [] y m e = elim m [ ]
  count_some n (z ∷ xs) y here e = let c = count-cons n y xs in let k = subst (λ m. cond (eqb (number y) m) 1 0 ≡ one_number) e (one (number y)) in omega (arith, c, k)
  count_some n (z ∷ xs) y (there m) e = let c = count-cons n z xs in let k = count_some n xs y m e in omega (arith, c, k)

  apart : (x : A) (xs : List A) (y : A) → count (number x) (x ∷ xs) ≤ 1 → In y xs → number x ≢ number y
  apart x xs y few m e = let k = count_some (number x) xs y m (sym e) in let c = count-cons (number x) x xs in let o = one (number x) in omega (arith, few, k, c, o)

  before : (a b : ℕ) → a ≤ b → a ≢ b → ltb a b ≡ true
  before a b h n = grind (arith, nat_tests)

  head_below : (x : A) (xs : List A) → IsNonDecreasingBy number (x ∷ xs) → count (number x) (x ∷ xs) ≤ 1 → (y : A) → In y xs → ltb (number x) (number y) ≡ true
  head_below x xs h few y m =
      let c = Contains-In xs y m in
      let le : number x ≤ number y = subst (λ z. number x ≤ number z) c.2 (h 0 (suc c.0) y (omega arith) (omega (arith, c.1))) in
      before _ _ le (apart x xs y few m)

  rises_from : (xs : List A) → IsNonDecreasingBy number xs → ((n : ℕ) → count n xs ≤ 1) → rises number xs ≡ true
  rises_from [] h few = refl
  rises_from (x ∷ xs) h few =
      let rest = rises_from xs (λ i j d l m. h (suc i) (suc j) d (omega arith) (omega arith)) (λ n. let c = count-cons n x xs in let f = few n in omega (arith, c, f)) in
      λ i. all_In (λ y. ltb (number x) (number y)) xs (head_below x xs h (few (number x))) i && rest i

  pub rises_sorted : (xs ys : List A) → IsPermutation xs ys → IsNonDecreasingBy number ys → once (map number xs) ≡ true → rises number ys ≡ true
  unfolding count
  rises_sorted xs ys p h o = rises_from ys h (λ n. subst (λ k. k ≤ 1) (sym (sum_by-IsPermutation (is_numbered n) xs ys p)) (count_once n xs o))
