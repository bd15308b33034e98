-- Lists by their places, and the first places of numbers.
use Rattle.std.proofs.Common.{◌≡◌, ℕ, ◌+◌, ◌<◌, Bool, true, false, not, cond, ◌||◌, eqb, List, [], ◌∷◌, ◌++◌, length, map, Some, zero, suc, refl, sym, ap, ◌∙◌, subst, ⊎_elim, arith}
use Rattle.std.proofs.lemmas.Bool.{false≢true, or_cases, or_left, or_right, eqb-true, eq-eqb, not-true, not-false, cases_Bool}
use Rattle.std.proofs.lemmas.List.Elements.{filter-append}
use Rattle.std.specs.Cmp.{nat_eq_equiv}
use Rattle.std.specs.List.{list_any, filter, range_with_len, slice_get, IsDistinct, AllByRecursion}
use Rattle.wb_base.specs.Lists.{numbers, first_places}

-- ---- places

-- what stands at a place of a list
pub present : {X : Type 0} (xs : List X) (i : ℕ) → i < length xs → (x : X) × (slice_get xs i ≡ Some x)
present [] i h = absurd (omega arith)
present (x ∷ xs) zero h = (x, refl)
present (x ∷ xs) (suc i) h = present xs i (omega arith)

pub map-same : {A B : Type 0} (f g : A → B) (xs : List A) → ((x : A) → f x ≡ g x) → map f xs ≡ map g xs
map-same f g [] h = refl
map-same f g (x ∷ xs) h = ap (λ y. y ∷ map f xs) (h x) ∙ ap (λ ys. g x ∷ ys) (map-same f g xs h)

pub map-map : {A B C : Type 0} (g : B → C) (f : A → B) (xs : List A) → map g (map f xs) ≡ map (λ x. g (f x)) xs
map-map g f [] = refl
map-map g f (x ∷ xs) = ap (λ ys. g (f x) ∷ ys) (map-map g f xs)

-- ---- numbers

pub range-at : (a n i : ℕ) → i < n → slice_get (range_with_len a n) i ≡ Some (a + i)
range-at a zero i h = absurd (omega arith)
range-at a (suc n) zero h = ap Some (let z : a ≡ a + 0 = omega arith in z)
range-at a (suc n) (suc i) h = range-at (a + 1) n i (omega arith) ∙ ap Some (let z : (a + 1) + i ≡ a + suc i = omega arith in z)

pub number-at : (n i : ℕ) → i < n → slice_get (numbers n) i ≡ Some i
number-at n i h = range-at 0 n i h ∙ ap Some (let z : 0 + i ≡ i = omega arith in z)

-- one number more
pub range-push : (a n : ℕ) → range_with_len a (n + 1) ≡ range_with_len a n ++ (a + n) ∷ []
range-push a zero = ap (λ k. range_with_len a k) (let z : 0 + 1 ≡ 1 = omega arith in z) ∙ ap (λ k. k ∷ []) (let z : a ≡ a + 0 = omega arith in z)
range-push a (suc n) =
    ap (range_with_len a) (let z : suc n + 1 ≡ suc (n + 1) = omega arith in z)
    ∙ ap (λ zs. a ∷ zs) (range-push (a + 1) n ∙ ap (λ k. range_with_len (a + 1) n ++ k ∷ []) (let z : (a + 1) + n ≡ a + suc n = omega arith in z))

pub range-member : (f a n : ℕ) → list_any (eqb f) (range_with_len a n) ≡ true → f < a + n
range-member f a zero h = absurd (false≢true h)
range-member f a (suc n) h =
    ⊎_elim (λ e. let s : f ≡ a = eqb-true f a e in omega arith) (λ m. let l = range-member f (a + 1) n m in omega arith) (or_cases (eqb f a) _ h)

-- ---- what is left of a list

kept : (p : ℕ → Bool) (x : ℕ) (xs ys : List ℕ) (b : Bool) → (list_any p ys ≡ true → list_any p xs ≡ true) → list_any p (cond b (x ∷ ys) ys) ≡ true → (p x || list_any p xs) ≡ true
kept p x xs ys true later h = ⊎_elim (λ a. or_left _ _ a) (λ b. or_right (p x) _ (later b)) (or_cases (p x) _ h)
kept p x xs ys false later h = or_right (p x) _ (later h)

pub filter-member : (p q : ℕ → Bool) (xs : List ℕ) → list_any p (filter q xs) ≡ true → list_any p xs ≡ true
filter-member p q [] h = h
filter-member p q (x ∷ xs) h = kept p x xs (filter q xs) (q x) (filter-member p q xs) h

kept-passes : (q : ℕ → Bool) (f x : ℕ) (xs : List ℕ) (b : Bool) → q x ≡ b → (list_any (eqb f) xs ≡ true → q f ≡ true) → list_any (eqb f) (cond b (x ∷ xs) xs) ≡ true → q f ≡ true
kept-passes q f x xs true is later h = ⊎_elim (λ e. ap q (eqb-true f x e) ∙ is) later (or_cases (eqb f x) _ h)
kept-passes q f x xs false is later h = later h

-- what is left passes
pub member-passes : (q : ℕ → Bool) (f : ℕ) (xs : List ℕ) → list_any (eqb f) (filter q xs) ≡ true → q f ≡ true
member-passes q f [] h = absurd (false≢true h)
member-passes q f (x ∷ xs) h = kept-passes q f x (filter q xs) (q x) refl (member-passes q f xs) h

pass-kept : (q : ℕ → Bool) (f x : ℕ) (xs : List ℕ) (b : Bool) → q x ≡ b → q f ≡ true → (list_any (eqb f) xs ≡ true → list_any (eqb f) (filter q xs) ≡ true) → (eqb f x || list_any (eqb f) xs) ≡ true → list_any (eqb f) (cond b (x ∷ filter q xs) (filter q xs)) ≡ true
pass-kept q f x xs true is passes later h = ⊎_elim (λ e. or_left _ _ e) (λ m. or_right (eqb f x) _ (later m)) (or_cases (eqb f x) _ h)
pass-kept q f x xs false is passes later h = ⊎_elim (λ e. absurd (false≢true (sym is ∙ ap q (sym (eqb-true f x e)) ∙ passes))) later (or_cases (eqb f x) _ h)

-- what passes is left
pub member-filter : (q : ℕ → Bool) (f : ℕ) (xs : List ℕ) → q f ≡ true → list_any (eqb f) xs ≡ true → list_any (eqb f) (filter q xs) ≡ true
member-filter q f [] passes h = h
member-filter q f (x ∷ xs) passes h = pass-kept q f x xs (q x) refl passes (member-filter q f xs passes) h

all_cond : {X : Type 0} (P : X → Type 0) (x : X) (xs : List X) (b : Bool) → (b ≡ true → P x) → AllByRecursion P xs → AllByRecursion P (cond b (x ∷ xs) xs)
all_cond P x xs true h rest = (h refl, rest)
all_cond P x xs false h rest = rest

-- what is true of each that passes is true of all that is left
pub filter-passes : {X : Type 0} (P : X → Type 0) (q : X → Bool) (xs : List X) → ((x : X) → q x ≡ true → P x) → AllByRecursion P (filter q xs)
filter-passes P q [] h = tt
filter-passes P q (x ∷ xs) h = all_cond P x (filter q xs) (q x) (h x) (filter-passes P q xs h)

pub filter-keeps : {X : Type 0} (P : X → Type 0) (q : X → Bool) (xs : List X) → AllByRecursion P xs → AllByRecursion P (filter q xs)
filter-keeps P q [] all = tt
filter-keeps P q (x ∷ xs) all = all_cond P x (filter q xs) (q x) (λ _. all.0) (filter-keeps P q xs all.1)

distinct_cond : {X : Type 0} (e : X → X → Bool) (x : X) (xs : List X) (b : Bool) → AllByRecursion (λ y. e x y ≡ false) xs → IsDistinct e xs → IsDistinct e (cond b (x ∷ xs) xs)
unfolding IsDistinct
distinct_cond e x xs true apart rest = (apart, rest)
distinct_cond e x xs false apart rest = rest

-- what is left of a list without repeats has none
pub filter-distinct : {X : Type 0} (e : X → X → Bool) (q : X → Bool) (xs : List X) → IsDistinct e xs → IsDistinct e (filter q xs)
unfolding IsDistinct
filter-distinct e q [] all = tt
filter-distinct e q (x ∷ xs) all = distinct_cond e x (filter q xs) (q x) (filter-keeps (λ y. e x y ≡ false) q xs all.0) (filter-distinct e q xs all.1)

-- ---- first places

-- the first places are without repeats
pub first_places-distinct : (xs : List ℕ) → IsDistinct eqb (first_places xs)
unfolding IsDistinct
first_places-distinct [] = tt
first_places-distinct (x ∷ xs) = (
  filter-passes (λ y. eqb x y ≡ false) (λ y. not (eqb x y)) (first_places xs) (λ y passes. not-true (eqb x y) passes),
  filter-distinct eqb (λ y. not (eqb x y)) (first_places xs) (first_places-distinct xs),
)

-- they are of the list
pub first_places-member : (f : ℕ) (xs : List ℕ) → list_any (eqb f) (first_places xs) ≡ true → list_any (eqb f) xs ≡ true
first_places-member f [] h = h
first_places-member f (x ∷ xs) h =
    ⊎_elim (λ a. or_left _ _ a) (λ b. or_right (eqb f x) _ (first_places-member f xs (filter-member (eqb f) (λ y. not (eqb x y)) (first_places xs) b))) (or_cases (eqb f x) _ h)

kept-other : (b : Bool) (f x y : ℕ) (xs : List ℕ) → eqb f x ≡ false → not (eqb x y) ≡ b → list_any (eqb f) (y ∷ xs) ≡ true → (list_any (eqb f) xs ≡ true → list_any (eqb f) (filter (λ z. not (eqb x z)) xs) ≡ true)
    → list_any (eqb f) (cond b (y ∷ filter (λ z. not (eqb x z)) xs) (filter (λ z. not (eqb x z)) xs)) ≡ true
kept-other true f x y xs apart is h later = ⊎_elim (λ e. or_left _ _ e) (λ m. or_right (eqb f y) _ (later m)) (or_cases (eqb f y) _ h)
kept-other false f x y xs apart is h later =
    ⊎_elim
    (λ e.
    let same : x ≡ y = eqb-true x y (not-false (eqb x y) is) in
    let other : f ≡ y = eqb-true f y e in
    absurd (false≢true (sym apart ∙ eq-eqb f x (other ∙ sym same))))
    later
    (or_cases (eqb f y) _ h)

other-kept : (f x : ℕ) (xs : List ℕ) → eqb f x ≡ false → list_any (eqb f) xs ≡ true → list_any (eqb f) (filter (λ y. not (eqb x y)) xs) ≡ true
other-kept f x [] apart h = h
other-kept f x (y ∷ xs) apart h = kept-other (not (eqb x y)) f x y xs apart refl h (other-kept f x xs apart)

-- each number of the list has a first place
pub member-first_places : (f : ℕ) (xs : List ℕ) → list_any (eqb f) xs ≡ true → list_any (eqb f) (first_places xs) ≡ true
member-first_places f [] h = h
member-first_places f (x ∷ xs) h =
    ⊎_elim
    (λ same. or_left _ _ same)
    (λ apart. or_right (eqb f x) _ (other-kept f x (first_places xs) apart (⊎_elim (λ e. absurd (false≢true (sym apart ∙ e))) (λ m. member-first_places f xs m) (or_cases (eqb f x) _ h))))
    (cases_Bool (eqb f x))

last-kept : (a m : Bool) (x : ℕ) (q : ℕ → Bool) → q x ≡ not a → filter q (cond m [] (x ∷ [])) ≡ cond (a || m) [] (x ∷ [])
last-kept true true x q h = refl
last-kept true false x q h = ap (λ b. cond b (x ∷ []) []) h
last-kept false true x q h = refl
last-kept false false x q h = ap (λ b. cond b (x ∷ []) []) h

-- one number more: it stands last, unless it is among those before
pub first_places-push : (xs : List ℕ) (x : ℕ) → first_places (xs ++ x ∷ []) ≡ first_places xs ++ cond (list_any (eqb x) xs) [] (x ∷ [])
first_places-push [] x = refl
first_places-push (y ∷ ys) x =
    let q : ℕ → Bool = λ z. not (eqb y z) in
    ap (λ zs. y ∷ filter q zs) (first_places-push ys x)
    ∙ ap (λ zs. y ∷ zs) (filter-append q (first_places ys) (cond (list_any (eqb x) ys) [] (x ∷ [])))
    ∙ ap (λ zs. y ∷ (filter q (first_places ys) ++ zs)) (last-kept (eqb x y) (list_any (eqb x) ys) x q (ap not (nat_eq_equiv.symm y x)))
