-- Tests of the members of lists.
use Rattle.std.proofs.Common.{◌≡◌, Bool, true, false, cond, ◌&&◌, ◌||◌, List, [], ◌∷◌, ◌++◌, map, filter, refl, sym, ap, ◌∙◌}
use Rattle.std.specs.Prelude.{All}
use Rattle.std.specs.List.{flat_map, list_any}
use Rattle.std.proofs.lemmas.Bool.{false≢true}
use Rattle.std.proofs.lemmas.List.Elements.{All-append, All-cons, All-head, All-nil, All-tail}
use Rattle.std.proofs.lemmas.List.Folds.{list_any-append}

pub all_flat : {X Y : Type 0} (P : Y → Type 0) (Q : X → Type 0) (f : X → List Y) (xs : List X) → ((x : X) → Q x → All P (f x)) → All Q xs → All P (flat_map f xs)
all_flat P Q f [] each all = All-nil P
all_flat P Q f (x ∷ xs) each all = All-append P (f x) (flat_map f xs) (each x (All-head Q x xs all)) (all_flat P Q f xs each (All-tail Q x xs all))

-- of the members of two lists, one after the other, those of each
pub all_left : {X : Type 0} (P : X → Type 0) (xs ys : List X) → All P (xs ++ ys) → All P xs
all_left P [] ys all = All-nil P
all_left P (x ∷ xs) ys all = All-cons P x xs (All-head P x (xs ++ ys) all) (all_left P xs ys (All-tail P x (xs ++ ys) all))

pub all_right : {X : Type 0} (P : X → Type 0) (xs ys : List X) → All P (xs ++ ys) → All P ys
all_right P [] ys all = all
all_right P (x ∷ xs) ys all = all_right P xs ys (All-tail P x (xs ++ ys) all)

-- ---- some member passes

pub any_flat : {X Y : Type 0} (p : Y → Bool) (f : X → List Y) (xs : List X) → list_any p (flat_map f xs) ≡ list_any (λ x. list_any p (f x)) xs
any_flat p f [] = refl
any_flat p f (x ∷ xs) = list_any-append p (f x) (flat_map f xs) ∙ ap (λ b. list_any p (f x) || b) (any_flat p f xs)

pub any_map : {X Y : Type 0} (p : Y → Bool) (f : X → Y) (xs : List X) → list_any p (map f xs) ≡ list_any (λ x. p (f x)) xs
any_map p f [] = refl
any_map p f (x ∷ xs) = ap (λ b. p (f x) || b) (any_map p f xs)

pub any_filter : {X : Type 0} (p q : X → Bool) (xs : List X) → list_any p (filter q xs) ≡ list_any (λ x. q x && p x) xs
any_filter p q [] = refl
any_filter p q (x ∷ xs) = by (q x) (any_filter p q xs)
  where
    by : (b : Bool) → list_any p (filter q xs) ≡ list_any (λ y. q y && p y) xs → list_any p (cond b (x ∷ filter q xs) (filter q xs)) ≡ ((b && p x) || list_any (λ y. q y && p y) xs)
    by true rest = ap (λ c. p x || c) rest
    by false rest = rest

-- tests that agree at each member
pub any_alike : {X : Type 0} (p q : X → Bool) (xs : List X) → All (λ x. p x ≡ q x) xs → list_any p xs ≡ list_any q xs
any_alike p q [] all = refl
any_alike p q (x ∷ xs) all = λ i. All-head (λ y. p y ≡ q y) x xs all i || any_alike p q xs (All-tail (λ y. p y ≡ q y) x xs all) i

-- where at most one value passes the first test
pub any_one : {X : Type 0} (e p : X → Bool) (y : X) → ((x : X) → e x ≡ true → x ≡ y) → (xs : List X) → list_any (λ x. e x && p x) xs ≡ (list_any e xs && p y)
any_one e p y one [] = refl
any_one e p y one (x ∷ xs) = by (e x) refl (any_one e p y one xs)
  where
    either : (b c : Bool) → (b || (c && b)) ≡ b
    either true c = refl
    either false true = refl
    either false false = refl

    by : (b : Bool) → e x ≡ b → list_any (λ z. e z && p z) xs ≡ (list_any e xs && p y) → ((b && p x) || list_any (λ z. e z && p z) xs) ≡ ((b || list_any e xs) && p y)
    by true is rest = ap (λ c. p x || c) rest ∙ (ap (λ z. p z || (list_any e xs && p y)) (one x is) ∙ either (p y) (list_any e xs))
    by false is rest = rest

pub any_implied : {X : Type 0} (p q : X → Bool) → ((x : X) → p x ≡ true → q x ≡ true) → (xs : List X) → list_any p xs ≡ true → list_any q xs ≡ true
any_implied p q f [] any = absurd (false≢true any)
any_implied p q f (x ∷ xs) any = by (p x) refl any (any_implied p q f xs)
  where
    either : (b c : Bool) → c ≡ true → (b || c) ≡ true
    either true c is = refl
    either false c is = is

    by : (b : Bool) → p x ≡ b → (b || list_any p xs) ≡ true → (list_any p xs ≡ true → list_any q xs ≡ true) → (q x || list_any q xs) ≡ true
    by true is any rest = ap (λ c. c || list_any q xs) (f x is)
    by false is any rest = either (q x) (list_any q xs) (rest any)

-- ---- filters

-- a filter that passes no more, and all that the first leaves
pub filter_same : {X : Type 0} (p q : X → Bool) → ((x : X) → q x ≡ true → p x ≡ true) → (xs : List X) → All (λ x. q x ≡ true) (filter p xs) → filter q xs ≡ filter p xs
filter_same p q fewer [] all = refl
filter_same p q fewer (x ∷ xs) all = by (p x) (q x) refl refl all (filter_same p q fewer xs)
  where
    by : (b c : Bool) → p x ≡ b → q x ≡ c → All (λ y. q y ≡ true) (cond b (x ∷ filter p xs) (filter p xs)) → (All (λ y. q y ≡ true) (filter p xs) → filter q xs ≡ filter p xs) → cond c (x ∷ filter q xs) (filter q xs) ≡ cond b (x ∷ filter p xs) (filter p xs)
    by true true is js all rest = ap (λ ys. x ∷ ys) (rest (All-tail (λ y. q y ≡ true) x (filter p xs) all))
    by true false is js all rest = absurd (false≢true (sym js ∙ All-head (λ y. q y ≡ true) x (filter p xs) all))
    by false true is js all rest = absurd (false≢true (sym is ∙ fewer x js))
    by false false is js all rest = rest all
