-- Lists: what is true of each item, and which is last.
use Rattle.std.proofs.Common.{◌≡◌, ◌≤◌, ◌-◌, ◌+◌, ℕ, zero, suc, Bool, true, false, cond, List, [], ◌∷◌, ◌++◌, length, take, drop, filter, Some, refl, sym, ap, subst, ◌∙◌, arith}
use Rattle.std.specs.Prelude.{slice_get}
use Rattle.std.specs.List.{AllByRecursion}
use Rattle.std.proofs.lemmas.List.{length-append, drop-append-le}
use Rattle.circular_buffer.specs.Buffer.{keep_last, last_item}

-- ---- what is true of each item

keeps_one : {A : Type 0} (p : A → Bool) (x : A) (xs : List A) (b : Bool) → p x ≡ b → AllByRecursion (λ y. p y ≡ true) (filter p xs) → AllByRecursion (λ y. p y ≡ true) (cond b (x ∷ filter p xs) (filter p xs))
keeps_one p x xs true e h = (e, h)
keeps_one p x xs false e h = h

pub all_kept : {A : Type 0} (p : A → Bool) (xs : List A) → AllByRecursion (λ x. p x ≡ true) (filter p xs)
all_kept p [] = tt
all_kept p (x ∷ xs) = keeps_one p x xs (p x) refl (all_kept p xs)

pub all_append : {A : Type 0} (P : A → Type 0) (xs ys : List A) → AllByRecursion P xs → AllByRecursion P ys → AllByRecursion P (xs ++ ys)
all_append P [] ys h k = k
all_append P (x ∷ xs) ys h k = (h.0, all_append P xs ys h.1 k)

pub all_take : {A : Type 0} (P : A → Type 0) (n : ℕ) (xs : List A) → AllByRecursion P xs → AllByRecursion P (take n xs)
all_take P zero xs h = tt
all_take P (suc n) [] h = tt
all_take P (suc n) (x ∷ xs) h = (h.0, all_take P n xs h.1)

pub all_drop : {A : Type 0} (P : A → Type 0) (n : ℕ) (xs : List A) → AllByRecursion P xs → AllByRecursion P (drop n xs)
all_drop P zero xs h = h
all_drop P (suc n) [] h = tt
all_drop P (suc n) (x ∷ xs) h = all_drop P n xs h.1

pub all_mapped : {A : Type 0} (P Q : A → Type 0) (xs : List A) → ((x : A) → P x → Q x) → AllByRecursion P xs → AllByRecursion Q xs
all_mapped P Q [] f h = tt
all_mapped P Q (x ∷ xs) f h = (f x h.0, all_mapped P Q xs f h.1)

pub all_stay : {A : Type 0} (p : A → Bool) (xs : List A) → AllByRecursion (λ x. p x ≡ true) xs → filter p xs ≡ xs
all_stay p [] h = refl
all_stay p (x ∷ xs) h = ap (λ b. cond b (x ∷ filter p xs) (filter p xs)) h.0 ∙ ap (λ ys. x ∷ ys) (all_stay p xs h.1)

-- ---- the last of the past

last_at : {A : Type 0} (xs : List A) (x : A) → slice_get (xs ++ x ∷ []) (length xs) ≡ Some x
last_at [] x = refl
last_at (y ∷ ys) x = last_at ys x

one_less : (n : ℕ) → n ≡ n + 1 - 1
one_less n = omega arith

pub last_of_more : {A : Type 0} (xs : List A) (x : A) → last_item (xs ++ x ∷ []) ≡ Some x
last_of_more xs x = subst (λ k. slice_get (xs ++ x ∷ []) (k - 1) ≡ Some x) (sym (length-append xs (x ∷ []))) (subst (λ k. slice_get (xs ++ x ∷ []) k ≡ Some x) (one_less (length xs)) (last_at xs x))

pub last_kept : {A : Type 0} (xs : List A) (x : A) → last_item (keep_last 100 (xs ++ x ∷ [])) ≡ Some x
last_kept xs x =
    let few : length (xs ++ x ∷ []) - 100 ≤ length xs = omega (arith, length-append xs (x ∷ [])) in
    ap last_item (drop-append-le (length (xs ++ x ∷ []) - 100) xs (x ∷ []) few) ∙ last_of_more (drop (length (xs ++ x ∷ []) - 100) xs) x
