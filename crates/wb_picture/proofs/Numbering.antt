-- Items with their numbers, as a loop over them goes on.
use Rattle.std.proofs.Common.{◌≡◌, ◌+◌, ◌<◌, ℕ, suc, Bool, true, false, cond, List, [], ◌∷◌, ◌++◌, length, take, get_or, map, sym, ap, ◌∙◌, arith, append-nil}
use Rattle.std.specs.List.{enumerate_from, filter}
use Rattle.std.proofs.lemmas.List.{length-take-le, map-append, take_more}
use Rattle.std.proofs.lemmas.List.Elements.{filter-append}

numbered_push : {A : Type 0} (n : ℕ) (xs : List A) (x : A) → enumerate_from n (xs ++ x ∷ []) ≡ enumerate_from n xs ++ (n + length xs, x) ∷ []
numbered_push n [] x = let same : n ≡ n + 0 = omega arith in ap (λ (k : ℕ). (k, x) ∷ []) same
numbered_push n (y ∷ ys) x =
    let same : n + 1 + length ys ≡ n + suc (length ys) = omega arith in
    ap (λ es. (n, y) ∷ es) (numbered_push (n + 1) ys x)
    ∙ ap (λ (k : ℕ). (n, y) ∷ (enumerate_from (n + 1) ys ++ (k, x) ∷ [])) same

-- what is made of those of the items that pass, by number and item
abbrev pub picked : {A B : Type 0} → (ℕ × A → B) → (ℕ × A → Bool) → List A → List B
picked make passes items = map make (filter passes (enumerate_from 0 items))

module _ {A B : Type 0} (make : ℕ × A → B) (passes : ℕ × A → Bool) (xs : List A) (i : ℕ) (x : A) (within : i < length xs) (at : x ≡ get_or xs i x) where
  numbered : enumerate_from 0 (take (i + 1) xs) ≡ enumerate_from 0 (take i xs) ++ (i, x) ∷ []
  numbered =
      let long = length-take-le i xs (omega arith) in
      let same : 0 + length (take i xs) ≡ i = omega (arith, long) in
      ap (enumerate_from 0) (take_more xs i x within ∙ ap (λ y. take i xs ++ y ∷ []) (sym at))
      ∙ (numbered_push 0 (take i xs) x ∙ ap (λ (k : ℕ). enumerate_from 0 (take i xs) ++ (k, x) ∷ []) same)

  next : picked make passes (take (i + 1) xs) ≡ picked make passes (take i xs) ++ map make (cond (passes (i, x)) ((i, x) ∷ []) [])
  next =
      ap (map make) (ap (filter passes) numbered ∙ filter-append passes (enumerate_from 0 (take i xs)) ((i, x) ∷ []))
      ∙ map-append make (filter passes (enumerate_from 0 (take i xs))) (filter passes ((i, x) ∷ []))

  -- one item more passes
  pub one_more : passes (i, x) ≡ true → picked make passes (take i xs) ++ make (i, x) ∷ [] ≡ picked make passes (take (i + 1) xs)
  one_more is = sym (next ∙ ap (λ (b : Bool). picked make passes (take i xs) ++ map make (cond b ((i, x) ∷ []) [])) is)

  -- one item more does not pass
  pub no_more : passes (i, x) ≡ false → picked make passes (take i xs) ≡ picked make passes (take (i + 1) xs)
  no_more is =
      sym (next ∙ (ap (λ (b : Bool). picked make passes (take i xs) ++ map make (cond b ((i, x) ∷ []) [])) is ∙ append-nil (picked make passes (take i xs))))
