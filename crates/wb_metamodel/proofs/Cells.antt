-- Lists by their elements.
use Rattle.std.proofs.Common.{◌≡◌, ℕ, ◌<◌, ◌≤◌, Bool, false, ◌||◌, List, [], ◌∷◌, length, get_or, zero, suc, refl, ap, ◌∙◌, arith}
use Rattle.wb_metamodel.specs.invariants.Tables.{or_row}

-- lists of one length with equal elements are equal
pub same_cells : {X : Type 0} (d : X) (xs ys : List X) → length xs ≡ length ys → ((k : ℕ) → k < length ys → get_or xs k d ≡ get_or ys k d) → xs ≡ ys
same_cells d [] [] l h = refl
same_cells d [] (y ∷ ys) l h = absurd (omega arith)
same_cells d (x ∷ xs) [] l h = absurd (omega arith)
same_cells d (x ∷ xs) (y ∷ ys) l h =
    ap (λ v. v ∷ xs) (h 0 (omega arith)) ∙ ap (λ vs. y ∷ vs) (same_cells d xs ys (omega arith) (λ k s. h (suc k) (omega arith)))

pub length-or_row : (xs ys : List Bool) → length (or_row xs ys) ≡ length xs
length-or_row [] ys = refl
length-or_row (x ∷ xs) [] = refl
length-or_row (x ∷ xs) (y ∷ ys) = ap (λ n. suc n) (length-or_row xs ys)

pub or_row-within : (xs ys : List Bool) (k : ℕ) → k < length xs → k < length ys → get_or (or_row xs ys) k false ≡ (get_or xs k false || get_or ys k false)
or_row-within [] ys k h l = absurd (omega arith)
or_row-within (x ∷ xs) [] k h l = absurd (omega arith)
or_row-within (x ∷ xs) (y ∷ ys) zero h l = refl
or_row-within (x ∷ xs) (y ∷ ys) (suc k) h l = or_row-within xs ys k (omega arith) (omega arith)

pub or_row-past : (xs ys : List Bool) (k : ℕ) → length ys ≤ k → get_or (or_row xs ys) k false ≡ get_or xs k false
or_row-past [] ys k h = refl
or_row-past (x ∷ xs) [] k h = refl
or_row-past (x ∷ xs) (y ∷ ys) zero h = absurd (omega arith)
or_row-past (x ∷ xs) (y ∷ ys) (suc k) h = or_row-past xs ys k (omega arith)
