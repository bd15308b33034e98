-- Pieces that are written one after another.
use Rattle.std.proofs.Common.{◌≡◌, ◌∙◌, ℕ, ◌+◌, ◌-◌, List, ◌++◌, length, take, drop, ap, sym, append_assoc}
use Rattle.std.proofs.Math.Seq.{take-add}
use Rattle.std.proofs.lemmas.List.{take_rest}

-- the first n bytes and then k of the rest are the first n + k
pub take_on : (before : List ℕ) (n k : ℕ) (xs : List ℕ) → (before ++ take n xs) ++ take k (take (length xs - n) (drop n xs)) ≡ before ++ take (n + k) xs
take_on before n k xs =
    ap (λ ys. (before ++ take n xs) ++ take k ys) (take_rest xs n) ∙ append_assoc before (take n xs) (take k (drop n xs)) ∙ ap (λ ys. before ++ ys) (sym (take-add n k xs))
