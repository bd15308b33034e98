-- The numbers of roots, with commas between them.
use Rattle.std.proofs.Common.{◌≡◌, ◌+◌, ◌<◌, ℕ, zero, suc, List, [], ◌∷◌, ◌++◌, length, take, get_or, refl, sym, ap, ◌∙◌, append_assoc, arith}
use Rattle.std.specs.Prelude.{codes, decimal}
use Rattle.std.proofs.lemmas.List.{take_more}
use Rattle.wb_rows.specs.Rows.{roots_text}

-- the first number stands alone
pub first_root : (roots : List ℕ) (r : ℕ) → 0 < length roots → roots_text (take 1 roots) ≡ decimal (get_or roots 0 r)
first_root [] r h = absurd (omega arith)
first_root (q ∷ roots) r h = refl

-- a further number stands behind a comma
one_root : (r : ℕ) (roots : List ℕ) (q : ℕ) → roots_text ((r ∷ roots) ++ q ∷ []) ≡ (roots_text (r ∷ roots) ++ codes ",") ++ decimal q
one_root r [] q = sym (append_assoc (decimal r) (codes ",") (decimal q))
one_root r (s ∷ roots) q = ap (λ t. decimal r ++ (codes "," ++ t)) (one_root s roots q) ∙ simp append_assoc

pub more_roots : (roots : List ℕ) (i : ℕ) (q : ℕ) → 0 < i → i < length roots → roots_text (take (i + 1) roots) ≡ (roots_text (take i roots) ++ codes ",") ++ decimal (get_or roots i q)
more_roots [] i q h k = absurd (omega arith)
more_roots (r ∷ roots) zero q h k = absurd (omega arith)
more_roots (r ∷ roots) (suc i) q h k = ap roots_text (take_more (r ∷ roots) (suc i) q k) ∙ one_root r (take i roots) (get_or roots i q)
