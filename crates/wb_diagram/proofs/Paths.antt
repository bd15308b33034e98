-- How the written form of a path grows by a pair.
use Rattle.std.proofs.Common.{◌≡◌, ℕ, ◌+◌, ◌<◌, List, [], ◌∷◌, ◌++◌, length, take, get_or, refl, ap, ◌∙◌, sym, arith, append_assoc, zero, suc}
use Rattle.std.specs.Prelude.{codes}
use Rattle.std.proofs.lemmas.List.{take_more}
use Rattle.wb_diagram.specs.Keys.{pair_text, path_text}
use Rattle.wb_diagram.specs.declared.keys.Pair.{Pair}

-- nothing is written for the diagram itself
pub path_text-none : path_text [] ≡ []
unfolding path_text
path_text-none = refl

-- the first pair stands alone
pub path_text-first : (path : List Pair) (p : Pair) → 0 < length path → path_text (take 1 path) ≡ pair_text (get_or path 0 p)
unfolding path_text
path_text-first [] p h = absurd (omega arith)
path_text-first (q ∷ path) p h = refl

-- a further pair stands behind a dash
pub path_text-push : (p : Pair) (ps : List Pair) (q : Pair) → path_text ((p ∷ ps) ++ q ∷ []) ≡ (path_text (p ∷ ps) ++ codes "-") ++ pair_text q
unfolding path_text
path_text-push p [] q = sym (append_assoc (pair_text p) (codes "-") (pair_text q))
path_text-push p (r ∷ ps) q =
    ap (λ t. pair_text p ++ (codes "-" ++ t)) (path_text-push r ps q) ∙ simp append_assoc

pub path_text-more : (path : List Pair) (i : ℕ) (q : Pair) → 0 < i → i < length path → path_text (take (i + 1) path) ≡ (path_text (take i path) ++ codes "-") ++ pair_text (get_or path i q)
path_text-more [] i q h k = absurd (omega arith)
path_text-more (p ∷ ps) zero q h k = absurd (omega arith)
path_text-more (p ∷ ps) (suc i) q h k =
    ap path_text (take_more (p ∷ ps) (suc i) q k) ∙ path_text-push p (take i ps) (get_or ps i q)
