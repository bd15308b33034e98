-- Keys laid in the grids of their parents.
use Rattle.std.proofs.Common.{◌≡◌, ◌<◌, ◌+◌, ℕ, List, [], ◌∷◌, ◌++◌, length, take, get_or, cond, map, refl, sym, ap, ◌∙◌}
use Rattle.std.proofs.lemmas.List.{take_more, map-append}
use Rattle.std.proofs.lemmas.List.Filters.{length-filter_more}
use Rattle.wb_diagram.specs.declared.keys.Key.{Key}
use Rattle.wb_layout.specs.Orders.{same_key}
use Rattle.wb_layout.specs.Positions.{Position, Positions, placed}
use Rattle.wb_layout.specs.Grid.{parent_of, children_of, grid, with_earlier, place, placed_all, arranged}

with_earlier-last : {A : Type 0} (xs : List A) (x : A) → with_earlier (xs ++ x ∷ []) ≡ with_earlier xs ++ (xs, x) ∷ []
with_earlier-last [] x = refl
with_earlier-last (y ∷ ys) x =
    ap (λ ps. ([], y) ∷ map (λ p. (y ∷ p.0, p.1)) ps) (with_earlier-last ys x)
    ∙ ap (λ ps. ([], y) ∷ ps) (map-append (λ p. (y ∷ p.0, p.1)) (with_earlier ys) ((ys, x) ∷ []))

placed_all-last : (m : Positions) (es : List (Key × Position)) (e : Key × Position) → placed_all m (es ++ e ∷ []) ≡ placed (placed_all m es) e.0 e.1
placed_all-last m [] e = refl
placed_all-last m (d ∷ es) e = placed_all-last (placed m d.0 d.1) es e

-- one key more
arranged-last : (m : Positions) (ks : List Key) (k : Key) → arranged m (ks ++ k ∷ []) ≡ placed (arranged m ks) k (grid (length (children_of (parent_of k) ks)))
unfolding arranged
arranged-last m ks k =
    ap (λ ps. placed_all m (map place ps)) (with_earlier-last ks k)
    ∙ ap (placed_all m) (map-append place (with_earlier ks) ((ks, k) ∷ []))
    ∙ placed_all-last m (map place (with_earlier ks)) (place (ks, k))

pub arranged-none : (m : Positions) → arranged m [] ≡ m
unfolding arranged
arranged-none m = refl

pub laid_more : (m n : Positions) (ks : List Key) (i : ℕ) (k : Key) (seen : ℕ) (before : Positions) → i < length ks → k ≡ get_or ks i k
    → before ≡ arranged m (take i ks) → seen ≡ length (children_of (parent_of k) (take i ks)) → n ≡ placed before k (grid seen) → n ≡ arranged m (take (i + 1) ks)
laid_more m n ks i k seen before l at h s e =
    e ∙ ap (λ x. placed x k (grid seen)) h
    ∙ ap (λ x. placed (arranged m (take i ks)) k (grid x)) s
    ∙ sym (ap (arranged m) (take_more ks i k l ∙ ap (λ x. take i ks ++ x ∷ []) (sym at)) ∙ arranged-last m (take i ks) k)

pub seen_more : (ks : List Key) (i : ℕ) (k q : Key) (before now : ℕ) → i < length ks → k ≡ get_or ks i k → before ≡ length (children_of q (take i ks))
    → now ≡ before + cond (same_key (parent_of k) q) 1 0 → now ≡ length (children_of q (take (i + 1) ks))
seen_more ks i k q before now l at h e =
    e ∙ ap (λ n. n + cond (same_key (parent_of k) q) 1 0) h
    ∙ ap (λ x. length (children_of q (take i ks)) + cond (same_key (parent_of x) q) 1 0) at
    ∙ sym (length-filter_more (λ key. same_key (parent_of key) q) ks i k l)
