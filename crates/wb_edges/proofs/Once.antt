-- Edges that are put one after the other stand each at its first place.
use Rattle.std.proofs.Common.{◌≡◌, Bool, true, false, not, cond, ◌&&◌, ◌||◌, List, [], ◌∷◌, ◌++◌, filter, refl, sym, ap, ◌∙◌, append-nil, append_assoc, if◌then◌else◌}
use Rattle.std.specs.List.{list_any}
use Rattle.std.proofs.lemmas.List.Elements.{filter_agree}
use Rattle.std.proofs.lemmas.List.Folds.{list_any-append}
use Rattle.wb_diagram.specs.declared.keys.EdgeKey.{EdgeKey}
use Rattle.wb_answers.specs.SameKeys.{same_edge}
use Rattle.wb_answers.proofs.SameKeyLaws.{edge_equiv}
use Rattle.wb_edges.specs.Edges.{each_once}
use Rattle.wb_edges.specs.Puts.{put_all}

-- the edge is none of these
abbrev fresh : List EdgeKey → EdgeKey → Bool
fresh edges e = not (list_any (same_edge e) edges)

abbrev differs : EdgeKey → EdgeKey → Bool
differs e other = not (same_edge e other)

filter_both : (p q : EdgeKey → Bool) (es : List EdgeKey) → filter p (filter q es) ≡ filter (λ e. q e && p e) es
filter_both p q [] = refl
filter_both p q (e ∷ es) = by (q e) (p e) (filter_both p q es)
  where
    by : (b c : Bool) → filter p (filter q es) ≡ filter (λ e. q e && p e) es → filter p (cond b (e ∷ filter q es) (filter q es)) ≡ cond (b && p e) (e ∷ filter (λ e. q e && p e) es) (filter (λ e. q e && p e) es)
    by true c rest = ap (λ ys. cond (p e) (e ∷ ys) ys) rest
    by false c rest = rest

-- an edge like one of these is one of these
among_alike : (edges : List EdgeKey) (e other : EdgeKey) → same_edge e other ≡ true → list_any (same_edge e) edges ≡ list_any (same_edge other) edges
among_alike edges e other alike = ap (λ (f : EdgeKey → Bool). list_any f edges) (λ i x. edge_equiv.congr e other x alike i)

stays : (edges : List EdgeKey) (e : EdgeKey) → list_any (same_edge e) edges ≡ true → (other : EdgeKey) → (differs e other && fresh edges other) ≡ fresh edges other
stays edges e is other = by (same_edge e other) refl
  where
    by : (b : Bool) → same_edge e other ≡ b → (not b && fresh edges other) ≡ fresh edges other
    by true alike = ap not (sym is ∙ among_alike edges e other alike)
    by false alike = refl

goes_last : (edges : List EdgeKey) (e other : EdgeKey) → fresh (edges ++ e ∷ []) other ≡ (differs e other && fresh edges other)
goes_last edges e other =
    ap not (list_any-append (same_edge other) edges (e ∷ []) ∙ ap (λ b. list_any (same_edge other) edges || (b || false)) (edge_equiv.symm other e))
    ∙ by (list_any (same_edge other) edges) (same_edge e other)
  where
    by : (a b : Bool) → not (a || (b || false)) ≡ (not b && not a)
    by true true = refl
    by true false = refl
    by false true = refl
    by false false = refl

put_fresh : (edges es : List EdgeKey) → put_all edges es ≡ edges ++ filter (fresh edges) (each_once es)
unfolding put_all each_once
put_fresh edges [] = sym (append-nil edges)
put_fresh edges (e ∷ es) = by (list_any (same_edge e) edges) refl (put_fresh edges es) (put_fresh (edges ++ e ∷ []) es)
  where
    by : (b : Bool) → list_any (same_edge e) edges ≡ b → put_all edges es ≡ edges ++ filter (fresh edges) (each_once es) → put_all (edges ++ e ∷ []) es ≡ (edges ++ e ∷ []) ++ filter (fresh (edges ++ e ∷ [])) (each_once es)
        → put_all (if b then edges else edges ++ e ∷ []) es ≡ edges ++ cond (not b) (e ∷ filter (fresh edges) (filter (differs e) (each_once es))) (filter (fresh edges) (filter (differs e) (each_once es)))
    by true is same more = same ∙ ap (λ ys. edges ++ ys) (sym (filter_both (fresh edges) (differs e) (each_once es) ∙ filter_agree _ (fresh edges) (stays edges e is) (each_once es)))
    by false is same more =
        more
        ∙ (append_assoc edges (e ∷ []) (filter (fresh (edges ++ e ∷ [])) (each_once es))
        ∙ ap (λ ys. edges ++ (e ∷ ys)) (filter_agree (fresh (edges ++ e ∷ [])) (λ other. differs e other && fresh edges other) (goes_last edges e) (each_once es) ∙ sym (filter_both (fresh edges) (differs e) (each_once es))))

all_pass : (es : List EdgeKey) → filter (fresh []) es ≡ es
all_pass [] = refl
all_pass (e ∷ es) = ap (λ ys. e ∷ ys) (all_pass es)

pub once : (es : List EdgeKey) → put_all [] es ≡ each_once es
once es = put_fresh [] es ∙ all_pass (each_once es)
