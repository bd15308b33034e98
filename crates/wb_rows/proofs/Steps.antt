-- Rows that are put one after the other.
use Rattle.std.proofs.Common.{◌≡◌, ◌+◌, ◌<◌, ℕ, List, [], ◌∷◌, ◌++◌, length, take, get_or, map, refl, sym, ap, ◌∙◌}
use Rattle.std.proofs.lemmas.List.{take_more, map-append}
use Rattle.std.specs.FinMap.{insert}
use Rattle.wb_outer.specs.declared.keeper.Row.{Row}
use Rattle.wb_rows.specs.Texts.{Texts, with_rows}

pub rows_on : (xs ys : List Row) (m : Texts) → with_rows (xs ++ ys) m ≡ with_rows ys (with_rows xs m)
rows_on [] ys m = refl
rows_on (x ∷ xs) ys m = rows_on xs ys (insert m x.key x.text)

-- one item more
pub rows_more : {A : Type 0} (f : A → Row) (xs : List A) (i : ℕ) (x : A) (start : Texts) → i < length xs → x ≡ get_or xs i x
    → with_rows (map f (take (i + 1) xs)) start ≡ insert (with_rows (map f (take i xs)) start) (f x).key (f x).text
rows_more f xs i x start l at =
    ap (λ ys. with_rows (map f ys) start) (take_more xs i x l ∙ ap (λ y. take i xs ++ y ∷ []) (sym at))
    ∙ ap (λ rs. with_rows rs start) (map-append f (take i xs) (x ∷ []))
    ∙ rows_on (map f (take i xs)) (f x ∷ []) start

-- one name more
pub named_more : (f : List ℕ → Row) (names more : List (List ℕ)) (name : List ℕ) (start : Texts) → names ++ name ∷ [] ≡ more
    → with_rows (map f more) start ≡ insert (with_rows (map f names) start) (f name).key (f name).text
named_more f names more name start is =
    ap (λ ns. with_rows (map f ns) start) (sym is)
    ∙ ap (λ rs. with_rows rs start) (map-append f names (name ∷ []))
    ∙ rows_on (map f names) (f name ∷ []) start

-- what is put is this row
pub puts : (rows more : Texts) (r : Row) (key text : List ℕ) → more ≡ insert rows key text → key ≡ r.key → text ≡ r.text → more ≡ insert rows r.key r.text
puts rows more r key text put k t = put ∙ ap (λ x. insert rows x text) k ∙ ap (λ y. insert rows r.key y) t

-- ---- lists one behind the other

pub three_on : (a b d : List Row) (m : Texts) → with_rows (a ++ b ++ d) m ≡ with_rows d (with_rows b (with_rows a m))
three_on a b d m = rows_on (a ++ b) d m ∙ ap (with_rows d) (rows_on a b m)

pub five_on : (a b d e f : List Row) (m : Texts) → with_rows (a ++ b ++ d ++ e ++ f) m ≡ with_rows f (with_rows e (with_rows d (with_rows b (with_rows a m))))
five_on a b d e f m = rows_on (a ++ b ++ d ++ e) f m ∙ ap (with_rows f) (rows_on (a ++ b ++ d) e m ∙ ap (with_rows e) (three_on a b d m))
