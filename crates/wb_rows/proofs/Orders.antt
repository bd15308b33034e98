-- The order of keys, and rows in that order.
use Rattle.std.proofs.Common.{◌≡◌, ◌<◌, ℕ, zero, suc, Bool, true, false, ◌&&◌, T, List, [], ◌∷◌, nat_eq, length, get_or, cond, map, Some, None, refl, sym, ap, ◌∙◌, arith}
use Rattle.std.specs.declared.cmp.Ordering.{Ordering}
use Rattle.std.specs.declared.cmp.Ordering.TheVariants as c
use Rattle.std.specs.Ordering.{ordering_reverse, is_lt, is_eq, eq_by_cmp}
use Rattle.std.specs.Cmp.{IsTotalOrder}
use Rattle.std.specs.Cmp.Lexicographic.{nat_list_cmp_total, pointwise, texts_ties}
use Rattle.std.specs.FinMap.{IsAntisymmetric, is_sorted, find, nat_cmp-IsAntisymmetric, slice_cmp-IsAntisymmetric}
use Rattle.std.specs.FinMap.Entries.{below_all}
use Rattle.wb_outer.specs.declared.keeper.Row.{Row}
use Rattle.wb_rows.specs.Texts.{Ascend, entry_of, key_cmp, row_of}

-- ---- keys

pub key_total : IsTotalOrder key_cmp
key_total = nat_list_cmp_total

-- keys that tie are one key
pub one_key : IsAntisymmetric key_cmp
one_key = slice_cmp-IsAntisymmetric nat_cmp-IsAntisymmetric

pub equal_of : (r : Ordering) → is_eq r ≡ true → r ≡ c.Equal
equal_of c.Less e = absurd cc
equal_of c.Equal e = refl
equal_of c.Greater e = absurd cc

pub same_key_is : (x y : List ℕ) → eq_by_cmp key_cmp x y ≡ true → x ≡ y
same_key_is x y e = one_key x y (equal_of (key_cmp x y) e)

tied : (x : List ℕ) → key_cmp x x ≡ c.Equal
tied x = itself (key_cmp x x) (key_total.antisymm x x)
  where
    itself : (r : Ordering) → r ≡ ordering_reverse r → r ≡ c.Equal
    itself c.Less e = absurd cc
    itself c.Equal e = refl
    itself c.Greater e = absurd cc

pub same_itself : (x : List ℕ) → eq_by_cmp key_cmp x x ≡ true
same_itself x = ap is_eq (tied x)

pub same_text : (x : List ℕ) → pointwise nat_eq x x ≡ true
same_text x = texts_ties x x ∙ same_itself x

pub same_text_is : (x y : List ℕ) → pointwise nat_eq x y ≡ true → x ≡ y
same_text_is x y e = same_key_is x y (sym (texts_ties x y) ∙ e)

-- ---- tests

pub left_of : (a b : Bool) → T (a && b) → T a
left_of true b h = tt
left_of false b h = absurd h

pub right_of : (a b : Bool) → T (a && b) → T b
right_of true b h = h
right_of false b h = absurd h

pub pair_of : (a b : Bool) → T a → T b → T (a && b)
pair_of true b h k = k
pair_of false b h k = absurd h

less_of : (r : Ordering) → T (is_lt r) → r ≡ c.Less
less_of c.Less e = refl
less_of c.Equal e = absurd e
less_of c.Greater e = absurd e

apart_of : (r s : Ordering) → s ≡ ordering_reverse r → T (is_lt r) → (is_eq s ≡ false) × (is_lt s ≡ false)
apart_of c.Less s e h = (ap is_eq e, ap is_lt e)
apart_of c.Equal s e h = absurd h
apart_of c.Greater s e h = absurd h

-- a key above another is not below it, and not the same
pub above : (x y : List ℕ) → T (is_lt (key_cmp x y)) → (eq_by_cmp key_cmp y x ≡ false) × (is_lt (key_cmp y x) ≡ false)
above x y h = apart_of (key_cmp x y) (key_cmp y x) (key_total.antisymm y x) h

-- ---- rows as entries, and back

pub rows_back : (rows : List Row) → map row_of (map entry_of rows) ≡ rows
rows_back [] = refl
rows_back (r ∷ rows) = ap (λ rs. r ∷ rs) (rows_back rows)

pub entries_back : (es : List (List ℕ × List ℕ)) → map entry_of (map row_of es) ≡ es
entries_back [] = refl
entries_back (e ∷ es) = ap (λ fs. e ∷ fs) (entries_back es)

-- ---- ascending rows

pub first_below : (r : Row) (rows : List Row) → Ascend (r ∷ rows) → T (below_all key_cmp r.key (map entry_of rows))
first_below r rows up = left_of (below_all key_cmp r.key (map entry_of rows)) (is_sorted key_cmp (map entry_of rows)) up

pub rest_ascend : (r : Row) (rows : List Row) → Ascend (r ∷ rows) → Ascend rows
rest_ascend r rows up = right_of (below_all key_cmp r.key (map entry_of rows)) (is_sorted key_cmp (map entry_of rows)) up

pub below_at : (x : List ℕ) (rows : List Row) (j : ℕ) (d : Row) → T (below_all key_cmp x (map entry_of rows)) → j < length rows → T (is_lt (key_cmp x (get_or rows j d).key))
below_at x [] j d h l = absurd (omega arith)
below_at x (r ∷ rows) zero d h l = left_of (is_lt (key_cmp x r.key)) (below_all key_cmp x (map entry_of rows)) h
below_at x (r ∷ rows) (suc j) d h l = below_at x rows j d (right_of (is_lt (key_cmp x r.key)) (below_all key_cmp x (map entry_of rows)) h) (omega arith)

-- what is below all is not found
pub absent : (x : List ℕ) (es : List (List ℕ × List ℕ)) → T (below_all key_cmp x es) → find key_cmp x es ≡ None
absent x [] h = refl
absent x (e ∷ es) h =
    ap (λ r. cond (is_eq r) (Some e.1) (find key_cmp x es)) (less_of (key_cmp x e.0) (left_of (is_lt (key_cmp x e.0)) (below_all key_cmp x es) h))
    ∙ absent x es (right_of (is_lt (key_cmp x e.0)) (below_all key_cmp x es) h)
