-- A tree's entries, as a finite map.
use Rattle.std.proofs.Common.{◌≡◌, ◌<◌, ◌+◌, ℕ, Bool, true, false, ◌&&◌, T, List, [], ◌∷◌, ◌++◌, length, take, drop, get_or, cond, Option, Some, refl, sym, ap, subst, ◌∙◌, append_assoc}
use Rattle.std.proofs.lemmas.List.{take_more, take-append-drop}
use Rattle.std.specs.Prelude.{IfSome}
use Rattle.std.specs.declared.cmp.Ordering.{Ordering}
use Rattle.std.specs.declared.cmp.Ordering.TheVariants as c
use Rattle.std.specs.Ordering.{ordering_reverse, match_ordering, is_lt, eq_by_cmp}
use Rattle.std.specs.BTreeMap.{insert_entry}
use Rattle.std.specs.FinMap.{is_sorted, find, put, get, insert, empty, from_sorted, empty_of_len, len-entries, entries-from_sorted, get-from_sorted, same_entries_map, entries-insert}
use Rattle.std.specs.FinMap.Entries.{below_all, by_order, is_sorted-put, find-put}
use Rattle.wb_diagram.specs.declared.keys.Key.{Key}
use Rattle.wb_layout.specs.Orders.{key_cmp}
use Rattle.wb_layout.specs.Positions.{Position, Positions, IsInRange}
use Rattle.wb_layout.proofs.KeyOrder.{key_cmp_total}

-- ---- the words of trees and of finite maps

same_choice : {A : Type 0} (r : Ordering) (x y z : A) → match_ordering r x y z ≡ by_order r x y z
same_choice c.Less x y z = refl
same_choice c.Equal x y z = refl
same_choice c.Greater x y z = refl

pub insert_is_put : {X : Type 0} (k : Key) (v : X) (es : List (Key × X)) → insert_entry key_cmp es k v ≡ put key_cmp k v es
insert_is_put k v [] = refl
insert_is_put k v (e ∷ es) =
    same_choice (key_cmp k e.0) ((k, v) ∷ e ∷ es) ((e.0, v) ∷ es) (e ∷ insert_entry key_cmp es k v)
    ∙ ap (λ fs. by_order (key_cmp k e.0) ((k, v) ∷ e ∷ es) ((e.0, v) ∷ es) (e ∷ fs)) (insert_is_put k v es)

-- ---- no entries

pub none_is_empty : (es : List (Key × Position)) → es ≡ [] → from_sorted {R = key_cmp} es ≡ empty
none_is_empty es e = ap (λ fs. from_sorted {R = key_cmp} fs) e
    ∙ empty_of_len (from_sorted {X = Position} {R = key_cmp} []) (len-entries (from_sorted {X = Position} {R = key_cmp} []) ∙ ap length (entries-from_sorted key_cmp [] tt))

-- ---- one entry put

pub put_is_insert : (es fs : List (Key × Position)) (k : Key) (v : Position) → T (is_sorted key_cmp es) → fs ≡ put key_cmp k v es → from_sorted {R = key_cmp} fs ≡ insert (from_sorted {R = key_cmp} es) k v
put_is_insert es fs k v s e =
    ap (λ gs. from_sorted {R = key_cmp} gs) e
    ∙ same_entries_map (from_sorted {R = key_cmp} (put key_cmp k v es)) (insert (from_sorted {R = key_cmp} es) k v)
    (entries-from_sorted key_cmp (put key_cmp k v es) (is_sorted-put key_cmp key_cmp_total k v es s)
    ∙ sym (entries-insert key_cmp_total (from_sorted {R = key_cmp} es) k v ∙ ap (put key_cmp k v) (entries-from_sorted key_cmp es s)))

pub put_rises : (es fs : List (Key × Position)) (k : Key) (v : Position) → T (is_sorted key_cmp es) → fs ≡ put key_cmp k v es → T (is_sorted key_cmp fs)
put_rises es fs k v s e = subst (λ gs. T (is_sorted key_cmp gs)) (sym e) (is_sorted-put key_cmp key_cmp_total k v es s)

either : (b : Bool) (v : Position) (o : Option Position) → IsInRange v → IfSome o IsInRange → IfSome (cond b (Some v) o) IsInRange
either true v o h k = h
either false v o h k = k

pub put_in_range : (es fs : List (Key × Position)) (k : Key) (v : Position) → fs ≡ put key_cmp k v es → IsInRange v → ((q : Key) → IfSome (find key_cmp q es) IsInRange) → (q : Key) → IfSome (find key_cmp q fs) IsInRange
put_in_range es fs k v e h all q =
    subst (λ o. IfSome o IsInRange) (sym (ap (find key_cmp q) e ∙ find-put key_cmp key_cmp_total q k v es)) (either (eq_by_cmp key_cmp q k) v (find key_cmp q es) h (all q))

-- ---- an entry that comes last

first_of : (a b : Bool) → T (a && b) → T a
first_of true b h = tt
first_of false b h = absurd h

second_of : (a b : Bool) → T (a && b) → T b
second_of true b h = h
second_of false b h = absurd h

less_of : (r : Ordering) → T (is_lt r) → r ≡ c.Less
less_of c.Less e = refl
less_of c.Equal e = absurd e
less_of c.Greater e = absurd e

below_last : {X : Type 0} (x : Key) (es : List (Key × X)) (e : Key × X) (fs : List (Key × X)) → T (below_all key_cmp x (es ++ e ∷ fs)) → T (is_lt (key_cmp x e.0))
below_last x [] e fs h = first_of (is_lt (key_cmp x e.0)) (below_all key_cmp x fs) h
below_last x (d ∷ es) e fs h = below_last x es e fs (second_of (is_lt (key_cmp x d.0)) (below_all key_cmp x (es ++ e ∷ fs)) h)

pub put_last : {X : Type 0} (es : List (Key × X)) (k : Key) (v : X) (fs : List (Key × X)) → T (is_sorted key_cmp (es ++ (k, v) ∷ fs)) → put key_cmp k v es ≡ es ++ (k, v) ∷ []
put_last [] k v fs h = refl
put_last (e ∷ es) k v fs h =
    let before = less_of (key_cmp e.0 k) (below_last e.0 es (k, v) fs (first_of (below_all key_cmp e.0 (es ++ (k, v) ∷ fs)) (is_sorted key_cmp (es ++ (k, v) ∷ fs)) h)) in
    ap (λ r. by_order r ((k, v) ∷ e ∷ es) ((e.0, v) ∷ es) (e ∷ put key_cmp k v es)) (key_cmp_total.antisymm k e.0 ∙ ap ordering_reverse before)
    ∙ ap (λ gs. e ∷ gs) (put_last es k v fs (second_of (below_all key_cmp e.0 (es ++ (k, v) ∷ fs)) (is_sorted key_cmp (es ++ (k, v) ∷ fs)) h))

-- ---- what a layout's entries say of its map

module _ (es : List (Key × Position)) (m : Positions) (is : from_sorted {R = key_cmp} es ≡ m) (s : T (is_sorted key_cmp es)) where
  pub found_at : (k : Key) → find key_cmp k es ≡ get m k
  found_at k = sym (get-from_sorted key_cmp es k s) ∙ ap (λ n. get n k) is

  pub inserted : (fs : List (Key × Position)) (k : Key) (v : Position) → fs ≡ put key_cmp k v es → from_sorted {R = key_cmp} fs ≡ insert m k v
  inserted fs k v e = put_is_insert es fs k v s e ∙ ap (λ n. insert n k v) is

-- ---- one entry more, in order

split_at : {A : Type 0} (xs : List A) (i : ℕ) (x : A) → i < length xs → x ≡ get_or xs i x → xs ≡ take i xs ++ x ∷ drop (i + 1) xs
split_at xs i x l at = sym (take-append-drop (i + 1) xs) ∙ ap (λ ys. ys ++ drop (i + 1) xs) (take_more xs i x l ∙ ap (λ y. take i xs ++ y ∷ []) (sym at)) ∙ append_assoc (take i xs) (x ∷ []) (drop (i + 1) xs)

pub one_more : (all done more : List (Key × Position)) (i : ℕ) (e : Key × Position) (k : Key) → T (is_sorted key_cmp all) → i < length all → e ≡ get_or all i e → done ≡ take i all → k ≡ e.0 → more ≡ insert_entry key_cmp done k e.1 → more ≡ take (i + 1) all
one_more all done more i e k s l at before same put_in =
    put_in ∙ insert_is_put k e.1 done
    ∙ ap (λ key. put key_cmp key e.1 done) same
    ∙ ap (put key_cmp e.0 e.1) before
    ∙ put_last (take i all) e.0 e.1 (drop (i + 1) all) (subst (λ es. T (is_sorted key_cmp es)) (split_at all i e l at) s)
    ∙ sym (take_more all i e l ∙ ap (λ y. take i all ++ y ∷ []) (sym at))
