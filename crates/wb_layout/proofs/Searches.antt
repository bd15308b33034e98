-- Places in ascending lists of entries, and what is found and put there.
use Rattle.std.proofs.Common.{◌≡◌, ◌≤◌, ◌<◌, ℕ, zero, suc, Bool, true, false, ◌&&◌, T, List, [], ◌∷◌, ◌++◌, length, take, drop, set, get_or, cond, map, Some, None, refl, sym, ap, subst, ◌∙◌, arith}
use Rattle.std.specs.Prelude.{slice_get, slice_index_or}
use Rattle.std.specs.declared.cmp.Ordering.{Ordering}
use Rattle.std.specs.declared.cmp.Ordering.TheVariants as c
use Rattle.std.specs.FinMap.{is_sorted, find, put, keys, from_sorted, entries-from_sorted}
use Rattle.std.specs.FinMap.Entries.{below_all, by_order}
use Rattle.std.specs.Ordering.{ordering_reverse, is_lt, is_eq, eq_by_cmp}
use Rattle.std.specs.List.{AllByRecursion, AllWithin}
use Rattle.std.specs.List.Sorted.{IsPartitionedBy, IsPartitionPoint}
use Rattle.wb_diagram.specs.declared.keys.Key.{Key}
use Rattle.wb_layout.specs.Orders.{key_cmp}
use Rattle.wb_layout.specs.Positions.{Position, Positions}
use Rattle.wb_layout.specs.invariants.Entries.{Ascend}
use Rattle.wb_layout.specs.invariants.Searches.{IsNotBefore, IsPlace}
use Rattle.wb_layout.proofs.KeyOrder.{key_cmp_total}

-- ---- tests

left_of : (a b : Bool) → T (a && b) → T a
left_of true b h = tt
left_of false b h = absurd h

right_of : (a b : Bool) → T (a && b) → T b
right_of true b h = h
right_of false b h = absurd h

pair_of : (a b : Bool) → T a → T b → T (a && b)
pair_of true b h k = k
pair_of false b h k = absurd h

true_of : (b : Bool) → T b → b ≡ true
true_of true h = refl
true_of false h = absurd h

T_of : (b : Bool) → b ≡ true → T b
T_of b e = subst T (sym e) tt

less_of : (r : Ordering) → is_lt r ≡ true → r ≡ c.Less
less_of c.Less e = refl
less_of c.Equal e = absurd cc
less_of c.Greater e = absurd cc

turned : (x y : Key) → key_cmp x y ≡ c.Less → key_cmp y x ≡ c.Greater
turned x y e = key_cmp_total.antisymm y x ∙ ap ordering_reverse e

through : (x y z : Key) → is_lt (key_cmp x y) ≡ true → is_lt (key_cmp y z) ≡ true → is_lt (key_cmp x z) ≡ true
through x y z e f = ap is_lt (key_cmp_total.trans x y z (less_of (key_cmp x y) e) (less_of (key_cmp y z) f))

-- not before, and not the same: behind
behind_then : (r s : Ordering) → r ≡ ordering_reverse s → is_lt r ≡ false → is_eq s ≡ false → s ≡ c.Less
behind_then r c.Less e f g = refl
behind_then r c.Equal e f g = absurd cc
behind_then r c.Greater e f g = absurd (let h : is_lt r ≡ true = ap is_lt e in cc)

comes_before : (x k : Key) → is_lt (key_cmp x k) ≡ false → eq_by_cmp key_cmp k x ≡ false → key_cmp k x ≡ c.Less
comes_before x k e f = behind_then (key_cmp x k) (key_cmp k x) (key_cmp_total.antisymm x k) e f

-- ---- ascending lists

below_at : (x : Key) (es : List (Key × Position)) (j : ℕ) (d : Key × Position) → T (below_all key_cmp x es) → j < length es → is_lt (key_cmp x (slice_index_or es j d).0) ≡ true
below_at x [] j d h l = absurd (omega arith)
below_at x (e ∷ es) zero d h l = true_of _ (left_of (is_lt (key_cmp x e.0)) (below_all key_cmp x es) h)
below_at x (e ∷ es) (suc j) d h l = below_at x es j d (right_of (is_lt (key_cmp x e.0)) (below_all key_cmp x es) h) (omega arith)

below_through : (k x : Key) (es : List (Key × Position)) → is_lt (key_cmp k x) ≡ true → T (below_all key_cmp x es) → T (below_all key_cmp k es)
below_through k x [] e h = tt
below_through k x (y ∷ es) e h = pair_of (is_lt (key_cmp k y.0)) (below_all key_cmp k es)
    (T_of (is_lt (key_cmp k y.0)) (through k x y.0 e (true_of _ (left_of (is_lt (key_cmp x y.0)) (below_all key_cmp x es) h))))
    (below_through k x es e (right_of (is_lt (key_cmp x y.0)) (below_all key_cmp x es) h))

absent : (k : Key) (es : List (Key × Position)) → T (below_all key_cmp k es) → find key_cmp k es ≡ None
absent k [] h = refl
absent k (e ∷ es) h = ap (λ r. cond (is_eq r) (Some e.1) (find key_cmp k es)) (less_of (key_cmp k e.0) (true_of _ (left_of (is_lt (key_cmp k e.0)) (below_all key_cmp k es) h))) ∙ absent k es (right_of (is_lt (key_cmp k e.0)) (below_all key_cmp k es) h)

pub partitioned : (k : Key) (es : List (Key × Position)) → Ascend es → IsPartitionedBy (λ (e : Key × Position). is_lt (key_cmp e.0 k)) es
partitioned k [] h i j d le l e = absurd (omega arith)
partitioned k (x ∷ es) h zero zero d le l e = e
partitioned k (x ∷ es) h zero (suc j) d le l e = through x.0 (slice_index_or es j d).0 k (below_at x.0 es j d (left_of (below_all key_cmp x.0 es) (is_sorted key_cmp es) h) (omega arith)) e
partitioned k (x ∷ es) h (suc i) zero d le l e = absurd (omega arith)
partitioned k (x ∷ es) h (suc i) (suc j) d le l e = partitioned k es (right_of (below_all key_cmp x.0 es) (is_sorted key_cmp es) h) i j d (omega arith) (omega arith) e

before_of : (k : Key) (es : List (Key × Position)) (i : ℕ) → i ≤ length es → AllWithin (λ (e : Key × Position). is_lt (key_cmp e.0 k) ≡ true) es 0 i → AllByRecursion (λ (e : Key × Position). is_lt (key_cmp e.0 k) ≡ true) (take i es)
before_of k es zero l h = tt
before_of k [] (suc i) l h = absurd (omega arith)
before_of k (e ∷ es) (suc i) l h = (h 0 e (omega arith) (omega arith), before_of k es i (omega arith) (λ j d a b. h (suc j) d (omega arith) (omega arith)))

behind_of : (k : Key) (es : List (Key × Position)) (i : ℕ) → AllWithin (λ (e : Key × Position). is_lt (key_cmp e.0 k) ≡ false) es i (length es) → IsNotBefore k (drop i es)
behind_of k [] zero h = tt
behind_of k [] (suc i) h = tt
behind_of k (e ∷ es) zero h = h 0 e (omega arith) (omega arith)
behind_of k (e ∷ es) (suc i) h = behind_of k es i (λ j d a b. h (suc j) d (omega arith) (omega arith))

pub is_place : (k : Key) (es : List (Key × Position)) (i : ℕ) → i ≤ length es → IsPartitionPoint (λ (e : Key × Position). is_lt (key_cmp e.0 k) ≡ true) (λ (e : Key × Position). is_lt (key_cmp e.0 k) ≡ false) es i → IsPlace k es i
is_place k es i l h = record { within = l; before = before_of k es i l h.0; behind = behind_of k es i h.1 }

-- ---- what is found at a place

passes : (k : Key) (e : Key × Position) (es : List (Key × Position)) → is_lt (key_cmp e.0 k) ≡ true → find key_cmp k (e ∷ es) ≡ find key_cmp k es
passes k e es h = ap (λ r. cond (is_eq r) (Some e.1) (find key_cmp k es)) (turned e.0 k (less_of (key_cmp e.0 k) h))

found_first : (k : Key) (e : Key × Position) (es : List (Key × Position)) → eq_by_cmp key_cmp k e.0 ≡ true → find key_cmp k (e ∷ es) ≡ Some e.1
found_first k e es h = ap (λ b. cond b (Some e.1) (find key_cmp k es)) h

none_first : (k : Key) (e : Key × Position) (es : List (Key × Position)) → Ascend (e ∷ es) → is_lt (key_cmp e.0 k) ≡ false → eq_by_cmp key_cmp k e.0 ≡ false → find key_cmp k (e ∷ es) ≡ None
none_first k e es s h f =
    let less : key_cmp k e.0 ≡ c.Less = comes_before e.0 k h f in
    absent k (e ∷ es) (pair_of (is_lt (key_cmp k e.0)) (below_all key_cmp k es) (T_of (is_lt (key_cmp k e.0)) (ap is_lt less)) (below_through k e.0 es (ap is_lt less) (left_of (below_all key_cmp e.0 es) (is_sorted key_cmp es) s)))

pub found_at : (k : Key) (es : List (Key × Position)) (i : ℕ) (e : Key × Position) → Ascend es → AllByRecursion (λ (e : Key × Position). is_lt (key_cmp e.0 k) ≡ true) (take i es) → slice_get es i ≡ Some e → eq_by_cmp key_cmp k e.0 ≡ true → find key_cmp k es ≡ Some e.1
found_at k [] i e s b g h = absurd cc
found_at k (x ∷ es) zero e s b g h = let f : x ≡ e = cc in subst (λ y. find key_cmp k (y ∷ es) ≡ Some e.1) (sym f) (found_first k e es h)
found_at k (x ∷ es) (suc i) e s b g h = passes k x es b.0 ∙ found_at k es i e (right_of (below_all key_cmp x.0 es) (is_sorted key_cmp es) s) b.1 g h

pub none_at : (k : Key) (es : List (Key × Position)) (i : ℕ) (e : Key × Position) → Ascend es → AllByRecursion (λ (e : Key × Position). is_lt (key_cmp e.0 k) ≡ true) (take i es) → IsNotBefore k (drop i es) → slice_get es i ≡ Some e → eq_by_cmp key_cmp k e.0 ≡ false → find key_cmp k es ≡ None
none_at k [] i e s b n g h = refl
none_at k (x ∷ es) zero e s b n g h = let f : e ≡ x = cc in none_first k x es s n (subst (λ (y : Key × Position). eq_by_cmp key_cmp k y.0 ≡ false) f h)
none_at k (x ∷ es) (suc i) e s b n g h = passes k x es b.0 ∙ none_at k es i e (right_of (below_all key_cmp x.0 es) (is_sorted key_cmp es) s) b.1 n g h

pub none_there : (k : Key) (es : List (Key × Position)) (i : ℕ) → AllByRecursion (λ (e : Key × Position). is_lt (key_cmp e.0 k) ≡ true) (take i es) → slice_get es i ≡ None → find key_cmp k es ≡ None
none_there k [] i b g = refl
none_there k (x ∷ es) zero b g = absurd cc
none_there k (x ∷ es) (suc i) b g = passes k x es b.0 ∙ none_there k es i b.1 g

-- ---- what is put at a place

put_passes : (k : Key) (v : Position) (e : Key × Position) (es : List (Key × Position)) → is_lt (key_cmp e.0 k) ≡ true → put key_cmp k v (e ∷ es) ≡ e ∷ put key_cmp k v es
put_passes k v e es h = ap (λ r. by_order r ((k, v) ∷ e ∷ es) ((e.0, v) ∷ es) (e ∷ put key_cmp k v es)) (turned e.0 k (less_of (key_cmp e.0 k) h))

equal_of : (r : Ordering) → is_eq r ≡ true → r ≡ c.Equal
equal_of c.Less e = absurd cc
equal_of c.Equal e = refl
equal_of c.Greater e = absurd cc

pub put_over : (k : Key) (v : Position) (es : List (Key × Position)) (i : ℕ) (e : Key × Position) → AllByRecursion (λ (e : Key × Position). is_lt (key_cmp e.0 k) ≡ true) (take i es) → slice_get es i ≡ Some e → eq_by_cmp key_cmp k e.0 ≡ true → put key_cmp k v es ≡ set es i (e.0, v)
put_over k v [] i e b g h = absurd cc
put_over k v (x ∷ es) zero e b g h = let f : x ≡ e = cc in
    subst (λ (y : Key × Position). put key_cmp k v (y ∷ es) ≡ (e.0, v) ∷ es) (sym f) (ap (λ r. by_order r ((k, v) ∷ e ∷ es) ((e.0, v) ∷ es) (e ∷ put key_cmp k v es)) (equal_of (key_cmp k e.0) h))
put_over k v (x ∷ es) (suc i) e b g h = put_passes k v x es b.0 ∙ ap (λ ys. x ∷ ys) (put_over k v es i e b.1 g h)

pub put_between : (k : Key) (v : Position) (es : List (Key × Position)) (i : ℕ) → AllByRecursion (λ (e : Key × Position). is_lt (key_cmp e.0 k) ≡ true) (take i es) → IsNotBefore k (drop i es) → ((e : Key × Position) → slice_get es i ≡ Some e → eq_by_cmp key_cmp k e.0 ≡ false) → put key_cmp k v es ≡ take i es ++ (k, v) ∷ drop i es
put_between k v [] zero b n h = refl
put_between k v [] (suc i) b n h = refl
put_between k v (x ∷ es) zero b n h = ap (λ r. by_order r ((k, v) ∷ x ∷ es) ((x.0, v) ∷ es) (x ∷ put key_cmp k v es)) (comes_before x.0 k n (h x refl))
put_between k v (x ∷ es) (suc i) b n h = put_passes k v x es b.0 ∙ ap (λ ys. x ∷ ys) (put_between k v es i b.1 n h)

pub same_entry : (es : List (Key × Position)) (i : ℕ) (e x : Key × Position) → slice_get es i ≡ Some e → x ≡ get_or es i x → e ≡ x
same_entry [] i e x h k = absurd cc
same_entry (y ∷ es) zero e x h k = let f : y ≡ e = cc in sym f ∙ sym k
same_entry (y ∷ es) (suc i) e x h k = same_entry es i e x h k

-- ---- keys by their number

got_key : (es : List (Key × Position)) (i : ℕ) (e : Key × Position) → slice_get es i ≡ Some e → slice_get (map (λ (x : Key × Position). x.0) es) i ≡ Some e.0
got_key [] i e h = absurd cc
got_key (x ∷ es) zero e h = let f : x ≡ e = cc in ap (λ (y : Key × Position). Some y.0) f
got_key (x ∷ es) (suc i) e h = got_key es i e h

got_no_key : (es : List (Key × Position)) (i : ℕ) → slice_get es i ≡ None → slice_get (map (λ (x : Key × Position). x.0) es) i ≡ None
got_no_key [] i h = refl
got_no_key (x ∷ es) zero h = absurd cc
got_no_key (x ∷ es) (suc i) h = got_no_key es i h

module _ (es : List (Key × Position)) (m : Positions) (is : from_sorted {R = key_cmp} es ≡ m) (s : Ascend es) where
  pub key_at : (i : ℕ) (e : Key × Position) → Some e ≡ slice_get es i → Some e.0 ≡ slice_get (keys m) i
  key_at i e h = sym (ap (λ n. slice_get (keys n) i) (sym is) ∙ (ap (λ fs. slice_get (map (λ (x : Key × Position). x.0) fs) i) (entries-from_sorted key_cmp es s) ∙ got_key es i e (sym h)))

  pub no_key_at : (i : ℕ) → None ≡ slice_get es i → None ≡ slice_get (keys m) i
  no_key_at i h = sym (ap (λ n. slice_get (keys n) i) (sym is) ∙ (ap (λ fs. slice_get (map (λ (x : Key × Position). x.0) fs) i) (entries-from_sorted key_cmp es s) ∙ got_no_key es i (sym h)))
