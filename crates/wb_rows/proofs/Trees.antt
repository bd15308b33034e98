-- A tree of rows, as a finite map.
use Rattle.std.proofs.Common.{◌≡◌, ℕ, T, List, [], ◌∷◌, length, Result, Ok, Err, IfOk, refl, sym, ap, subst, ◌∙◌}
use Rattle.std.specs.declared.alloc.AllocError.{AllocError}
use Rattle.wb_outer.specs.declared.keeper.Row.{Row}
use Rattle.std.specs.declared.cmp.Ordering.{Ordering}
use Rattle.std.specs.declared.cmp.Ordering.TheVariants as c
use Rattle.std.specs.Ordering.{match_ordering}
use Rattle.std.specs.BTreeMap.{insert_entry}
use Rattle.std.specs.FinMap.{is_sorted, put, insert, empty, entries, entries_sorted, from_sorted, empty_of_len, len-entries, entries-from_sorted, same_entries_map, entries-insert}
use Rattle.std.specs.FinMap.Entries.{by_order, is_sorted-put}
use Rattle.wb_rows.specs.Texts.{Ascend, Texts, key_cmp, rows_in}
use Rattle.wb_rows.proofs.Orders.{entries_back, key_total}

same_choice : {A : Type 0} (r : Ordering) (x y z : A) → match_ordering r x y z ≡ by_order r x y z
same_choice c.Less x y z = refl
same_choice c.Equal x y z = refl
same_choice c.Greater x y z = refl

insert_is_put : (k v : List ℕ) (es : List (List ℕ × List ℕ)) → insert_entry key_cmp es k v ≡ put key_cmp k v es
insert_is_put k v [] = refl
insert_is_put k v (e ∷ es) =
    same_choice (key_cmp k e.0) ((k, v) ∷ e ∷ es) ((e.0, v) ∷ es) (e ∷ insert_entry key_cmp es k v)
    ∙ ap (λ fs. by_order (key_cmp k e.0) ((k, v) ∷ e ∷ es) ((e.0, v) ∷ es) (e ∷ fs)) (insert_is_put k v es)

pub none_is_empty : (es : List (List ℕ × List ℕ)) → es ≡ [] → from_sorted {R = key_cmp} es ≡ empty
none_is_empty es e = ap (λ fs. from_sorted {R = key_cmp} fs) e
    ∙ empty_of_len (from_sorted {X = List ℕ} {R = key_cmp} []) (len-entries (from_sorted {X = List ℕ} {R = key_cmp} []) ∙ ap length (entries-from_sorted key_cmp [] tt))

module _ (es fs : List (List ℕ × List ℕ)) (k v : List ℕ) (s : T (is_sorted key_cmp es)) (is : fs ≡ insert_entry key_cmp es k v) where
  pub stays_sorted : T (is_sorted key_cmp fs)
  stays_sorted = subst (λ gs. T (is_sorted key_cmp gs)) (sym (is ∙ insert_is_put k v es)) (is_sorted-put key_cmp key_total k v es s)

  inserts : from_sorted {R = key_cmp} fs ≡ insert (from_sorted {R = key_cmp} es) k v
  inserts =
      ap (λ gs. from_sorted {R = key_cmp} gs) (is ∙ insert_is_put k v es)
      ∙ same_entries_map (from_sorted {R = key_cmp} (put key_cmp k v es)) (insert (from_sorted {R = key_cmp} es) k v)
      (entries-from_sorted key_cmp (put key_cmp k v es) (is_sorted-put key_cmp key_total k v es s)
      ∙ sym (entries-insert key_total (from_sorted {R = key_cmp} es) k v ∙ ap (put key_cmp k v) (entries-from_sorted key_cmp es s)))

  pub inserted : (m : Texts) → from_sorted {R = key_cmp} es ≡ m → from_sorted {R = key_cmp} fs ≡ insert m k v
  inserted m view = inserts ∙ ap (λ n. insert n k v) view

-- ---- the rows of a map

pub entries_of : (es : List (List ℕ × List ℕ)) (m : Texts) → T (is_sorted key_cmp es) → from_sorted {R = key_cmp} es ≡ m → es ≡ entries m
entries_of es m s view = sym (entries-from_sorted key_cmp es s) ∙ ap (λ n. entries n) view

pub rows_in_ascend : (m : Texts) → Ascend (rows_in m)
rows_in_ascend m = subst (λ es. T (is_sorted key_cmp es)) (sym (entries_back (entries m))) (entries_sorted m)

pub are_ascending : (r : Result (List Row) AllocError) (m : Texts) → IfOk r (λ rows. rows ≡ rows_in m) → IfOk r Ascend
are_ascending (Ok rows) m is = subst Ascend (sym is) (rows_in_ascend m)
are_ascending (Err e) m is = is
