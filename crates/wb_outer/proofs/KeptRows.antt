-- Changes keep the rows ascending, and a row is inserted at its place.
use Rattle.std.proofs.Common.{◌≡◌, refl, ℕ, suc, ◌<◌, ◌≤◌, Bool, true, false, cond, List, [], ◌∷◌, length, get_or, filter, arith}
use Rattle.std.specs.Cmp.{IsStrictWeakOrder}
use Rattle.std.specs.Cmp.Lexicographic.{nat_list_cmp_total}
use Rattle.std.proofs.lemmas.List.Sorted.{ranks_by, sorted_far}
use Rattle.std.specs.List.Sorted.{IsSortedBy}
use Rattle.wb_outer.specs.declared.keeper.Row.{Row}
use Rattle.wb_outer.specs.declared.keeper.RowChange.{RowChange}
use Rattle.wb_outer.specs.declared.keeper.RowChange.TheVariants.{Put, Erase}
use Rattle.wb_outer.specs.Keeper.{is_below, NoneBelow, IsAscending, inserted, changed_by, changed}

-- keys are ordered by their bytes
keys_ordered : IsStrictWeakOrder is_below
keys_ordered = ranks_by nat_list_cmp_total (λ (key : List ℕ). key)

-- ---- order

NoneBelow-filter : (p : Row → Bool) (key : List ℕ) (rows : List Row) → NoneBelow key rows → NoneBelow key (filter p rows)
NoneBelow-filter p key [] below = tt
NoneBelow-filter p key (row ∷ rows) below =
    elim (p row) as (λ b. NoneBelow key (cond b (row ∷ filter p rows) (filter p rows))) [
      | true ↦ (below.0, NoneBelow-filter p key rows below.1)
      | false ↦ NoneBelow-filter p key rows below.1
    ]

IsAscending-filter : (p : Row → Bool) (rows : List Row) → IsAscending rows → IsAscending (filter p rows)
IsAscending-filter p [] up = tt
IsAscending-filter p (row ∷ rows) up =
    elim (p row) as (λ b. IsAscending (cond b (row ∷ filter p rows) (filter p rows))) [
      | true ↦ (NoneBelow-filter p row.key rows up.0, IsAscending-filter p rows up.1)
      | false ↦ IsAscending-filter p rows up.1
    ]

-- what is below none of these is below none that are above another
NoneBelow-lower : (low high : List ℕ) (rows : List Row) → is_below high low ≡ false → NoneBelow high rows → NoneBelow low rows
NoneBelow-lower low high [] order below = tt
NoneBelow-lower low high (row ∷ rows) order below = (keys_ordered.chain row.key high low below.0 order, NoneBelow-lower low high rows order below.1)

NoneBelow-inserted : (key : List ℕ) (row : Row) (rows : List Row) → is_below row.key key ≡ false → NoneBelow key rows → NoneBelow key (inserted row rows)
NoneBelow-inserted key row [] here below = (here, tt)
NoneBelow-inserted key row (other ∷ rows) here below =
    elim (is_below row.key other.key) as (λ b. NoneBelow key (cond b (row ∷ other ∷ rows) (other ∷ inserted row rows))) [
      | true ↦ (here, below)
      | false ↦ (below.0, NoneBelow-inserted key row rows here below.1)
    ]

-- before a row with a greater key, or into those after it
inserted_at : (row other : Row) (rows : List Row) → IsAscending (other ∷ rows) → IsAscending (inserted row rows) → (b : Bool) → is_below row.key other.key ≡ b → IsAscending (cond b (row ∷ other ∷ rows) (other ∷ inserted row rows))
inserted_at row other rows up after true is =
    let order = keys_ordered.one_way row.key other.key is in ((order, NoneBelow-lower row.key other.key rows order up.0), up)
inserted_at row other rows up after false is = (NoneBelow-inserted other.key row rows is up.0, after)

IsAscending-inserted : (row : Row) (rows : List Row) → IsAscending rows → IsAscending (inserted row rows)
IsAscending-inserted row [] up = (tt, tt)
IsAscending-inserted row (other ∷ rows) up = inserted_at row other rows up (IsAscending-inserted row rows up.1) (is_below row.key other.key) refl

IsAscending-changed_by : (change : RowChange) (rows : List Row) → IsAscending rows → IsAscending (changed_by change rows)
IsAscending-changed_by (Put row) rows up = IsAscending-inserted row _ (IsAscending-filter _ rows up)
IsAscending-changed_by (Erase key) rows up = IsAscending-filter _ rows up

pub IsAscending-changed : (changes : List RowChange) (rows : List Row) → IsAscending rows → IsAscending (changed changes rows)
IsAscending-changed [] rows up = up
IsAscending-changed (change ∷ changes) rows up = IsAscending-changed changes (changed_by change rows) (IsAscending-changed_by change rows up)

-- ---- a sort

NoneBelow-each : (key : List ℕ) (rows : List Row) → ((k : ℕ) (d : Row) → k < length rows → is_below (get_or rows k d).key key ≡ false) → NoneBelow key rows
NoneBelow-each key [] each = tt
NoneBelow-each key (row ∷ rows) each = (each 0 row (omega arith), NoneBelow-each key rows (λ k d h. each (suc k) d (omega (arith, h))))

IsAscending-each : (rows : List Row) → ((i j : ℕ) (d : Row) → i ≤ j → j < length rows → is_below (get_or rows j d).key (get_or rows i d).key ≡ false) → IsAscending rows
IsAscending-each [] each = tt
IsAscending-each (row ∷ rows) each =
    (NoneBelow-each row.key rows (λ k d h. each 0 (suc k) d (omega arith) (omega (arith, h))), IsAscending-each rows (λ i j d order h. each (suc i) (suc j) d (omega (arith, order)) (omega (arith, h))))

pub IsAscending-sorted : (rows : List Row) → IsSortedBy (λ (x : Row) (y : Row). is_below x.key y.key) rows → IsAscending rows
IsAscending-sorted rows up = IsAscending-each rows (sorted_far _ (ranks_by nat_list_cmp_total (λ (row : Row). row.key)) rows up)
