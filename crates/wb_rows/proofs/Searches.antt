-- What a search among ascending rows finds.
use Rattle.std.proofs.Common.{◌≡◌, ◌<◌, ℕ, zero, suc, false, List, [], ◌∷◌, length, get_or, cond, Some, None, Ok, Err, refl, ap, subst, ◌∙◌, inl, inr, add-one, arith}
use Rattle.std.proofs.lemmas.Bool.{cases_lt}
use Rattle.std.specs.declared.cmp.Ordering.{Ordering}
use Rattle.std.specs.declared.cmp.Ordering.TheVariants as c
use Rattle.std.specs.Ordering.{ordering_index, ordering_reverse, is_eq, is_lt, eq_by_cmp}
use Rattle.std.specs.List.Sorted.{IsBinarySearchResult, IsNonDecreasingBy, IsSortedBy}
use Rattle.std.proofs.lemmas.List.Sorted.{searchable_from_sorted}
use Rattle.wb_outer.specs.declared.keeper.Row.{Row}
use Rattle.wb_rows.specs.Texts.{Ascend, key_cmp, text_at}
use Rattle.wb_rows.proofs.Orders.{above, below_at, first_below, key_total, one_key, rest_ascend, same_itself}

not_below : (rows : List Row) (k : ℕ) (d : Row) → Ascend rows → suc k < length rows → is_lt (key_cmp (get_or rows (suc k) d).key (get_or rows k d).key) ≡ false
not_below [] k d up l = absurd (omega arith)
not_below (r ∷ rows) zero d up l = (above r.key (get_or rows 0 d).key (below_at r.key rows 0 d (first_below r rows up) (omega arith))).1
not_below (r ∷ rows) (suc k) d up l = not_below rows k d (rest_ascend r rows up) (omega arith)

sorted : (rows : List Row) → Ascend rows → IsSortedBy (λ (x : Row) (y : Row). is_lt (key_cmp x.key y.key)) rows
sorted rows up k d low high = rw add-one (not_below rows k d up (omega arith))

searchable : (key : List ℕ) (rows : List Row) → Ascend rows → IsNonDecreasingBy (λ (r : Row). ordering_index (key_cmp r.key key)) rows
searchable key rows up = searchable_from_sorted key_total (λ (r : Row). r.key) rows key (sorted rows up)

-- a key that stands somewhere has the text there
found_at : (rows : List Row) (i : ℕ) (d : Row) → Ascend rows → i < length rows → text_at rows (get_or rows i d).key ≡ Some (get_or rows i d).text
found_at [] i d up l = absurd (omega arith)
found_at (r ∷ rows) zero d up l = ap (λ b. cond b (Some r.text) (text_at rows r.key)) (same_itself r.key)
found_at (r ∷ rows) (suc i) d up l =
    ap (λ b. cond b (Some r.text) (text_at rows (get_or rows i d).key)) ((above r.key (get_or rows i d).key (below_at r.key rows i d (first_below r rows up) (omega arith))).0)
    ∙ found_at rows i d (rest_ascend r rows up) (omega arith)

-- a key that stands nowhere has none
nowhere : (key : List ℕ) (rows : List Row) → ((j : ℕ) (d : Row) → j < length rows → eq_by_cmp key_cmp key (get_or rows j d).key ≡ false) → text_at rows key ≡ None
nowhere key [] none = refl
nowhere key (r ∷ rows) none =
    ap (λ b. cond b (Some r.text) (text_at rows key)) (none 0 r (omega arith))
    ∙ nowhere key rows (λ j d l. none (suc j) d (omega arith))

other_than : (r s : Ordering) → s ≡ ordering_reverse r → r ≡ c.Less → is_eq s ≡ false
other_than r s e l = ap is_eq (e ∙ ap ordering_reverse l)

other_too : (r s : Ordering) → s ≡ ordering_reverse r → r ≡ c.Greater → is_eq s ≡ false
other_too r s e l = ap is_eq (e ∙ ap ordering_reverse l)

module _ (key : List ℕ) (rows : List Row) (up : Ascend rows) where
  pub found : (i : ℕ) (d : Row) → IsBinarySearchResult (λ (r : Row). key_cmp r.key key) rows (Ok i) → i < length rows → text_at rows key ≡ Some (get_or rows i d).text
  found i d at l =
      subst (λ k. text_at rows k ≡ Some (get_or rows i d).text) (one_key (get_or rows i d).key key (at d)) (found_at rows i d up l)

  pub missed : (i : ℕ) → IsBinarySearchResult (λ (r : Row). key_cmp r.key key) rows (Err i) → text_at rows key ≡ None
  missed i at =
      let parts = at (searchable key rows up) in
      nowhere key rows (λ j d l. elim (cases_lt j i) as (λ _. eq_by_cmp key_cmp key (get_or rows j d).key ≡ false) [
        | inl low ↦ other_than (key_cmp (get_or rows j d).key key) (key_cmp key (get_or rows j d).key) (key_total.antisymm key (get_or rows j d).key) (parts.0 j d (omega arith) low)
        | inr high ↦ other_too (key_cmp (get_or rows j d).key key) (key_cmp key (get_or rows j d).key) (key_total.antisymm key (get_or rows j d).key) (parts.1 j d high l)
      ])
