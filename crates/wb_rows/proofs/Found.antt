-- The keys and entries of a finite map, by their places.
use Rattle.std.proofs.Common.{◌≡◌, ◌<◌, ℕ, zero, suc, true, false, T, List, [], ◌∷◌, length, get_or, cond, map, Some, None, is_some, sym, ap, subst, ◌∙◌}
use Rattle.std.specs.Prelude.{IsSome, slice_get}
use Rattle.std.proofs.lemmas.List.Folds.{list_any_at}
use Rattle.std.proofs.lemmas.Option.{get_or_from_slice_get, slice_get_within}
use Rattle.std.specs.Cmp.{IsTotalOrder, eq_by_cmp_equiv, nat_cmp_total}
use Rattle.std.specs.declared.cmp.Ordering.{Ordering}
use Rattle.std.specs.declared.cmp.Ordering.TheVariants as c
use Rattle.std.specs.Ordering.{eq_by_cmp, is_eq, is_lt, nat_cmp, ordering_reverse}
use Rattle.std.specs.FinMap.{FinMap, contains_key-keys, entries, entries_sorted, find, get, get-entries, is_sorted, keys}
use Rattle.std.specs.FinMap.Entries.{below_all}
use Rattle.wb_rows.proofs.Orders.{left_of, right_of}

-- each object of a map of classes is live
pub live : (m : FinMap nat_cmp ℕ) (i o : ℕ) → i < length (keys m) → o ≡ get_or (keys m) i o → IsSome (get m o)
live m i o l at =
    contains_key-keys m o ∙ list_any_at (eq_by_cmp nat_cmp o) (keys m) i o l (ap (eq_by_cmp nat_cmp o) (sym at) ∙ (eq_by_cmp_equiv nat_cmp_total).refl o)

behind_not_same : (r s : Ordering) → s ≡ ordering_reverse r → T (is_lt r) → is_eq s ≡ false
behind_not_same c.Less s e h = ap is_eq e
behind_not_same c.Equal s e h = absurd h
behind_not_same c.Greater s e h = absurd h

module _ {K X : Type 0} {R : K → K → Ordering} (o : IsTotalOrder R) where
  below_key : (x : K) (es : List (K × X)) (i : ℕ) (key : K) → T (below_all R x es) → slice_get (map (λ (e : K × X). e.0) es) i ≡ Some key → T (is_lt (R x key))
  below_key x [] i key h at = absurd cc
  below_key x (e ∷ es) zero key h at = let same : e.0 ≡ key = cc in subst (λ k. T (is_lt (R x k))) same (left_of (is_lt (R x e.0)) (below_all R x es) h)
  below_key x (e ∷ es) (suc i) key h at = below_key x es i key (right_of (is_lt (R x e.0)) (below_all R x es) h) at

  entry_of_key : (es : List (K × X)) (i : ℕ) (key : K) (v : X) → T (is_sorted R es) → slice_get (map (λ (e : K × X). e.0) es) i ≡ Some key → find R key es ≡ Some v → slice_get es i ≡ Some (key, v)
  entry_of_key [] i key v s at found = absurd cc
  entry_of_key (e ∷ es) zero key v s at found =
      let same : e.0 ≡ key = cc in
      let first : find R key (e ∷ es) ≡ Some e.1 = ap (λ b. cond b (Some e.1) (find R key es)) (ap (λ k. eq_by_cmp R key k) same ∙ (eq_by_cmp_equiv o).refl key) in
      let value : e.1 ≡ v = cc in
      λ i. Some (same i, value i)
  entry_of_key (e ∷ es) (suc i) key v s at found =
      let behind = behind_not_same (R e.0 key) (R key e.0) (o.antisymm key e.0) (below_key e.0 es i key (left_of (below_all R e.0 es) (is_sorted R es) s) at) in
      entry_of_key es i key v (right_of (below_all R e.0 es) (is_sorted R es) s) at (ap (λ b. cond b (Some e.1) (find R key es)) (sym behind) ∙ found)

  module _ (m : FinMap R X) (i : ℕ) (key : K) (at : slice_get (keys m) i ≡ Some key) where
    entry_at : (v : X) → get m key ≡ Some v → slice_get (entries m) i ≡ Some (key, v)
    entry_at v value = entry_of_key (entries m) i key v (entries_sorted m) at (sym (get-entries m key) ∙ value)

    pub entry_there : (v : X) → get m key ≡ Some v → i < length (entries m)
    entry_there v value = slice_get_within (entries m) i (key, v) (entry_at v value)

    pub entry_is : (v : X) → get m key ≡ Some v → (key, v) ≡ get_or (entries m) i (key, v)
    entry_is v value = sym (get_or_from_slice_get (entries m) i (key, v) (key, v) (entry_at v value))

    pub has_value : get m key ≡ None → ⊥
    has_value none =
        let there : is_some (get m key) ≡ true = contains_key-keys m key ∙ list_any_at (eq_by_cmp R key) (keys m) i key (slice_get_within (keys m) i key at)
        (ap (eq_by_cmp R key) (get_or_from_slice_get (keys m) i key key at) ∙ (eq_by_cmp_equiv o).refl key) in
        let absent : is_some (get m key) ≡ false = ap is_some none in
        cc
