-- The entries of a finite map, and what it has at their keys.
use Rattle.std.proofs.Common.{◌≡◌, ℕ, Bool, true, false, List, [], ◌∷◌, map, Some, refl, sym, ap, ◌∙◌, subst, T, Ordering, ◌⊎◌, inl, inr, eqb, arith, ◌||◌}
use Rattle.std.proofs.lemmas.Bool.{and_parts, and_from, not_from_false, false≢true}
use Rattle.std.proofs.lemmas.Bool.Decides.{nat_tests}
use Rattle.std.specs.List.{list_any}
use Rattle.wb_store.specs.Places.{once}
use Rattle.std.proofs.lemmas.Cmp.{tied_itself}
use Rattle.std.specs.Cmp.{IsTotalOrder}
use Rattle.std.specs.Ordering.{is_lt, nat_cmp}
use Rattle.std.specs.FinMap.{FinMap, is_sorted, IsAntisymmetric, entries, entries_sorted, get, get-entries, from_entries, get-from_entries, same_map}
use Rattle.std.specs.FinMap.Entries.{below_all}
use Rattle.wb_store.proofs.Members.{In, IsFunctional, find-In, In-find}
use Rattle.wb_store.proofs.Members.In.{here, there}

of-T : (b : Bool) → T b → b ≡ true
of-T true h = refl
of-T false h = absurd h

pub not_below_itself : {K : Type 0} {R : K → K → Ordering} → IsTotalOrder R → (k : K) → is_lt (R k k) ≡ true → ⊥
not_below_itself total k h = false≢true (sym (ap is_lt (tied_itself total k)) ∙ h)

module _ {K X : Type 0} {R : K → K → Ordering} (total : IsTotalOrder R) (same : IsAntisymmetric R) where
  below-In : (k : K) (es : List (K × X)) (e : K × X) → below_all R k es ≡ true → In e es → is_lt (R k e.0) ≡ true
  below-In k [] e h i = elim i [ ]
  below-In k (z ∷ es) e h here = (and_parts _ _ h).0
  below-In k (f ∷ es) e h (there i) = below-In k es e (and_parts _ _ h).1 i

  first_value : (e : K × X) (es : List (K × X)) (k : K) (v : X) → below_all R e.0 es ≡ true → In (k, v) (e ∷ es) → (((k, v) ≡ e) ⊎ (In (k, v) es × (is_lt (R e.0 k) ≡ true)))
  first_value e es k v h i = at e es (k, v) h i
    where
      at : (e : K × X) (es : List (K × X)) (x : K × X) → below_all R e.0 es ≡ true → In x (e ∷ es) → (x ≡ e) ⊎ (In x es × (is_lt (R e.0 x.0) ≡ true))
      at e es x h here = inl refl
      at e es x h (there j) = inr (j, below-In e.0 es x h j)

  sorted-functional : (es : List (K × X)) → is_sorted R es ≡ true → IsFunctional es
  sorted-functional [] h k v w i j = elim i [ ]
  sorted-functional (e ∷ es) h k v w i j =
      let below = (and_parts _ _ h).0 in
      elim (first_value e es k v below i) [
        | inl a ↦ elim (first_value e es k w below j) [
          | inl b ↦ ap (λ (x : K × X). x.1) (a ∙ sym b)
          | inr b ↦ absurd (not_below_itself total e.0 (subst (λ q. is_lt (R e.0 q) ≡ true) (ap (λ (x : K × X). x.0) a) b.1))
        ]
        | inr a ↦ elim (first_value e es k w below j) [
          | inl b ↦ absurd (not_below_itself total e.0 (subst (λ q. is_lt (R e.0 q) ≡ true) (ap (λ (x : K × X). x.0) b) a.1))
          | inr b ↦ sorted-functional es (and_parts _ _ h).1 k v w a.0 b.0
        ]
      ]

  module _ (m : FinMap R X) where
    pub entries-functional : IsFunctional (entries m)
    entries-functional = sorted-functional (entries m) (of-T _ (entries_sorted m))

    pub entry-get : (k : K) (v : X) → In (k, v) (entries m) → get m k ≡ Some v
    entry-get k v i = get-entries m k ∙ In-find total same (entries m) k v entries-functional i

    pub get-entry : (k : K) (v : X) → get m k ≡ Some v → In (k, v) (entries m)
    get-entry k v e = find-In total same (entries m) k v (sym (get-entries m k) ∙ e)

    pub from_entries-entries : from_entries (entries m) ≡ m
    from_entries-entries = same_map total same (from_entries (entries m)) m (λ q. get-from_entries total (entries m) q ∙ sym (get-entries m q))

-- ---- numbers as keys

above : (k n : ℕ) → is_lt (nat_cmp k n) ≡ true → eqb n k ≡ false
above k n h = grind (arith, nat_tests)

neither : (a b : Bool) → a ≡ false → b ≡ false → (a || b) ≡ false
neither a b h l = λ i. h i || l i

module _ {X : Type 0} where
  later-apart : (k : ℕ) (es : List (ℕ × X)) → below_all nat_cmp k es ≡ true → list_any (λ other. eqb other k) (map (λ (e : ℕ × X). e.0) es) ≡ false
  later-apart k [] h = refl
  later-apart k (e ∷ es) h = neither _ _ (above k e.0 (and_parts _ _ h).0) (later-apart k es (and_parts _ _ h).1)

  sorted-once : (es : List (ℕ × X)) → is_sorted nat_cmp es ≡ true → once (map (λ (e : ℕ × X). e.0) es) ≡ true
  sorted-once [] h = refl
  sorted-once (e ∷ es) h = and_from _ _ (not_from_false _ (later-apart e.0 es (and_parts _ _ h).0)) (sorted-once es (and_parts _ _ h).1)

  pub entries-once : (m : FinMap nat_cmp X) → once (map (λ (e : ℕ × X). e.0) (entries m)) ≡ true
  entries-once m = sorted-once (entries m) (of-T _ (entries_sorted m))
