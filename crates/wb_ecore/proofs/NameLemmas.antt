-- What a map from names holds after an insert, at each name.
use Rattle.std.proofs.Common.{◌≡◌, ℕ, Bool, true, false, cond, List, Option, Some, None, Ordering, refl, sym, ap, ◌∙◌, subst, ⊎_elim}
use Rattle.std.specs.Ordering.{is_eq, nat_cmp, eq_by_cmp}
use Rattle.std.specs.Cmp.{eq_by_cmp_equiv}
use Rattle.std.specs.Cmp.Lexicographic.{slice_cmp, bytes_decides, nat_list_cmp_total, nat_list_eq_equiv}
use Rattle.std.specs.Str.{bytes_eq}
use Rattle.std.specs.Map.{lookup, KeepsOthers}
use Rattle.std.specs.Option.{option_or}
use Rattle.std.proofs.lemmas.Map.Text.{is_eq-slice_cmp}
use Rattle.std.proofs.lemmas.Bool.{cases_Bool, cond-true, cond-false}

apart : (bs cs ks : List ℕ) → bytes_eq bs cs ≡ false → is_eq (slice_cmp nat_cmp bs ks) ≡ true → is_eq (slice_cmp nat_cmp cs ks) ≡ false
apart bs cs ks n y =
    is_eq-slice_cmp cs ks ∙ nat_list_eq_equiv.symm cs ks ∙ sym (nat_list_eq_equiv.congr bs ks cs (sym (is_eq-slice_cmp bs ks) ∙ y)) ∙ n

module _ {K : Type 0} (bytes : K → List ℕ) where
  abbrev pub by_bytes : K → K → Ordering
  by_bytes x y = slice_cmp nat_cmp (bytes x) (bytes y)

  abbrev pub finds : List ℕ → K → Bool
  finds name key = is_eq (slice_cmp nat_cmp name (bytes key))

  others : (key : K) (old new : List (K × ℕ)) → KeepsOthers (eq_by_cmp by_bytes) (λ k. is_eq (by_bytes key k)) old new → (other : List ℕ) → bytes_eq (bytes key) other ≡ false
      → lookup (finds other) new ≡ lookup (finds other) old
  unfolding KeepsOthers
  others key old new h other n = h (finds other) (λ x y. (eq_by_cmp_equiv nat_list_cmp_total).congr other (bytes x) (bytes y)) (λ k. apart (bytes key) other (bytes k) n)

  -- a name that had no number has one now, and the others are as before
  pub inserted : (key : K) (name : List ℕ) (number : ℕ) (old new : List (K × ℕ)) → bytes key ≡ name
      → KeepsOthers (eq_by_cmp by_bytes) (λ k. is_eq (by_bytes key k)) old new → lookup (λ k. is_eq (by_bytes key k)) new ≡ Some number → lookup (finds name) old ≡ None
      → (other : List ℕ) → lookup (finds other) new ≡ option_or (lookup (finds other) old) (cond (bytes_eq name other) (Some number) None)
  inserted key name number old new e keeps here absent other =
      ⊎_elim
      (λ y.
      let same : name ≡ other = (bytes_decides name other).0 y in
      subst (λ o. lookup (finds o) new ≡ option_or (lookup (finds o) old) (cond (bytes_eq name other) (Some number) None)) same
      (subst (λ k. lookup (finds k) new ≡ Some number) e here ∙ sym (ap (λ o. option_or o (cond (bytes_eq name other) (Some number) None)) absent ∙ cond-true (bytes_eq name other) (Some number) None y)))
      (λ n.
      others key old new keeps other (ap (λ b. bytes_eq b other) e ∙ n)
      ∙ sym (ap (option_or (lookup (finds other) old)) (cond-false (bytes_eq name other) (Some number) None n) ∙ none_right (lookup (finds other) old)))
      (cases_Bool (bytes_eq name other))
    where
      none_right : (o : Option ℕ) → option_or o None ≡ o
      none_right None = ap (λ o. o) refl
      none_right (Some x) = refl
