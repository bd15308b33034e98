-- Values that differ from each other, and from those seen before.
use Rattle.std.proofs.Common.{◌≡◌, ℕ, ◌+◌, ◌<◌, Bool, true, false, not, ◌&&◌, ◌||◌, List, [], ◌∷◌, ◌++◌, drop, length, get_or, refl, sym, ap, ◌∙◌, cond}
use Rattle.std.proofs.lemmas.Bool.{not-true}
use Rattle.std.proofs.lemmas.List.Folds.{list_any-append}
use Rattle.std.specs.List.{list_any, list_all}
use Rattle.wb_store.specs.declared.scalars.Scalar.{Scalar}
use Rattle.wb_store.specs.Scalars.{same}
use Rattle.wb_store.proofs.Steps.{drop_more}
use Rattle.wb_validity.specs.Valid.{differ}

new_and_apart : (a b c : Bool) → (not (a || (b || false)) && c) ≡ (not a && (not b && c))
new_and_apart true b c = refl
new_and_apart false true c = refl
new_and_apart false false c = refl

exchanged : (a b c d : Bool) → ((a && (b && (c && d))) ≡ ((a && c) && (b && d)))
exchanged true true c d = refl
exchanged true false true d = refl
exchanged true false false d = refl
exchanged false b c d = refl

not_any : (a b : Bool) → not (a || b) ≡ (not a && not b)
not_any true b = refl
not_any false b = refl

both : (a b c : Bool) → ((a && b) && c) ≡ (a && (b && c))
both true b c = refl
both false b c = refl

module _ {K : Type 0} (value : K → Scalar) where
  abbrev pub is_seen : List K → Scalar → Bool
  is_seen seen v = list_any (λ k. same v (value k)) seen

  -- do values differ from each other, and from those seen?
  abbrev pub differ_from : List K → List Scalar → Bool
  differ_from seen values = list_all (λ v. not (is_seen seen v)) values && differ values

  none_seen : (values : List Scalar) → list_all (λ v. not (is_seen [] v)) values ≡ true
  none_seen [] = refl
  none_seen (v ∷ values) = none_seen values

  pub differ_from_none : (values : List Scalar) → differ_from [] values ≡ differ values
  differ_from_none values = ap (λ b. b && differ values) (none_seen values)

  one_more : (seen : List K) (k : K) (values : List Scalar)
      → list_all (λ v. not (is_seen (seen ++ k ∷ []) v)) values ≡ (list_all (λ v. not (is_seen seen v)) values && not (list_any (λ v. same v (value k)) values))
  one_more seen k [] = refl
  one_more seen k (v ∷ values) =
      ap (λ b. not b && list_all (λ v. not (is_seen (seen ++ k ∷ []) v)) values) (list_any-append (λ k. same v (value k)) seen (k ∷ []))
      ∙ new_and_apart (is_seen seen v) (same v (value k)) _
      ∙ ap (λ b. not (is_seen seen v) && (not (same v (value k)) && b)) (one_more seen k values)
      ∙ exchanged (not (is_seen seen v)) (not (same v (value k))) _ _
      ∙ ap (λ b. (not (is_seen seen v) && list_all (λ v. not (is_seen seen v)) values) && b) (sym (not_any (same v (value k)) _))

  seen_next : (seen : List K) (k : K) (values : List Scalar) → is_seen seen (value k) ≡ false → differ_from (seen ++ k ∷ []) values ≡ differ_from seen (value k ∷ values)
  seen_next seen k values new =
      ap (λ b. b && differ values) (one_more seen k values)
      ∙ both (list_all (λ v. not (is_seen seen v)) values) _ _
      ∙ ap (λ b. (not b && list_all (λ v. not (is_seen seen v)) values) && differ (value k ∷ values)) (sym new)

  module _ (seen keys : List K) (k : K) (is_new : Bool) (values : List Scalar) (i : ℕ)
      (after : keys ≡ cond (is_seen seen (value k)) seen (seen ++ k ∷ [])) (tells : is_new ≡ not (is_seen seen (value k)))
      (within : i < length values) (read : value k ≡ get_or values i (value k)) (so_far : differ_from seen (drop i values) ≡ differ values) where
    rest : drop i values ≡ value k ∷ drop (i + 1) values
    rest = drop_more values i (value k) within read

    seen_if : is_new ≡ true → is_seen seen (value k) ≡ false
    seen_if new = not-true _ (sym tells ∙ new)

    pub differ_later : is_new ≡ true → differ_from keys (drop (i + 1) values) ≡ differ values
    differ_later new =
        ap (λ keys. differ_from keys (drop (i + 1) values)) (after ∙ ap (λ b. cond b seen (seen ++ k ∷ [])) (seen_if new))
        ∙ seen_next seen k (drop (i + 1) values) (seen_if new)
        ∙ ap (differ_from seen) (sym rest)
        ∙ so_far

    pub seen_again : is_new ≡ false → false ≡ differ values
    seen_again old =
        ap (λ b. (b && list_all (λ v. not (is_seen seen v)) (drop (i + 1) values)) && differ (value k ∷ drop (i + 1) values)) (sym old ∙ tells)
        ∙ ap (differ_from seen) (sym rest)
        ∙ so_far
