-- A viewpoint has few layers, filters and mappings; and a place that was found is within the list.
use Rattle.std.proofs.Common.{◌≡◌, ◌≤◌, ◌<◌, ℕ, zero, suc, Bool, true, List, [], ◌∷◌, length, Option, Some, None, sym, arith}
use Rattle.std.specs.Prelude.{IfSome, position, slice_get}
use Rattle.std.proofs.lemmas.Bool.{and_parts, leb-true}
use Rattle.wb_base.proofs.Positions.{position-Some}
use Rattle.wb_viewpoint.specs.Limits.{is_small}
use Rattle.wb_viewpoint.specs.declared.content.Content.{Content}

module _ (content : Content) (small : is_small content ≡ true) where
  pub few_mappings : length content.mappings ≤ 256
  unfolding is_small
  few_mappings = leb-true _ _ (and_parts _ _ (and_parts _ _ (and_parts _ _ (and_parts _ _ (and_parts _ _ small).0).0).0).0).0

  pub few_layers : length content.layers ≤ 64
  unfolding is_small
  few_layers = leb-true _ _ (and_parts _ _ (and_parts _ _ (and_parts _ _ (and_parts _ _ (and_parts _ _ small).0).0).0).0).1

  pub few_filters : length content.filters ≤ 64
  unfolding is_small
  few_filters = leb-true _ _ (and_parts _ _ (and_parts _ _ (and_parts _ _ (and_parts _ _ small).0).0).0).1

within : {X : Type 0} (xs : List X) (k : ℕ) (x : X) → slice_get xs k ≡ Some x → k < length xs
within [] k x e = absurd cc
within (y ∷ ys) zero x e = omega arith
within (y ∷ ys) (suc k) x e = let h = within ys k x e in omega (arith, h)

-- a place that was found is one of the list
pub found_within : {X : Type 0} (p : X → Bool) (xs : List X) (k : ℕ) → position p xs ≡ Some k → k < length xs
found_within p xs k e = let it = position-Some p xs k e in within xs k it.0 it.1

few_by : {X : Type 0} (p : X → Bool) (xs : List X) (o : Option ℕ) → position p xs ≡ o → length xs ≤ 256 → IfSome o (λ (k : ℕ). k < 256)
few_by p xs None e few = tt
few_by p xs (Some k) e few = let h = found_within p xs k e in omega (arith, h, few)

pub few_found : {X : Type 0} (p : X → Bool) (xs : List X) (o : Option ℕ) → o ≡ position p xs → length xs ≤ 256 → IfSome o (λ (k : ℕ). k < 256)
few_found p xs o e few = few_by p xs o (sym e) few
