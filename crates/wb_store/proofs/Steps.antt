-- One step of a loop over a list: the rest begins with the element at the index.
use Rattle.std.proofs.Common.{◌≡◌, ℕ, ◌+◌, ◌<◌, Bool, ◌&&◌, List, ◌∷◌, ◌++◌, length, get_or, drop, Some, None, refl, sym, ap, ◌∙◌, add-one, drop-cons}
use Rattle.std.proofs.lemmas.Option.{none-some}
use Rattle.std.proofs.lemmas.List.Folds.{find-append}
use Rattle.std.specs.Option.{option_map, option_or}
use Rattle.std.specs.List.{list_all, flat_map, find}

module _ {A : Type 0} (xs : List A) (i : ℕ) (x : A) (within : i < length xs) (read : x ≡ get_or xs i x) where
  pub drop_more : drop i xs ≡ x ∷ drop (i + 1) xs
  drop_more = drop-cons xs i x within ∙ (λ k. sym read k ∷ drop (sym (add-one i) k) xs)

  pub flat_map_more : {B : Type 0} (f : A → List B) → flat_map f (drop i xs) ≡ f x ++ flat_map f (drop (i + 1) xs)
  flat_map_more f = ap (flat_map f) drop_more

  pub list_all_more : (p : A → Bool) → list_all p (drop i xs) ≡ (p x && list_all p (drop (i + 1) xs))
  list_all_more p = ap (list_all p) drop_more

module _ {A B : Type 0} (p : A → Bool) (key : A → B) (xs ys : List A) where
  pub found_first : (b : B) → Some b ≡ option_map key (find p xs) → Some b ≡ option_map key (find p (xs ++ ys))
  found_first b e =
      elim (find p xs) as (λ r. Some b ≡ option_map key r → Some b ≡ option_map key (option_or r (find p ys))) [
        | None ↦ λ e. absurd (none-some b (sym e))
        | Some a ↦ λ e. e
      ] e ∙ ap (option_map key) (sym (find-append p xs ys))

  pub found_later : None ≡ option_map key (find p xs) → find p (xs ++ ys) ≡ find p ys
  found_later e = find-append p xs ys ∙
      elim (find p xs) as (λ r. None ≡ option_map key r → option_or r (find p ys) ≡ find p ys) [
        | None ↦ λ e. refl
        | Some a ↦ λ e. absurd (none-some (key a) e)
      ] e
