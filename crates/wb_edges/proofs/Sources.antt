-- The objects of elements, by one element more.
use Rattle.std.proofs.Common.{◌≡◌, ◌+◌, ◌<◌, ℕ, Bool, true, false, cond, nat_eq, List, [], ◌∷◌, ◌++◌, length, map, filter, take, get_or, sym, ap, ◌∙◌, append-nil, if◌then◌else◌}
use Rattle.std.proofs.lemmas.List.{map-append}
use Rattle.std.proofs.lemmas.List.Elements.{filter_more}
use Rattle.indexmap.specs.IndexSet.{insert_key}
use Rattle.wb_base.specs.Lists.{first_places}
use Rattle.wb_diagram.specs.declared.keys.Key.{Key}
use Rattle.wb_answers.proofs.FirstPlaces.{first_places-insert}

module _ (p : Key → Bool) (object : Key → ℕ) (nodes : List Key) (i : ℕ) (key : Key) (within : i < length nodes) (at : key ≡ get_or nodes i key) where
  abbrev objects : ℕ → List ℕ
  objects j = first_places (map object (filter p (take j nodes)))

  objects_more : (b : Bool) → p key ≡ b → objects (i + 1) ≡ (if b then insert_key nat_eq (objects i) (object key) else objects i)
  objects_more b is =
      ap (λ ks. first_places (map object ks)) (filter_more p nodes i key within ∙ ap (λ k. filter p (take i nodes) ++ cond (p k) (k ∷ []) []) (sym at) ∙ ap (λ c. filter p (take i nodes) ++ cond c (key ∷ []) []) is)
      ∙ by b
    where
      by : (b : Bool) → first_places (map object (filter p (take i nodes) ++ cond b (key ∷ []) [])) ≡ (if b then insert_key nat_eq (objects i) (object key) else objects i)
      by true = ap first_places (map-append object (filter p (take i nodes)) (key ∷ [])) ∙ first_places-insert (map object (filter p (take i nodes))) (object key)
      by false = ap (λ ks. first_places (map object ks)) (append-nil (filter p (take i nodes)))

  pub objects_taken : p key ≡ true → objects (i + 1) ≡ insert_key nat_eq (objects i) (object key)
  objects_taken is = objects_more true is

  pub objects_passed : p key ≡ false → objects (i + 1) ≡ objects i
  objects_passed is = objects_more false is
