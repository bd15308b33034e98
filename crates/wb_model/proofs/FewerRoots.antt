-- Lists of numbers of which some are left out.
use Rattle.std.proofs.Common.{◌≡◌, ℕ, Bool, true, false, not, List, [], ◌∷◌, refl, sym, ◌∙◌, cond}
use Rattle.std.proofs.lemmas.Bool.{and_parts, and_from, false≢true, not-true, not_from_false}
use Rattle.std.specs.Prelude.{filter}
use Rattle.wb_store.specs.Places.{once}
use Rattle.wb_store.specs.Relinking.{is_among}
use Rattle.wb_store.proofs.Filtered.{filter-In, In-filter}
use Rattle.wb_validity.proofs.LinkLemmas.{to_false}
use Rattle.wb_model.proofs.TreesWithin.{among-In, In-among}

module _ (p : ℕ → Bool) where
  pub among-filter : (os : List ℕ) (o : ℕ) → is_among (filter p os) o ≡ true → (is_among os o ≡ true) × (p o ≡ true)
  among-filter os o h = let r = filter-In p os o (among-In (filter p os) o h) in (In-among os o r.0, r.1)

  pub filter-among : (os : List ℕ) (o : ℕ) → is_among os o ≡ true → p o ≡ true → is_among (filter p os) o ≡ true
  filter-among os o h e = In-among (filter p os) o (In-filter p os o (among-In os o h) e)

  pub once-filter : (os : List ℕ) → once os ≡ true → once (filter p os) ≡ true
  once-filter [] h = refl
  once-filter (o ∷ os) h =
      let both = and_parts (not (is_among os o)) (once os) h in
      let later = once-filter os both.1 in
      let first : is_among (filter p os) o ≡ false = to_false _ (λ t. false≢true (sym (not-true _ both.0) ∙ (among-filter os o t).0)) in
      elim (p o) as (λ b. once (cond b (o ∷ filter p os) (filter p os)) ≡ true) [
        | true ↦ and_from _ _ (not_from_false _ first) later
        | false ↦ later
      ]
