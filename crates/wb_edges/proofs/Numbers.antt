-- A checked viewpoint has as many mappings as its text, and they are few.
use Rattle.std.proofs.Common.{◌≡◌, ◌≤◌, ◌<◌, ℕ, suc, true, List, [], ◌∷◌, length, take, get_or, Some, refl, sym, ap, ◌∙◌, arith}
use Rattle.std.proofs.lemmas.Bool.{and_parts, leb-true}
use Rattle.std.proofs.lemmas.List.{take_all}
use Rattle.std.proofs.lemmas.List.FromFn.{length-range_with_len}
use Rattle.std.proofs.lemmas.Option.{slice_get-get_or}
use Rattle.wb_base.proofs.ListLemmas.{number-at}
use Rattle.wb_base.specs.Lists.{numbers}
use Rattle.wb_metamodel.specs.Metamodel.{Metamodel}
use Rattle.wb_viewpoint.specs.Limits.{is_small}
use Rattle.wb_viewpoint.specs.declared.content.Content.{Content}
use Rattle.wb_spec_check.specs.Checked.{IsGood, Specification, checked}
use Rattle.wb_spec_check.specs.Validated.{Validated, each_from}
use Rattle.wb_spec_check.specs.declared.parts.Parts.{Parts}
use Rattle.wb_answers.proofs.Yields.{Yields, any, yields_both, yields_good}

as_many : {A B : Type 0} (check : ℕ → A → Validated B) (i : ℕ) (xs : List A) → Yields (λ (ys : List B). length ys ≡ length xs) (each_from check i xs)
as_many check i [] = yields_good [] refl
as_many check i (x ∷ xs) = yields_both (yields_both (yields_good (λ y ys. y ∷ ys) (λ y _ ys same. ap suc same)) any) (as_many check (suc i) xs)

as_many_mappings : (mm : Metamodel) (content : Content) → Yields (λ (parts : Parts). length parts.mappings ≡ length content.mappings) (checked mm content)
unfolding checked
as_many_mappings mm content =
    yields_both (yields_both (yields_both (yields_both (yields_both (yields_both
    (yields_good _ (λ domain _ layers _ top _ mappings same filters _ tools _. same))
    any) any) any)
    (as_many _ 0 content.mappings))
    any)
    any

pub few_mappings : (spec : Specification) → IsGood spec → is_small spec.0 ≡ true → length spec.1.mappings ≤ 256
unfolding is_small
few_mappings spec good small =
    let same = (as_many_mappings good.0 spec.0).value spec.1 good.1 in
    let few = leb-true (length spec.0.mappings) 256 (and_parts _ _ (and_parts _ _ (and_parts _ _ (and_parts _ _ (and_parts _ _ small).0).0).0).0).0 in
    omega (arith, same, few)

-- ---- the numbers of mappings

pub number_within : (n i : ℕ) → i < n → i < length (numbers n)
number_within n i within = let many = length-range_with_len 0 n in omega (arith, many, within)

-- each number stands at its own place
pub number_is : (n i : ℕ) → i < n → i ≡ get_or (numbers n) i 0
number_is n i within =
    let same : Some i ≡ Some (get_or (numbers n) i 0) = sym (number-at n i within) ∙ slice_get-get_or (numbers n) i 0 (number_within n i within) in
    cc

pub all_numbers : (n i : ℕ) → n ≤ i → take i (numbers n) ≡ numbers n
all_numbers n i past = let many = length-range_with_len 0 n in take_all i (numbers n) (omega (arith, many, past))
