-- Rows of a table, by one row more.
use Rattle.std.proofs.Common.{◌≡◌, ◌+◌, ◌-◌, ◌^◌, ℕ, min, List, [], ◌∷◌, ◌++◌, map, Option, Some, None, refl, sym, ap, subst, ◌∙◌, arith, if◌then◌else◌, cond}
use Rattle.std.specs.Prelude.{All, IfOk}
use Rattle.std.specs.List.{list_any, sum_by}
use Rattle.std.specs.Map.{lookup}
use Rattle.std.proofs.lemmas.List.{map-append}
use Rattle.std.proofs.lemmas.List.Elements.{All-pop, All-push}
use Rattle.std.proofs.lemmas.List.Sums.{sum_by-append, sum_by-cons}
use Rattle.wb_metamodel.specs.Metamodel.{Metamodel}
use Rattle.wb_diagram.specs.contracts.units.UnitPartialEq.TheImpl.{eq-value}
use Rattle.wb_diagram.specs.declared.units.Unit.{Unit as Place}
use Rattle.wb_aql_values.specs.Bounds.{IsBounded}
use Rattle.wb_aql_values.specs.Runs.{answered}
use Rattle.wb_aql_eval.specs.declared.env.Outcome.{Outcome}
use Rattle.wb_answers.specs.declared.rows.Row.{Row}
use Rattle.wb_refresh.specs.SameUnits.{same_unit}
use Rattle.wb_refresh.specs.Tables.{AreWithin, Indexes, capped, row_with, units_in}
use Rattle.wb_refresh.specs.Weights.{weight_of}
use Rattle.wb_refresh.proofs.SameUnitLaws.{one_more_outcome}

rows_more : (xs : List (Place × Outcome)) (p : Place × Outcome) → map row_with (xs ++ p ∷ []) ≡ map row_with xs ++ row_with p ∷ []
rows_more xs p = map-append row_with xs (p ∷ [])

-- ---- a row is kept

module _ (xs new : List (Place × Outcome)) (p : Place × Outcome) (is : new ≡ xs ++ p ∷ []) where
  kept_rows : map row_with new ≡ map row_with xs ++ row_with p ∷ []
  kept_rows = ap (map row_with) is ∙ rows_more xs p

  pub within_more : (mm : Metamodel) → AreWithin mm (map row_with xs) → IfOk (answered p.1.answer) (IsBounded mm) → AreWithin mm (map row_with new)
  within_more mm before one =
      let P : Row → Type 0 = λ r. IfOk (answered r.outcome.answer) (IsBounded mm) in
      subst (All P) (sym kept_rows) (All-push P (map row_with xs) (row_with p) before one)

  pub weighed_more : (w a both : ℕ) → w ≡ capped (sum_by weight_of (map row_with xs)) → a ≡ capped (weight_of (row_with p)) → both ≡ min (w + a) (2 ^ 64 - 1) → both ≡ capped (sum_by weight_of (map row_with new))
  weighed_more w a both before one added =
      let sums = ap (sum_by weight_of) kept_rows ∙ sum_by-append weight_of (map row_with xs) (row_with p ∷ []) in
      let alone = sum_by-cons weight_of (row_with p) [] in
      capped_more (sum_by weight_of (map row_with xs)) (weight_of (row_with p)) w a both before one added
      ∙ ap capped (let more : sum_by weight_of (map row_with xs) + weight_of (row_with p) ≡ sum_by weight_of (map row_with new) = omega (arith, sums, alone) in more)
    where
      capped_more : (m n w a both : ℕ) → w ≡ capped m → a ≡ capped n → both ≡ min (w + a) (2 ^ 64 - 1) → both ≡ capped (m + n)
      capped_more m n w a both before one added = omega (arith, before, one, added)

-- ---- a row is found by its unit

pub indexed_more : (yielded : List (Place × Outcome)) (unit : Place) (o : Outcome) (old new : List (Place × Outcome))
    → ((q : Place) → lookup (eq-value.it q) new ≡ cond (eq-value.it unit q) (Some o) (lookup (eq-value.it q) old))
    → Indexes (map row_with yielded) old → Indexes (map row_with (yielded ++ (unit, o) ∷ [])) new
indexed_more yielded unit o old new updated before = λ f all q.
    let P : Row → Type 0 = λ r. r.outcome ≡ f r.unit in
    let parts = All-pop P (map row_with yielded ++ row_with (unit, o) ∷ []) (map row_with yielded) (Some (row_with (unit, o))) refl (subst (All P) (rows_more yielded (unit, o)) all) in
    one_more_outcome f unit q o (units_in (map row_with yielded)) old new parts.1 (before f parts.0 q) (updated q)
    ∙ ap (λ us. if list_any (same_unit q) us then Some (f q) else None) (sym (ap units_in (rows_more yielded (unit, o)) ∙ map-append (λ (r : Row). r.unit) (map row_with yielded) (row_with (unit, o) ∷ [])))

pub none_indexed : Indexes [] []
none_indexed = λ f all q. refl
