use Rattle.std.proofs.Common.{◌≡◌, ◌∙◌, ◌++◌, ap, sym, subst, take, arith}
use Rattle.std.specs.Prelude.{IfOk}
use Rattle.std.specs.List.{filter_map}
use Rattle.std.specs.Option.{option_to_list}
use Rattle.std.proofs.lemmas.Grind.{common_steps}
use Rattle.std.proofs.lemmas.List.Elements.{All-get_or}
use Rattle.wb_diagram.specs.declared.units.Unit.{Unit as Place}
use Rattle.wb_aql_values.specs.Bounds.{IsBounded}
use Rattle.wb_aql_values.specs.Runs.{answered}
use Rattle.wb_aql_eval.specs.declared.env.Outcome.{Outcome}
use Rattle.wb_answers.specs.declared.rows.Row.{Row}
use Rattle.wb_refresh.specs.Faults.{problem_of}
use Rattle.wb_refresh.specs.Tables.{row_with}
use Rattle.wb_refresh.proofs.Lists.{all_of_map, filter_map-map, filter_map_next}
use Rattle.wb_refresh.proofs.faults.problems.Goals as goal

pub put_problem-requires : goal.put_problem-requires
put_problem-requires c =
    let mm = c.args.metamodel.now in
    let P : Place × Outcome → Type 0 = λ p. IfOk (answered p.1.answer) (IsBounded mm) in
    let all = all_of_map (λ (r : Row). IfOk (answered r.outcome.answer) (IsBounded mm)) row_with c.args.outcomes.now c.requires in
    subst P (sym c.row-item.is) (All-get_or P c.args.outcomes.now c.loop-row.row-index c.row-item.result c.loop-row-test.true all)

pub loop-row-preserved : goal.loop-row-preserved
loop-row-preserved c =
    let f = λ (p : Place × Outcome). problem_of c.args.metamodel.now (row_with p) in
    c.in_ok-put_problem.ensures ∙ (ap (λ xs. xs ++ option_to_list (f c.row-item.result)) c.loop-row.invariant
    ∙ filter_map_next f c.args.outcomes.now c.loop-row.row-index c.row-item.result c.row-item.result c.loop-row-test.true c.row-item.is)

pub returns : goal.returns
returns c =
    let f = λ (p : Place × Outcome). problem_of c.args.metamodel.now (row_with p) in
    let whole : take c.loop-row.row-index c.args.outcomes.now ≡ c.args.outcomes.now = grind (arith, common_steps) in
    c.from_vec.ensures ∙ (c.loop-row.invariant ∙ (ap (filter_map f) whole ∙ filter_map-map (problem_of c.args.metamodel.now) row_with c.args.outcomes.now))
