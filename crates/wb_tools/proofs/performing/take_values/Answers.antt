use Rattle.std.proofs.Common.{List, subst, sym, ◌∙◌}
use Rattle.wb_store.specs.declared.scalars.Scalar.{Scalar}
use Rattle.wb_aql_values.specs.Values.{members}
use Rattle.wb_aql_values.specs.declared.values.Value.{Value}
use Rattle.wb_tools.specs.Doings.{asked}
use Rattle.wb_tools.specs.FeatureEdits.{take_all}
use Rattle.wb_tools.specs.Runs.{Ended, IsStop, named, run, work, Went}
use Rattle.wb_tools.proofs.RunLemmas.{run_asked, stopped_first, went_next}
use Rattle.wb_tools.proofs.performing.take_values.Goals as goal

pub returns-in_err-value-clause-done : goal.returns-in_err-value-clause-done
returns-in_err-value-clause-done g c =
    stopped_first g.E.Evaluator.outcome_by (asked c.args.place c.args.e.now c.args.env.now) (λ v. take_all c.args.place c.args.context c.args.feature.now (members v)) (work c.args.model.now c.args.tally.now) c.from_residual.result c.in_err-value.field-0.0 c.args.model.now c.evaluate.new.tally c.from_residual.ensures.1
    (subst (λ (ended : Ended Value). IsStop (named c.in_err-value.field-0.0) ended c.evaluate.new.tally) (sym (run_asked g.E.Evaluator.outcome_by c.args.place c.args.e.now c.args.env.now (work c.args.model.now c.args.tally.now))) c.in_err-value.ensures.done)

pub returns-clause-done : goal.returns-clause-done
returns-clause-done g c =
    went_next g.E.Evaluator.outcome_by (λ v. take_all c.args.place c.args.context c.args.feature.now (members v)) (asked c.args.place c.args.e.now c.args.env.now) (work c.args.model.now c.args.tally.now) c.in_ok-value.value (work c.args.model.now c.evaluate.new.tally) c.take_all.result c.take_all.new.model c.take_all.new.tally ((run_asked g.E.Evaluator.outcome_by c.args.place c.args.e.now c.args.env.now (work c.args.model.now c.args.tally.now)) ∙ c.in_ok-value.ensures.done)
    (subst (λ (xs : List Scalar). Went (run g.E.Evaluator.outcome_by (take_all c.args.place c.args.context c.args.feature.now xs) (work c.args.model.now c.evaluate.new.tally)) c.take_all.result c.take_all.new.model c.take_all.new.tally) c.members.ensures (c.take_all.ensures.done g.E.Evaluator.outcome_by))
