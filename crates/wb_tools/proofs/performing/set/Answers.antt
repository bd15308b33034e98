use Rattle.std.proofs.Common.{List, subst}
use Rattle.wb_store.specs.declared.scalars.Scalar.{Scalar}
use Rattle.wb_aql_values.specs.Values.{members}
use Rattle.wb_tools.specs.FeatureEdits.{set_all}
use Rattle.wb_tools.specs.Operations.{asked_at, set}
use Rattle.wb_tools.specs.Runs.{run, work, Went}
use Rattle.wb_tools.proofs.RunLemmas.{stopped_first, went_next}
use Rattle.wb_tools.proofs.performing.set.Goals as goal

pub returns-in_err-value-clause-done : goal.returns-in_err-value-clause-done
unfolding set
returns-in_err-value-clause-done g c =
    stopped_first g.E.Evaluator.outcome_by (asked_at c.args.spec.now c.args.tool c.args.place c.args.env.now) (λ v. set_all c.args.place c.args.context c.args.feature.now (members v)) (work c.args.model.now c.args.tally.now) c.from_residual.result c.in_err-value.field-0.0 c.args.model.now c.asked_at.new.tally c.from_residual.ensures.1 c.in_err-value.ensures.done

pub returns-clause-done : goal.returns-clause-done
unfolding set
returns-clause-done g c =
    went_next g.E.Evaluator.outcome_by (λ v. set_all c.args.place c.args.context c.args.feature.now (members v)) (asked_at c.args.spec.now c.args.tool c.args.place c.args.env.now) (work c.args.model.now c.args.tally.now) c.in_ok-value.value (work c.args.model.now c.asked_at.new.tally) c.set_all.result c.set_all.new.model c.set_all.new.tally c.in_ok-value.ensures.done
    (subst (λ (xs : List Scalar). Went (run g.E.Evaluator.outcome_by (set_all c.args.place c.args.context c.args.feature.now xs) (work c.args.model.now c.asked_at.new.tally)) c.set_all.result c.set_all.new.model c.set_all.new.tally) c.members.ensures (c.set_all.ensures.done g.E.Evaluator.outcome_by))
