use Rattle.wb_tools.specs.Doings.{given}
use Rattle.wb_tools.specs.Operations.{asked_at, condition_at, truth_at}
use Rattle.wb_tools.specs.Runs.{work}
use Rattle.wb_tools.proofs.RunLemmas.{given_is, stopped_first, went_next}
use Rattle.wb_tools.proofs.asking.condition_at.Goals as goal

pub returns-in_err-value-clause-done : goal.returns-in_err-value-clause-done
unfolding condition_at
returns-in_err-value-clause-done g c =
    stopped_first g.E.Evaluator.outcome_by (asked_at c.args.spec.now c.args.tool c.args.place c.args.env.now) (λ v. given (truth_at c.args.place v)) (work c.args.model.now c.args.tally.now) c.from_residual.result c.in_err-value.field-0.0 c.args.model.now c.asked_at.new.tally c.from_residual.ensures.1 c.in_err-value.ensures.done

pub returns-clause-done : goal.returns-clause-done
unfolding condition_at
returns-clause-done g c =
    went_next g.E.Evaluator.outcome_by (λ v. given (truth_at c.args.place v)) (asked_at c.args.spec.now c.args.tool c.args.place c.args.env.now) (work c.args.model.now c.args.tally.now) c.in_ok-value.value (work c.args.model.now c.asked_at.new.tally) c.truth_at.result c.args.model.now c.asked_at.new.tally c.in_ok-value.ensures.done
    (given_is g.E.Evaluator.outcome_by (truth_at c.args.place c.in_ok-value.value) c.truth_at.result (work c.args.model.now c.asked_at.new.tally) c.truth_at.ensures)
