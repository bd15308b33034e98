use Rattle.std.proofs.Common.{subst, sym, ◌∙◌}
use Rattle.wb_aql_values.specs.declared.values.Value.{Value}
use Rattle.wb_tools.specs.Doings.{asked, given}
use Rattle.wb_tools.specs.Runs.{Ended, IsStop, named, work}
use Rattle.wb_tools.specs.Tools.{permit}
use Rattle.wb_tools.proofs.RunLemmas.{given_is, run_asked, stopped_first, went_next}
use Rattle.wb_tools.proofs.tools.permission_of.Goals as goal

pub returns-in_err-value-clause-done : goal.returns-in_err-value-clause-done
returns-in_err-value-clause-done g c =
    stopped_first g.E.Evaluator.outcome_by (asked 0 c.args.e.now c.args.env.now) (λ v. given (permit v)) (work c.args.model.now c.args.tally.now) c.from_residual.result c.in_err-value.field-0.0 c.args.model.now c.evaluate.new.tally c.from_residual.ensures.1
    (subst (λ (ended : Ended Value). IsStop (named c.in_err-value.field-0.0) ended c.evaluate.new.tally) (sym (run_asked g.E.Evaluator.outcome_by 0 c.args.e.now c.args.env.now (work c.args.model.now c.args.tally.now))) c.in_err-value.ensures.done)

pub returns-clause-done : goal.returns-clause-done
returns-clause-done g c =
    went_next g.E.Evaluator.outcome_by (λ v. given (permit v)) (asked 0 c.args.e.now c.args.env.now) (work c.args.model.now c.args.tally.now) c.in_ok-value.value (work c.args.model.now c.evaluate.new.tally) c.permit.result c.args.model.now c.evaluate.new.tally ((run_asked g.E.Evaluator.outcome_by 0 c.args.e.now c.args.env.now (work c.args.model.now c.args.tally.now)) ∙ c.in_ok-value.ensures.done)
    (given_is g.E.Evaluator.outcome_by (permit c.in_ok-value.value) c.permit.result (work c.args.model.now c.evaluate.new.tally) c.permit.ensures)
