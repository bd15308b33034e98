use Rattle.wb_aql_grammar.proofs.Steps.{step_lambda, no_lambda_left}
use Rattle.wb_aql_grammar.specs.invariants.Runs as run
use Rattle.wb_aql_grammar.proofs.reading.enter_lambda.Goals as goal

pub returns-in-Some-bound-clause-entered : goal.returns-in-Some-bound-clause-entered
returns-in-Some-bound-clause-entered c = step_lambda _ _ _ _ _ _ _ c.in-Some.ensures c.in-Some-bound.ensures.0 c.in-Some-bound.ensures.1

pub returns-in-None-bound-clause-entered : goal.returns-in-None-bound-clause-entered
returns-in-None-bound-clause-entered c = no_lambda_left _ _ _ _ _ c.in-Some.ensures c.in-None-bound.ensures

pub returns-in-None-clause-entered : goal.returns-in-None-clause-entered
returns-in-None-clause-entered c = λ i r. run.runs_no_opening c.in-None.ensures
