use Rattle.wb_aql_grammar.proofs.Steps.{step_sign}
use Rattle.wb_aql_grammar.specs.invariants.Runs as run
use Rattle.wb_aql_grammar.proofs.reading.expect.Goals as goal

pub returns-in-Some : goal.returns-in-Some
returns-in-Some c = step_sign _ _ _ c.in-Some.ensures

pub returns-in-None : goal.returns-in-None
returns-in-None c = λ n l r. run.runs_no_sign c.in-None.ensures
