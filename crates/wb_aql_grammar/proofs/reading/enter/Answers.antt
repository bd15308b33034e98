use Rattle.wb_aql_grammar.proofs.Steps.{step_opening, no_opening_left}
use Rattle.wb_aql_grammar.specs.invariants.Runs as run
use Rattle.wb_aql_grammar.proofs.reading.enter.Goals as goal

pub returns-in-Some-opened-clause-entered : goal.returns-in-Some-opened-clause-entered
returns-in-Some-opened-clause-entered c = step_opening _ _ _ _ _ _ _ c.in-Some.ensures c.in-Some-opened.ensures.0 c.in-Some-opened.ensures.1

pub returns-in-None-opened-clause-entered : goal.returns-in-None-opened-clause-entered
returns-in-None-opened-clause-entered c = no_opening_left _ _ _ _ _ c.in-Some.ensures c.in-None-opened.ensures

pub returns-in-None-clause-entered : goal.returns-in-None-clause-entered
returns-in-None-clause-entered c = λ i r. run.runs_no_opening c.in-None.ensures
