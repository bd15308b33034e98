use Rattle.std.proofs.Common.{subst}
use Rattle.wb_aql_grammar.proofs.Steps.{step_name}
use Rattle.wb_aql_grammar.specs.invariants.Runs as run
use Rattle.wb_aql_grammar.specs.invariants.Runs.{Runs}
use Rattle.wb_aql_grammar.proofs.reading.expect_name.Goals as goal

pub returns-in_ok-name-in-Some : goal.returns-in_ok-name-in-Some
returns-in_ok-name-in-Some c = λ n l r o d. step_name _ _ _ c.in-Some.ensures n l r o (subst (λ z. Runs n l (r z) c.in-Some.rest.now o) c.in_ok-name-in-Some.ensures d)

pub returns-in-None : goal.returns-in-None
returns-in-None c = λ n l r. run.runs_no_name c.in-None.ensures
