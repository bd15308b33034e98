use Rattle.wb_aql_grammar.proofs.Steps.{goes_on, ends, ends_there}
use Rattle.wb_aql_grammar.proofs.level.operator_at.Goals as goal

pub returns-in-Some-operator_of-clause-operator : goal.returns-in-Some-operator_of-clause-operator
returns-in-Some-operator_of-clause-operator c = goes_on _ _ _ _ _ c.in-Some.ensures c.in-Some-operator_of.ensures

pub returns-in-None-operator_of-clause-operator : goal.returns-in-None-operator_of-clause-operator
returns-in-None-operator_of-clause-operator c = ends _ _ _ _ c.in-Some.ensures c.in-None-operator_of.ensures

pub returns-in-None-clause-operator : goal.returns-in-None-clause-operator
returns-in-None-clause-operator c = ends_there _ _ c.in-None.ensures
