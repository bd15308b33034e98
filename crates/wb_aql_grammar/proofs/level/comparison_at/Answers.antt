use Rattle.wb_aql_grammar.proofs.Steps.{compares, no_comparison, no_comparison_there}
use Rattle.wb_aql_grammar.proofs.level.comparison_at.Goals as goal

pub returns-in-Some-comparison_of : goal.returns-in-Some-comparison_of
returns-in-Some-comparison_of c = compares _ _ _ _ c.in-Some.ensures c.in-Some-comparison_of.ensures

pub returns-in-None-comparison_of : goal.returns-in-None-comparison_of
returns-in-None-comparison_of c = no_comparison _ _ _ c.in-Some.ensures c.in-None-comparison_of.ensures

pub returns-in-None : goal.returns-in-None
returns-in-None c = no_comparison_there _ c.in-None.ensures
