use Rattle.wb_aql_grammar.proofs.Steps.{comes}
use Rattle.wb_aql_grammar.proofs.Parts.{as_tree}
use Rattle.wb_aql_grammar.proofs.Picks.{takes_literal, takes_variable}
use Rattle.wb_aql_grammar.proofs.atom.parse_named.Goals as goal

pub returns-in-Some : goal.returns-in-Some
returns-in-Some c n l = comes _ _ _ _ _ _ _ _ _ (takes_literal _ _ _ c.in-Some.ensures) (c.parse_literal.ensures n l)

pub returns-in-None : goal.returns-in-None
returns-in-None c n l = as_tree c.variable.ensures (takes_variable _ _ c.in-None.ensures)
