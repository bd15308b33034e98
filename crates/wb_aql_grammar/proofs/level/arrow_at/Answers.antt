use Rattle.wb_aql_grammar.proofs.Steps.{links_arrow}
use Rattle.wb_aql_grammar.proofs.level.arrow_at.Goals as goal

pub returns-in-Some-clause-link : goal.returns-in-Some-clause-link
returns-in-Some-clause-link c = links_arrow _ _ c.in-Some.ensures
