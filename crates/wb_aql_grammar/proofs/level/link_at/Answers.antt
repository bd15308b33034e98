use Rattle.wb_aql_grammar.proofs.Steps.{links_dot, link_or}
use Rattle.wb_aql_grammar.proofs.level.link_at.Goals as goal

pub returns-in-Some-clause-link : goal.returns-in-Some-clause-link
returns-in-Some-clause-link c = links_dot _ _ c.in-Some.ensures

pub returns-in-None-clause-link : goal.returns-in-None-clause-link
returns-in-None-clause-link c = link_or _ _ c.in-None.ensures c.arrow_at.ensures.link
