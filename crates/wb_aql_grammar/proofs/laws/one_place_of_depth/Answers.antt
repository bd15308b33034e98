use Rattle.wb_aql_grammar.proofs.Unique.{one_deep}
use Rattle.wb_aql_grammar.proofs.laws.one_place_of_depth.Goals as goal

pub returns : goal.returns
returns c = one_deep
