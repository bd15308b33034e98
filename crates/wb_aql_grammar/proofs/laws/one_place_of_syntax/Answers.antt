use Rattle.wb_aql_grammar.proofs.Unique.{one_syntax}
use Rattle.wb_aql_grammar.proofs.laws.one_place_of_syntax.Goals as goal

pub returns : goal.returns
returns c = one_syntax
