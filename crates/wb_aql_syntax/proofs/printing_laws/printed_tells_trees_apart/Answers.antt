use Rattle.wb_aql_syntax.proofs.ReadBack.{same_printed}
use Rattle.wb_aql_syntax.proofs.printing_laws.printed_tells_trees_apart.Goals as goal

pub returns : goal.returns
returns c = same_printed
