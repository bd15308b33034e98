use Rattle.wb_aql_syntax.proofs.Least.{same_tree}
use Rattle.wb_aql_syntax.proofs.printing_laws.canonical_tells_trees_apart.Goals as goal

pub returns : goal.returns
returns c = same_tree
