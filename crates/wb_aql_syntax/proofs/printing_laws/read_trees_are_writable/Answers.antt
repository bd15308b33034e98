use Rattle.wb_aql_syntax.proofs.ReadBack.{read_is_writable}
use Rattle.wb_aql_syntax.proofs.printing_laws.read_trees_are_writable.Goals as goal

pub returns : goal.returns
returns c = read_is_writable
