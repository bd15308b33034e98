use Rattle.wb_aql_syntax.proofs.Least.{least_bounds}
use Rattle.wb_aql_syntax.proofs.printing_laws.canonical_is_shallowest.Goals as goal

pub returns : goal.returns
returns c = least_bounds
