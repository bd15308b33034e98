use Rattle.wb_aql_syntax.proofs.Least.{fewest_tokens}
use Rattle.wb_aql_syntax.proofs.printing_laws.canonical_is_shortest.Goals as goal

pub returns : goal.returns
returns c = fewest_tokens
