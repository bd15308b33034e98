use Rattle.wb_aql_check.proofs.KnownNames.{known_to_larger}
use Rattle.wb_aql_check.proofs.laws.known_in_a_larger_scope.Goals as goal

pub returns : goal.returns
returns c = known_to_larger
