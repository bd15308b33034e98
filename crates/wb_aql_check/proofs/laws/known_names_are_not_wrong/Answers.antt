use Rattle.wb_aql_check.proofs.KnownNames.{known_is_not_wrong}
use Rattle.wb_aql_check.proofs.laws.known_names_are_not_wrong.Goals as goal

pub returns : goal.returns
returns c = known_is_not_wrong
