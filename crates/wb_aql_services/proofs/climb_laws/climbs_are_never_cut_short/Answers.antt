use Rattle.wb_aql_services.proofs.Climbing.{climbed-whole, above-decides, nearest-first}
use Rattle.wb_aql_services.proofs.climb_laws.climbs_are_never_cut_short.Goals as goal

pub returns-clause-complete : goal.returns-clause-complete
returns-clause-complete c = climbed-whole

pub returns-clause-exact : goal.returns-clause-exact
returns-clause-exact c = above-decides

pub returns-clause-nearest : goal.returns-clause-nearest
returns-clause-nearest c = nearest-first
