use Rattle.wb_aql_services.specs.Services.{navigated}
use Rattle.wb_aql_services.proofs.by_dot.navigate.Goals as goal

pub returns : goal.returns
unfolding navigated
returns c = c.lift.ensures
