use Rattle.std.proofs.Common.{refl}
use Rattle.wb_aql_values.specs.Runs.{run}
use Rattle.wb_aql_services.proofs.by_dot.AsTypeOnScalars.of_null.Goals as goal

pub returns : goal.returns
unfolding run
returns c = refl
