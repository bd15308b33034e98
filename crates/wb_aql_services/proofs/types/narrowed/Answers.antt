use Rattle.std.proofs.Common.{ap}
use Rattle.wb_aql_values.specs.Readings.{contents}
use Rattle.wb_aql_values.specs.Runs.{run}
use Rattle.wb_aql_services.specs.Types.{narrowed}
use Rattle.wb_aql_services.proofs.types.narrowed.Goals as goal

pub returns-in-None : goal.returns-in-None
unfolding run
returns-in-None c = ap (λ t. run (narrowed c.args.model.now.metamodel t c.args.xs) (contents c.args.model.now) c.args.reads.now) c.in-None.is
