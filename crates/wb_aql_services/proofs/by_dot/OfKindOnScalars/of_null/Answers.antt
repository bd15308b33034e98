use Rattle.std.proofs.Common.{Ok, sym, ap}
use Rattle.wb_aql_values.specs.Runs.{run}
use Rattle.wb_aql_services.proofs.by_dot.OfKindOnScalars.of_null.Goals as goal

pub returns : goal.returns
unfolding run
returns c = ap (λ v. record { gave = Ok v; reads = c.args._reads.now }) (sym c.flag.ensures)
