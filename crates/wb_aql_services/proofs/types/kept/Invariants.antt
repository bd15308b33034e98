use Rattle.std.proofs.Common.{◌≡◌, [], drop}
use Rattle.wb_aql_values.specs.Readings.{contents, each}
use Rattle.wb_aql_values.specs.Runs.{run}
use Rattle.wb_aql_services.specs.Types.{keep}
use Rattle.wb_aql_services.proofs.types.kept.Given as goal

abbrev pub invariant-loop-x : goal.invariant-loop-x
invariant-loop-x l = run (each (keep l.model.metamodel l.asked) l.kept (drop l.x-index l.xs)) (contents l.model) l.reads
    ≡ run (each (keep l.model.metamodel l.asked) [] l.xs) (contents l.model) l.fn.reads
