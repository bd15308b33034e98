use Rattle.std.proofs.Common.{◌≡◌, [], drop}
use Rattle.wb_aql_values.specs.Readings.{contents, each}
use Rattle.wb_aql_values.specs.Runs.{run}
use Rattle.wb_aql_services.specs.Navigation.{with_slot}
use Rattle.wb_aql_services.proofs.downwards.content.Given as goal

abbrev pub invariant-loop-f : goal.invariant-loop-f
invariant-loop-f l = run (each (with_slot l.model.metamodel l.o) l.content (drop l.f-index l.f-items)) (contents l.model) l.reads
    ≡ run (each (with_slot l.model.metamodel l.o) [] l.f-items) (contents l.model) l.fn.reads
