use Rattle.std.proofs.Common.{◌≡◌, ◌-◌}
use Rattle.wb_aql_values.specs.Readings.{contents}
use Rattle.wb_aql_values.specs.Runs.{run}
use Rattle.wb_aql_services.specs.Navigation.{nearest, height}
use Rattle.wb_aql_services.proofs.upwards.nearest.Given as goal

abbrev pub invariant-loop-level : goal.invariant-loop-level
invariant-loop-level l = run (nearest l.model.metamodel l.asked (height - l._level) l.below) (contents l.model) l.reads
    ≡ run (nearest l.model.metamodel l.asked height l.fn.o) (contents l.model) l.fn.reads
