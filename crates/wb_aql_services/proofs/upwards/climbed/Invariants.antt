use Rattle.std.proofs.Common.{◌≡◌, ◌-◌, []}
use Rattle.wb_aql_values.specs.Readings.{contents}
use Rattle.wb_aql_values.specs.Runs.{run}
use Rattle.wb_aql_services.specs.Navigation.{climbed, height}
use Rattle.wb_aql_services.proofs.upwards.climbed.Given as goal

abbrev pub invariant-loop-level : goal.invariant-loop-level
invariant-loop-level l = run (climbed (height - l._level) l.met l.below) (contents l.model) l.reads ≡ run (climbed height [] l.fn.o) (contents l.model) l.fn.reads
