use Rattle.std.proofs.Common.{◌≡◌, [], drop}
use Rattle.wb_aql_values.specs.Readings.{contents, each, gather}
use Rattle.wb_aql_values.specs.Runs.{run}
use Rattle.wb_aql_values.proofs.lifting.of_each.Given as goal

abbrev pub invariant-loop-x : goal.invariant-loop-x
invariant-loop-x g l = record {
  sort : l.gathered.0 ≡ l.fn.sort;
  rest : run (each (gather l.fn.sort (g.F.OnScalars.on_scalar l.function l.model.metamodel)) l.gathered.1 (drop l.x-index l.xs)) (contents l.model) l.reads
      ≡ run (each (gather l.fn.sort (g.F.OnScalars.on_scalar l.function l.model.metamodel)) [] l.xs) (contents l.model) l.fn.reads;
}
