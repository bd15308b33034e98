use Rattle.std.proofs.Common.{◌≡◌, ◌++◌, drop}
use Rattle.wb_store.specs.Cells.{objects_in}
use Rattle.wb_aql_services.proofs.downwards.push_objects.Given as goal

abbrev pub invariant-loop-value : goal.invariant-loop-value
invariant-loop-value l = l.objects ++ objects_in (drop l.value-index l.values) ≡ l.fn.objects ++ objects_in l.values
