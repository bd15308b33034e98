use Rattle.std.proofs.Common.{◌≡◌, ◌++◌, drop}
use Rattle.wb_store.specs.Cells.{objects_in}
use Rattle.wb_tools.proofs.unsetting.objects_in.Given as goal

abbrev pub invariant-loop-value : goal.invariant-loop-value
invariant-loop-value l = l.objects.items ++ objects_in (drop l.value-index l.values) ≡ objects_in l.values
