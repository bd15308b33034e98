use Rattle.std.proofs.Common.{◌≡◌, ◌-◌}
use Rattle.std.specs.List.{range_with_len}
use Rattle.wb_base.specs.Paths.{leads_through}
use Rattle.wb_metamodel.specs.Metamodel.{is_supertype}
use Rattle.wb_metamodel.specs.invariants.Tables.{table_of}
use Rattle.wb_metamodel.proofs.hierarchy.below_table.Given as goal

abbrev pub invariant-loop-done : goal.invariant-loop-done
invariant-loop-done l = l.table ≡ table_of l.count (leads_through (is_supertype l.elements) (range_with_len (l.count - l.done) l.done))
