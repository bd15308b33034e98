use Rattle.std.proofs.Common.{◌-◌, ◌≤◌, length}
use Rattle.wb_metamodel.proofs.inherited.empty_table.Given as goal

abbrev pub invariant-rows : goal.invariant-rows
invariant-rows l = length l.table.items ≤ l.count

abbrev pub decreases-rows : goal.decreases-rows
decreases-rows l = l.count - length l.table.items
