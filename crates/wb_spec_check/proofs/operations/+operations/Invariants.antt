use Rattle.std.proofs.Common.{take}
use Rattle.wb_viewpoint.specs.View.{trees_of}
use Rattle.wb_spec_check.specs.Places.{place_of}
use Rattle.wb_spec_check.specs.Tools.{operations_from}
use Rattle.wb_spec_check.specs.invariants.Rows.{TellsRows}
use Rattle.wb_spec_check.proofs.operations.+operations.Given as goal

-- what was told is what the operations so far tell
abbrev pub invariant-operations_at-loop-number : goal.invariant-operations_at-loop-number
invariant-operations_at-loop-number l = TellsRows (operations_from l.names.0 l.scope (place_of l.path) 0 (trees_of (take l.number l.operations))) l.fn.problems l.fn.rows l.rows l.problems
