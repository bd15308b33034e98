use Rattle.std.proofs.Common.{◌≡◌, nat_le, drop}
use Rattle.wb_viewpoint.specs.OperationTrees.{nesting_all}
use Rattle.wb_viewpoint.specs.View.{trees_of}
use Rattle.wb_viewpoint.proofs.limits.+nesting.Given as goal

abbrev pub invariant-nest_within-loop-operation : goal.invariant-nest_within-loop-operation
invariant-nest_within-loop-operation l = nat_le (nesting_all (trees_of l.operations)) l.levels ≡ nat_le (nesting_all (trees_of (drop l.operation-index l.operations))) l.levels
