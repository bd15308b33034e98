use Rattle.std.proofs.Common.{◌≡◌, ◌+◌, drop}
use Rattle.wb_viewpoint.specs.OperationTrees.{count_all}
use Rattle.wb_viewpoint.specs.View.{trees_of}
use Rattle.wb_viewpoint.proofs.limits.+room.Given as goal

abbrev pub invariant-room_after-loop-operation : goal.invariant-room_after-loop-operation
invariant-room_after-loop-operation l = l.left + count_all (trees_of l.operations) ≡ l.room + count_all (trees_of (drop l.operation-index l.operations))
