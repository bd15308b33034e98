use Rattle.std.proofs.Common.{◌≡◌, ◌+◌, ◌*◌, drop}
use Rattle.serde_json.specs.Data.{depth, items_depth}
use Rattle.serde_json.specs.View.{view, items_view}
use Rattle.wb_viewpoint.specs.OperationForms.{operations_from}
use Rattle.wb_viewpoint.specs.OperationTrees.{count_all}
use Rattle.wb_viewpoint.specs.View.{trees_of}
use Rattle.wb_viewpoint.proofs.Turns.{Goes}
use Rattle.wb_viewpoint.proofs.operation_reader.+operations.Given as goal

abbrev pub decreases-read_operation : goal.decreases-read_operation
decreases-read_operation l = 4 * depth (view l.value.now) + 1

abbrev pub decreases-read_inside : goal.decreases-read_inside
decreases-read_inside l = 4 * depth (view l.value.now)

abbrev pub decreases-read_operations : goal.decreases-read_operations
decreases-read_operations l = 4 * depth (view l.value.now)

abbrev pub decreases-read_items : goal.decreases-read_items
decreases-read_items l = 4 * items_depth (items_view l.values.now) + 3

abbrev pub decreases-read_item : goal.decreases-read_item
decreases-read_item l = 4 * depth (view l.value.now) + 2

-- the operations that were read come first, and the next number is behind theirs
abbrev pub invariant-read_items-loop-index : goal.invariant-read_items-loop-index
invariant-read_items-loop-index l = record {
  found : Goes (trees_of l.operations) (operations_from l.next l.index (items_view (drop l.index l.values))) (operations_from l.fn.next 0 (items_view l.values));
  counted : l.next ≡ l.fn.next + count_all (trees_of l.operations);
}
