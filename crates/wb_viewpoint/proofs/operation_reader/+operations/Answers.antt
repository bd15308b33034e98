use Rattle.std.proofs.Common.{◌<◌, ◌≤◌, ◌∙◌, sym, ap, Err, Ok, arith, rules, codes}
use Rattle.serde_json.specs.Data.{depth, items_depth}
use Rattle.serde_json.specs.View.{view, items_view}
use Rattle.wb_viewpoint.specs.Answers.{GivesTree}
use Rattle.wb_viewpoint.specs.OperationForms.{operation_of}
use Rattle.wb_viewpoint.specs.View.{trees_of}
use Rattle.wb_viewpoint.proofs.Depths.{part_depth, array_depth, item_depth}
use Rattle.wb_viewpoint.proofs.Turns.{goes_next, goes_end, count_one}
use Rattle.wb_viewpoint.proofs.Steps.{operation_wrong, operation_right}
use Rattle.wb_viewpoint.proofs.operation_reader.+operations.Goals as goal

pub read_inside-read_operations-requires : goal.read_inside-read_operations-requires
read_inside-read_operations-requires t c =
    let e : depth (view c.in-Some.part.now) < depth (view c.args.value.now) = part_depth (codes "do") (view c.args.value.now) (view c.in-Some.part.now) (sym c.in-Some.ensures) in
    search rules

pub read_operation-returns-in_err-inside-clause-found : goal.read_operation-returns-in_err-inside-clause-found
read_operation-returns-in_err-inside-clause-found t c =
    let e : GivesTree (Err c.in_err-inside.field-0.0) (operation_of c.args.next.now (view c.args.value.now)) =
    operation_wrong c.args.next.now c.in-Some.after (view c.args.value.now) c.in_ok-head.head c.in_err-inside.field-0.0 (omega (arith, c.in-Some.ensures.1)) c.in_ok-head.ensures c.in_err-inside.ensures.found in
    search rules

pub read_operation-returns-clause-found : goal.read_operation-returns-clause-found
read_operation-returns-clause-found t c =
    operation_right c.args.next.now c.in-Some.after (view c.args.value.now) c.in_ok-head.head (trees_of c.in_ok-inside.inside) (omega (arith, c.in-Some.ensures.1)) c.in_ok-head.ensures c.in_ok-inside.ensures.found ∙ ap Ok (sym c.operation.ensures)

pub read_operations-read_items-requires : goal.read_operations-read_items-requires
read_operations-read_items-requires t c =
    let e : items_depth (items_view c.as_slice.result.now) < depth (view c.args.value.now) =
    array_depth (items_view c.as_slice.result.now) (view c.args.value.now) (rw c.as_slice.ensures.value (sym c.in-Some.ensures)) in
    search rules

pub read_items-read_item-requires : goal.read_items-read_item-requires
read_items-read_item-requires t c =
    let e : depth (view c.index-values-index.result) ≤ items_depth (items_view c.args.values.now) =
    item_depth c.args.values.now c.loop-index.index c.index-values-index.result (omega arith) c.index-values-index.is in
    search rules

pub read_items-loop-index-preserved : goal.read_items-loop-index-preserved
read_items-loop-index-preserved t c = record {
  found = goes_next c.loop-index.operations c.push.new.self c.in_ok-read_item.field-0 c.loop-index.next c.read_item.new.next c.loop-index.index c.index-values-index.result c.args.values.now _ (omega arith) c.index-values-index.is c.in_ok-push.ensures.ok c.in_ok-read_item.ensures.counted c.in_ok-read_item.ensures.found c.loop-index.invariant.found;
  counted = c.in_ok-read_item.ensures.counted ∙ (rw (c.loop-index.invariant.counted, c.in_ok-push.ensures.ok, count_one c.loop-index.operations c.in_ok-read_item.field-0) (omega arith));
}

pub read_items-returns-clause-found : goal.read_items-returns-clause-found
read_items-returns-clause-found t c = goes_end c.loop-index.operations c.loop-index.next c.loop-index.index c.args.values.now _ (omega arith) c.loop-index.invariant.found
