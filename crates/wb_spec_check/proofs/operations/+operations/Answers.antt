use Rattle.std.proofs.Common.{arith, ◌∙◌}
use Rattle.wb_spec_check.specs.Places.{place_of}
use Rattle.wb_spec_check.proofs.Rows.{operation_told, operations_none, operations_on}
use Rattle.wb_spec_check.proofs.Steps.{place_item, place_member}
use Rattle.wb_spec_check.proofs.operations.+operations.Goals as goal

pub operation_at-returns : goal.operation_at-returns
operation_at-returns t c =
    operation_told c.args.names.now.0 c.args.scope.now (place_of c.args.path.now) c.operations_at.new.problems c.args.rows.now c.operations_at.new.rows c.args.operation.now c.as_slice.result.now _ c.as_slice-2.result.now c.operations_at.result
    c.in_ok-row.ensures c.in_ok-gather.ensures (c.as_slice.ensures ∙ c.in_ok-inner.ensures) (place_member _ _) c.as_slice-2.ensures c.operations_at.ensures

pub operations_at-loop-number-init : goal.operations_at-loop-number-init
operations_at-loop-number-init t c = operations_none _ _ _ c.args.operations.now _ _

pub operations_at-loop-number-preserved : goal.operations_at-loop-number-preserved
operations_at-loop-number-preserved t c = operations_on _ _ _ _ _ c.index-operations-number.result _ c.loop-number.invariant (omega arith) c.index-operations-number.is (place_item _ _) c.in_ok-operation_at.ensures
