-- What stands at a place of a tool.
use Rattle.std.proofs.Common.{◌≡◌, ℕ, suc, Option, Some, None, ap, ◌∙◌, slice_get}
use Rattle.wb_base.specs.Options.{◌>>=◌}
use Rattle.wb_spec_check.specs.Checked.{Specification}
use Rattle.wb_spec_check.specs.Units.{class_of_operation, expression_at_place, operation_at_place, tool_expression}
use Rattle.wb_spec_check.specs.declared.checked_tools.CheckedOperation.{CheckedOperation}
use Rattle.wb_spec_check.specs.declared.checked_tools.CheckedTool.{CheckedTool}

module _ (spec : Specification) (tool : ℕ) (own : CheckedTool) (there : slice_get spec.1.tools tool ≡ Some own) where
  pub precondition_there : tool_expression spec tool 0 ≡ own.precondition
  unfolding tool_expression
  precondition_there = ap (λ (it : Option CheckedTool). it >>= (λ found. expression_at_place found 0)) there

  pub no_class_there : class_of_operation spec tool 0 ≡ None
  unfolding class_of_operation
  no_class_there = ap (λ (it : Option CheckedTool). it >>= (λ found. operation_at_place found 0 >>= (λ operation. operation.class))) there

  module _ (i : ℕ) (row : CheckedOperation) (here : slice_get own.operations i ≡ Some row) where
    pub expression_there : tool_expression spec tool (suc i) ≡ row.expression
    unfolding tool_expression
    expression_there = ap (λ (it : Option CheckedTool). it >>= (λ found. expression_at_place found (suc i))) there ∙ ap (λ (it : Option CheckedOperation). it >>= (λ operation. operation.expression)) here

    pub class_there : class_of_operation spec tool (suc i) ≡ row.class
    unfolding class_of_operation
    class_there = ap (λ (it : Option CheckedTool). it >>= (λ found. operation_at_place found (suc i) >>= (λ operation. operation.class))) there ∙ ap (λ (it : Option CheckedOperation). it >>= (λ operation. operation.class)) here
