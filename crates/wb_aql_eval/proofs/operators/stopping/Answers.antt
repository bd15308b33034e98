use Rattle.std.proofs.Common.{Ok, Some, None, true, false, sym, ap, ◌∙◌, if◌then◌else◌}
use Rattle.std.specs.Bool.{beq}
use Rattle.wb_aql_eval.specs.Operators.{truth}
use Rattle.wb_aql_values.specs.Values.{flag}
use Rattle.wb_aql_eval.proofs.Passing.{passes, passes_not, is_returned}
use Rattle.wb_aql_eval.proofs.operators.stopping.Goals as goal

pub returns-in_err-b : goal.returns-in_err-b
returns-in_err-b c = is_returned _ c.from_residual.result c.in_err-b.field-0.0 c.from_residual.ensures.1
    (passes_not (truth c.args.left.now) (λ b. Ok (if beq b c.args.at then Some (flag c.args.gives) else None)) c.in_err-b.field-0.0 c.in_err-b.ensures)

pub returns-then-b-at : goal.returns-then-b-at
returns-then-b-at c = passes (truth c.args.left.now) (λ b. Ok (if beq b c.args.at then Some (flag c.args.gives) else None)) c.in_ok-b.b (Ok (Some c.flag.result)) c.in_ok-b.ensures
    (ap (λ t. Ok (if t then Some (flag c.args.gives) else None)) c.if-b-at.true ∙ ap (λ v. Ok (Some v)) (sym c.flag.ensures))

pub returns : goal.returns
returns c = passes (truth c.args.left.now) (λ b. Ok (if beq b c.args.at then Some (flag c.args.gives) else None)) c.in_ok-b.b (Ok None) c.in_ok-b.ensures
    (ap (λ t. Ok (if t then Some (flag c.args.gives) else None)) c.if-b-at.false)
