use Rattle.std.proofs.Common.{Ok, None, refl}
use Rattle.wb_aql_eval.specs.Operators.{truth}
use Rattle.wb_aql_eval.proofs.Passing.{passes, passes_not, is_returned}
use Rattle.wb_aql_eval.proofs.operators.decided.Goals as goal

pub returns-in_err-_b-in-Xor : goal.returns-in_err-_b-in-Xor
returns-in_err-_b-in-Xor c = rw c.in-Xor.is (is_returned _ c.from_residual.result c.in_err-_b-in-Xor.field-0.0 c.from_residual.ensures.1
    (passes_not (truth c.args.left.now) (λ b. Ok None) c.in_err-_b-in-Xor.field-0.0 c.in_err-_b-in-Xor.ensures))

pub returns-in_ok-_b-in-Xor : goal.returns-in_ok-_b-in-Xor
returns-in_ok-_b-in-Xor c = rw c.in-Xor.is (passes (truth c.args.left.now) (λ b. Ok None) c.in_ok-_b-in-Xor._b (Ok None) c.in_ok-_b-in-Xor.ensures refl)
