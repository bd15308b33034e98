use Rattle.std.proofs.Common.{Ok, Err, sym, ap, ◌∙◌}
use Rattle.wb_aql_eval.specs.Operators.{joined, truth}
use Rattle.wb_aql_values.specs.Values.{flag}
use Rattle.wb_base.specs.Results.{◌>>=◌}
use Rattle.wb_aql_eval.proofs.Passing.{passes, passes_not, is_returned}
use Rattle.wb_aql_eval.proofs.operators.connected.Goals as goal

pub returns-in_err-a : goal.returns-in_err-a
returns-in_err-a c = is_returned _ c.from_residual.result c.in_err-a.field-0.0 c.from_residual.ensures.1
    (passes_not (truth c.args.left.now) (λ a. ◌>>=◌ (truth c.args.right.now) (λ b. Ok (flag (joined c.args.operator a b)))) c.in_err-a.field-0.0 c.in_err-a.ensures)

pub returns-in_err-b : goal.returns-in_err-b
returns-in_err-b c = is_returned _ c.from_residual-in_err-b.result c.in_err-b.field-0.0 c.from_residual-in_err-b.ensures.1
    (passes (truth c.args.left.now) (λ a. ◌>>=◌ (truth c.args.right.now) (λ b. Ok (flag (joined c.args.operator a b)))) c.in_ok-a.a (Err c.in_err-b.field-0.0) c.in_ok-a.ensures (passes_not (truth c.args.right.now) (λ b. Ok (flag (joined c.args.operator c.in_ok-a.a b))) c.in_err-b.field-0.0 c.in_err-b.ensures))

pub returns : goal.returns
returns c = passes (truth c.args.left.now) (λ a. ◌>>=◌ (truth c.args.right.now) (λ b. Ok (flag (joined c.args.operator a b)))) c.in_ok-a.a (Ok c.flag.result) c.in_ok-a.ensures (passes (truth c.args.right.now) (λ b. Ok (flag (joined c.args.operator c.in_ok-a.a b))) c.in_ok-b.b (Ok c.flag.result) c.in_ok-b.ensures (ap Ok (ap flag (sym c.joined.ensures) ∙ sym c.flag.ensures)))
