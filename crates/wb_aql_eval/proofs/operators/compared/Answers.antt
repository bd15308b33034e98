use Rattle.std.proofs.Common.{rules, Ok, Err, sym, ap, ◌∙◌, w64}
use Rattle.std.specs.Prelude.{FitsSigned}
use Rattle.std.proofs.lemmas.Int.{to_z-of_z}
use Rattle.wb_aql_eval.specs.Operators.{ordered, integer}
use Rattle.wb_aql_values.specs.Values.{flag}
use Rattle.wb_base.specs.Results.{◌>>=◌}
use Rattle.wb_aql_eval.proofs.Passing.{passes, passes_not, is_returned}
use Rattle.wb_aql_eval.proofs.operators.compared.Goals as goal

pub returns-in_err-a : goal.returns-in_err-a
returns-in_err-a c = is_returned _ c.from_residual.result c.in_err-a.field-0.0 c.from_residual.ensures.1
    (passes_not (integer c.args.left.now) (λ a. ◌>>=◌ (integer c.args.right.now) (λ b. Ok (flag (ordered c.args.operator a b)))) c.in_err-a.field-0.0 c.in_err-a.ensures)

pub returns-in_err-b : goal.returns-in_err-b
returns-in_err-b c = is_returned _ c.from_residual-in_err-b.result c.in_err-b.field-0.0 c.from_residual-in_err-b.ensures.1
    (passes (integer c.args.left.now) (λ a. ◌>>=◌ (integer c.args.right.now) (λ b. Ok (flag (ordered c.args.operator a b)))) c.in_ok-a.a (Err c.in_err-b.field-0.0) c.in_ok-a.ensures (passes_not (integer c.args.right.now) (λ b. Ok (flag (ordered c.args.operator c.in_ok-a.a b))) c.in_err-b.field-0.0 c.in_err-b.ensures))

pub returns : goal.returns
returns c =
    let fa : FitsSigned w64 c.in_ok-a.a = search rules in
    let fb : FitsSigned w64 c.in_ok-b.b = search rules in
    let ea = to_z-of_z w64 c.in_ok-a.a fa in
    let eb = to_z-of_z w64 c.in_ok-b.b fb in
    passes (integer c.args.left.now) (λ a. ◌>>=◌ (integer c.args.right.now) (λ b. Ok (flag (ordered c.args.operator a b)))) c.in_ok-a.a (Ok c.flag.result) c.in_ok-a.ensures (passes (integer c.args.right.now) (λ b. Ok (flag (ordered c.args.operator c.in_ok-a.a b))) c.in_ok-b.b (Ok c.flag.result) c.in_ok-b.ensures (ap Ok (ap flag (sym (rw (ea, eb) at c.ordered.ensures)) ∙ sym c.flag.ensures)))
