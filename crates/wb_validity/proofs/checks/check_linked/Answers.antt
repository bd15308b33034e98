use Rattle.std.proofs.lemmas.Result.{err_from_is_err_and}
use Rattle.wb_validity.specs.Broken.{broken}
use Rattle.wb_validity.proofs.Findings.{raised, passed_on}
use Rattle.wb_validity.proofs.checks.check_linked.Goals as goal

pub returns-in_err-check_first : goal.returns-in_err-check_first
unfolding broken
returns-in_err-check_first c =
    let r = c.from_residual in
    let p = err_from_is_err_and r.result r.ensures.1 in
    raised r.result p.0 c.in_err-check_first.field-0.0 _ _ p.1 p.2 c.in_err-check_first.ensures

pub returns-in_err-check_values : goal.returns-in_err-check_values
unfolding broken
returns-in_err-check_values c =
    let r = c.from_residual-in_err-check_values in
    let p = err_from_is_err_and r.result r.ensures.1 in
    passed_on r.result _ _ c.in_ok-check_first.ensures
    (raised r.result p.0 c.in_err-check_values.field-0.0 _ _ p.1 p.2 c.in_err-check_values.ensures)

pub returns : goal.returns
unfolding broken
returns c = passed_on c.check_containment.result _ _ c.in_ok-check_first.ensures (passed_on c.check_containment.result _ _ c.in_ok-check_values.ensures c.check_containment.ensures)
