use Rattle.std.proofs.Common.{◌∙◌, sym, ap, subst, Err}
use Rattle.std.proofs.lemmas.Result.{err_from_is_err_and}
use Rattle.wb_validity.specs.Broken.{shown_by, broken_values}
use Rattle.wb_validity.specs.Flaws.{Finds}
use Rattle.wb_validity.proofs.Findings.{raised, passed_on}
use Rattle.wb_validity.proofs.checks.check_values.Goals as goal

pub returns-in_err-passed : goal.returns-in_err-passed
unfolding broken_values
returns-in_err-passed c =
    let r = c.from_residual-in_err-passed in
    let p = err_from_is_err_and r.result r.ensures.1 in
    let first = ap (shown_by 5) c.in_ok-breaking_object.ensures in
    raised r.result p.0 c.in_err-passed.field-0.0 _ _ p.1 p.2 (subst (Finds (Err c.in_err-passed.field-0.0)) first c.in_err-passed.ensures)

pub returns-in_err-passed-2 : goal.returns-in_err-passed-2
unfolding broken_values
returns-in_err-passed-2 c =
    let r = c.from_residual-in_err-passed-2 in
    let p = err_from_is_err_and r.result r.ensures.1 in
    let second = ap (shown_by 6) c.in_ok-breaking_object-2.ensures in
    passed_on r.result _ _ (sym (ap (shown_by 5) c.in_ok-breaking_object.ensures) ∙ c.in_ok-passed.ensures)
    (raised r.result p.0 c.in_err-passed-2.field-0.0 _ _ p.1 p.2 (subst (Finds (Err c.in_err-passed-2.field-0.0)) second c.in_err-passed-2.ensures))

pub returns : goal.returns
unfolding broken_values
returns c =
    passed_on c.passed-3.result _ _ (sym (ap (shown_by 5) c.in_ok-breaking_object.ensures) ∙ c.in_ok-passed.ensures)
    (passed_on c.passed-3.result _ _ (sym (ap (shown_by 6) c.in_ok-breaking_object-2.ensures) ∙ c.in_ok-passed-2.ensures)
    (subst (Finds c.passed-3.result) (ap (shown_by 7) c.in_ok-breaking_object-3.ensures) c.passed-3.ensures))
