use Rattle.std.proofs.Common.{◌∙◌, sym, ap, subst, Err}
use Rattle.std.proofs.lemmas.Result.{err_from_is_err_and}
use Rattle.wb_validity.specs.Broken.{shown_by, broken_first}
use Rattle.wb_validity.specs.Flaws.{Finds}
use Rattle.wb_validity.proofs.Findings.{raised, passed_on}
use Rattle.wb_validity.proofs.checks.check_first.Goals as goal

pub returns-in_err-check_numbers : goal.returns-in_err-check_numbers
unfolding broken_first
returns-in_err-check_numbers c =
    let p = err_from_is_err_and c.from_residual.result c.from_residual.ensures.1 in
    raised c.from_residual.result p.0 c.in_err-check_numbers.field-0.0 _ _ p.1 p.2 c.in_err-check_numbers.ensures

pub returns-in_err-passed : goal.returns-in_err-passed
unfolding broken_first
returns-in_err-passed c =
    let r = c.from_residual-in_err-passed in
    let p = err_from_is_err_and r.result r.ensures.1 in
    passed_on r.result _ _ c.in_ok-check_numbers.ensures
    (raised r.result p.0 c.in_err-passed.field-0.0 _ _ p.1 p.2 (subst (Finds (Err c.in_err-passed.field-0.0)) (ap (shown_by 2) c.abstract_object.ensures) c.in_err-passed.ensures))

pub returns-in_err-passed-2 : goal.returns-in_err-passed-2
unfolding broken_first
returns-in_err-passed-2 c =
    let r = c.from_residual-in_err-passed-2 in
    let p = err_from_is_err_and r.result r.ensures.1 in
    passed_on r.result _ _ c.in_ok-check_numbers.ensures
    (passed_on r.result _ _ (sym (ap (shown_by 2) c.abstract_object.ensures) ∙ c.in_ok-passed.ensures)
    (raised r.result p.0 c.in_err-passed-2.field-0.0 _ _ p.1 p.2 (subst (Finds (Err c.in_err-passed-2.field-0.0)) (ap (shown_by 3) c.in_ok-breaking_object.ensures) c.in_err-passed-2.ensures)))

pub returns : goal.returns
unfolding broken_first
returns c =
    passed_on c.passed-3.result _ _ c.in_ok-check_numbers.ensures
    (passed_on c.passed-3.result _ _ (sym (ap (shown_by 2) c.abstract_object.ensures) ∙ c.in_ok-passed.ensures)
    (passed_on c.passed-3.result _ _ (sym (ap (shown_by 3) c.in_ok-breaking_object.ensures) ∙ c.in_ok-passed-2.ensures)
    (subst (Finds c.passed-3.result) (ap (shown_by 4) c.in_ok-crowded_object.ensures) c.passed-3.ensures)))
