use Rattle.std.proofs.Common.{◌∙◌, sym, ap, subst, Some, None, Err, cond}
use Rattle.std.proofs.lemmas.Bool.{false_from_ne_true, false≢true}
use Rattle.std.proofs.lemmas.Result.{err_from_is_err_and}
use Rattle.std.specs.Option.{option_or}
use Rattle.wb_validity.specs.Broken.{shown_by, broken_holding}
use Rattle.wb_validity.specs.Flaws.{Finds}
use Rattle.wb_validity.specs.ValidTest.{roots_are_uncontained}
use Rattle.wb_validity.proofs.Findings.{raised}
use Rattle.wb_validity.proofs.ValidTest.{roots-decided}
use Rattle.wb_validity.proofs.checks.check_holding.Goals as goal

pub returns-in_err-passed : goal.returns-in_err-passed
unfolding broken_holding
returns-in_err-passed c =
    let r = c.from_residual-in_err-passed in
    let p = err_from_is_err_and r.result r.ensures.1 in
    raised r.result p.0 c.in_err-passed.field-0.0 _ _ p.1 p.2 (subst (Finds (Err c.in_err-passed.field-0.0)) (ap (shown_by 9) c.in_ok-object_on_ring.ensures) c.in_err-passed.ensures)

pub returns-then-branch : goal.returns-then-branch
unfolding broken_holding
returns-then-branch c =
    let rooted = (roots-decided c.args.store.now).1 (c.in_ok-roots_are_uncontained.ensures.0 c.if-branch.true) in
    ap (λ x. option_or x (cond (roots_are_uncontained c.args.store.now) None (Some (10, None)))) (sym (ap (shown_by 9) c.in_ok-object_on_ring.ensures) ∙ c.in_ok-passed.ensures)
    ∙ ap (λ b. cond b None (Some (10, None))) rooted

pub returns-else-branch : goal.returns-else-branch
unfolding broken_holding
returns-else-branch c =
    let wrong = false_from_ne_true (roots_are_uncontained c.args.store.now) (λ h. false≢true (sym c.if-branch.false ∙ c.in_ok-roots_are_uncontained.ensures.1 ((roots-decided c.args.store.now).0 h))) in
    ap (λ x. option_or x (cond (roots_are_uncontained c.args.store.now) None (Some (10, None)))) (sym (ap (shown_by 9) c.in_ok-object_on_ring.ensures) ∙ c.in_ok-passed.ensures)
    ∙ ap (λ b. cond b None (Some (10, None))) wrong
