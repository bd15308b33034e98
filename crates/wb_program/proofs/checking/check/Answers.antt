use Rattle.std.proofs.Common.{sym, ap, Some, Ok}
use Rattle.wb_spec_check.specs.Checked.{checked}
use Rattle.wb_program.specs.declared.answer.Answer.{Answer}
use Rattle.wb_program.specs.Checking.{check_answer}
use Rattle.wb_program.specs.Course.{gives}
use Rattle.wb_program.specs.Opening.{metamodel_under, viewpoint_under, checking}
use Rattle.wb_program.proofs.Problems.{short}
use Rattle.wb_program.proofs.StepLemmas.{returned, stopped, gone_on, went_nowhere}
use Rattle.wb_program.proofs.checking.check.Goals as goal

pub returns-in_err-metamodel : goal.returns-in_err-metamodel
unfolding checking
returns-in_err-metamodel g c =
    returned c.from_residual.result c.in_err-metamodel.field-0.0 _ _ _ c.from_residual.ensures.1
    (stopped c.in_err-metamodel.field-0.0 (metamodel_under c.args.metamodel_name.now) _ _ _ c.in_err-metamodel.ensures)

pub returns-in_err-viewpoint : goal.returns-in_err-viewpoint
unfolding checking
returns-in_err-viewpoint g c =
    returned c.from_residual-in_err-viewpoint.result c.in_err-viewpoint.field-0.0 _ _ _ c.from_residual-in_err-viewpoint.ensures.1
    (gone_on c.in_ok-metamodel.metamodel _ (metamodel_under c.args.metamodel_name.now) _ _ _ _ c.in_ok-metamodel.ensures
    (stopped c.in_err-viewpoint.field-0.0 (viewpoint_under c.args.viewpoint_name.now) _ _ _ c.in_err-viewpoint.ensures))

pub returns-in_err-check_answer : goal.returns-in_err-check_answer
unfolding checking
returns-in_err-check_answer g c =
    gone_on c.in_ok-metamodel.metamodel c.from_residual-in_err-check_answer.result (metamodel_under c.args.metamodel_name.now) _ _ _ _ c.in_ok-metamodel.ensures
    (gone_on c.in_ok-viewpoint.viewpoint c.from_residual-in_err-check_answer.result (viewpoint_under c.args.viewpoint_name.now) (λ content. gives (check_answer (checked c.in_ok-metamodel.metamodel content))) _ _ _ c.in_ok-viewpoint.ensures
    (went_nowhere c.from_residual-in_err-check_answer.result _ _ (short c.from_residual-in_err-check_answer.result _ c.from_residual-in_err-check_answer.ensures.1)))

pub returns : goal.returns
unfolding checking
returns g c =
    gone_on c.in_ok-metamodel.metamodel (Ok c.in_ok-check_answer.field-0) (metamodel_under c.args.metamodel_name.now) _ _ _ _ c.in_ok-metamodel.ensures
    (gone_on c.in_ok-viewpoint.viewpoint (Ok c.in_ok-check_answer.field-0) (viewpoint_under c.args.viewpoint_name.now) (λ content. gives (check_answer (checked c.in_ok-metamodel.metamodel content))) _ _ _ c.in_ok-viewpoint.ensures
    (went_nowhere (Ok c.in_ok-check_answer.field-0) (gives (check_answer (checked c.in_ok-metamodel.metamodel c.in_ok-viewpoint.viewpoint))) _ (ap (λ (a : Answer). Some (gives a)) (sym c.in_ok-check_answer.ensures))))
