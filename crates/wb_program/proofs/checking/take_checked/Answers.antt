use Rattle.wb_spec_check.specs.Checked.{checked}
use Rattle.wb_program.specs.Checking.{or_bad}
use Rattle.wb_program.specs.Opening.{viewpoint_under, checked_under}
use Rattle.wb_program.proofs.StepLemmas.{returned, stopped, gone_on, went_nowhere}
use Rattle.wb_program.proofs.checking.take_checked.Goals as goal

pub returns-in_err-viewpoint-clause-went : goal.returns-in_err-viewpoint-clause-went
unfolding checked_under
returns-in_err-viewpoint-clause-went g c =
    returned c.from_residual.result c.in_err-viewpoint.field-0.0 _ _ _ c.from_residual.ensures.1
    (stopped c.in_err-viewpoint.field-0.0 (viewpoint_under c.args.name.now) (λ content. or_bad c.args.name.now content (checked c.args.metamodel.now content)) _ _ c.in_err-viewpoint.ensures)

pub returns-clause-went : goal.returns-clause-went
unfolding checked_under
returns-clause-went g c =
    gone_on c.in_ok-viewpoint.viewpoint c.good_viewpoint.result (viewpoint_under c.args.name.now) (λ content. or_bad c.args.name.now content (checked c.args.metamodel.now content)) _ _ _ c.in_ok-viewpoint.ensures
    (went_nowhere c.good_viewpoint.result _ _ c.good_viewpoint.ensures.reaches)
