use Rattle.wb_program.specs.Taking.{taken}
use Rattle.wb_viewpoint.specs.Reading.{viewpoint}
use Rattle.wb_program.specs.CodeNames.{viewpoint_code_name}
use Rattle.wb_program.specs.Reading.{or_refused}
use Rattle.wb_program.specs.Opening.{viewpoint_under}
use Rattle.wb_program.proofs.StepLemmas.{returned, stopped, gone_on, went_nowhere}
use Rattle.wb_program.proofs.opening.take_viewpoint.Goals as goal

pub returns-in_err-bytes : goal.returns-in_err-bytes
unfolding viewpoint_under
returns-in_err-bytes g c =
    returned c.from_residual.result c.in_err-bytes.field-0.0 _ _ _ c.from_residual.ensures.1
    (stopped c.in_err-bytes.field-0.0 (taken c.args.name.now) (λ bytes. or_refused viewpoint_code_name c.args.name.now (viewpoint bytes)) _ _ c.in_err-bytes.ensures)

pub returns : goal.returns
unfolding viewpoint_under
returns g c =
    gone_on c.in_ok-bytes.bytes c.viewpoint_in.result (taken c.args.name.now) (λ bytes. or_refused viewpoint_code_name c.args.name.now (viewpoint bytes)) _ _ _ c.in_ok-bytes.ensures
    (went_nowhere c.viewpoint_in.result _ _ c.viewpoint_in.ensures)
