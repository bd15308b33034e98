use Rattle.wb_program.specs.Taking.{taken}
use Rattle.wb_metamodel.specs.Checks.{metamodel}
use Rattle.wb_program.specs.CodeNames.{metamodel_code_name}
use Rattle.wb_program.specs.Reading.{or_refused}
use Rattle.wb_program.specs.Opening.{metamodel_under}
use Rattle.wb_program.proofs.StepLemmas.{returned, stopped, gone_on, went_nowhere}
use Rattle.wb_program.proofs.opening.take_metamodel.Goals as goal

pub returns-in_err-bytes : goal.returns-in_err-bytes
unfolding metamodel_under
returns-in_err-bytes g c =
    returned c.from_residual.result c.in_err-bytes.field-0.0 _ _ _ c.from_residual.ensures.1
    (stopped c.in_err-bytes.field-0.0 (taken c.args.name.now) (λ bytes. or_refused metamodel_code_name c.args.name.now (metamodel bytes)) _ _ c.in_err-bytes.ensures)

pub returns : goal.returns
unfolding metamodel_under
returns g c =
    gone_on c.in_ok-bytes.bytes c.metamodel_in.result (taken c.args.name.now) (λ bytes. or_refused metamodel_code_name c.args.name.now (metamodel bytes)) _ _ _ c.in_ok-bytes.ensures
    (went_nowhere c.metamodel_in.result _ _ c.metamodel_in.ensures)
