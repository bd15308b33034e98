use Rattle.wb_program.specs.Taking.{taken}
use Rattle.wb_model_json.specs.ModelFile.{model}
use Rattle.wb_program.specs.CodeNames.{model_code_name}
use Rattle.wb_program.specs.Reading.{or_refused}
use Rattle.wb_program.specs.Opening.{model_under}
use Rattle.wb_program.proofs.StepLemmas.{returned, stopped, gone_on, went_nowhere}
use Rattle.wb_program.proofs.opening.take_model.Goals as goal

pub returns-in_err-bytes-clause-went : goal.returns-in_err-bytes-clause-went
unfolding model_under
returns-in_err-bytes-clause-went g c =
    returned c.from_residual.result c.in_err-bytes.field-0.0 _ _ _ c.from_residual.ensures.1
    (stopped c.in_err-bytes.field-0.0 (taken c.args.name.now) (λ bytes. or_refused model_code_name c.args.name.now (model c.args.metamodel bytes)) _ _ c.in_err-bytes.ensures)

pub returns-clause-went : goal.returns-clause-went
unfolding model_under
returns-clause-went g c =
    gone_on c.in_ok-bytes.bytes c.model_in.result (taken c.args.name.now) (λ bytes. or_refused model_code_name c.args.name.now (model c.args.metamodel bytes)) _ _ _ c.in_ok-bytes.ensures
    (went_nowhere c.model_in.result _ _ c.model_in.ensures.reaches)
