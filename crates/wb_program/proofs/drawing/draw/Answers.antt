use Rattle.wb_program.specs.Opening.{metamodel_under, checked_under, model_under, picture_from, drawing}
use Rattle.wb_program.proofs.StepLemmas.{returned, stopped, gone_on, went_nowhere}
use Rattle.wb_program.proofs.drawing.draw.Goals as goal

pub returns-in_err-metamodel : goal.returns-in_err-metamodel
unfolding drawing
returns-in_err-metamodel g c =
    returned c.from_residual.result c.in_err-metamodel.field-0.0 _ _ _ c.from_residual.ensures.1
    (stopped c.in_err-metamodel.field-0.0 (metamodel_under c.args.sources.metamodel.now) _ _ _ c.in_err-metamodel.ensures)

pub returns-in_err-spec : goal.returns-in_err-spec
unfolding drawing
returns-in_err-spec g c =
    returned c.from_residual-in_err-spec.result c.in_err-spec.field-0.0 _ _ _ c.from_residual-in_err-spec.ensures.1
    (gone_on c.in_ok-metamodel.metamodel _ (metamodel_under c.args.sources.metamodel.now) _ _ _ _ c.in_ok-metamodel.ensures
    (stopped c.in_err-spec.field-0.0 (checked_under c.in_ok-metamodel.metamodel c.args.sources.viewpoint.now) _ _ _ c.in_err-spec.ensures.went))

pub returns-in_err-model : goal.returns-in_err-model
unfolding drawing
returns-in_err-model g c =
    returned c.from_residual-in_err-model.result c.in_err-model.field-0.0 _ _ _ c.from_residual-in_err-model.ensures.1
    (gone_on c.in_ok-metamodel.metamodel _ (metamodel_under c.args.sources.metamodel.now) _ _ _ _ c.in_ok-metamodel.ensures
    (gone_on c.in_ok-spec.spec _ (checked_under c.in_ok-metamodel.metamodel c.args.sources.viewpoint.now) _ _ _ _ c.in_ok-spec.ensures.went
    (stopped c.in_err-model.field-0.0 (model_under c.in_ok-metamodel.metamodel c.args.sources.model.now) (picture_from c.args.sources.model.now c.in_ok-spec.spec) _ _ c.in_err-model.ensures.went)))

pub returns : goal.returns
unfolding drawing
returns g c =
    gone_on c.in_ok-metamodel.metamodel c.picture_from.result (metamodel_under c.args.sources.metamodel.now) _ _ _ _ c.in_ok-metamodel.ensures
    (gone_on c.in_ok-spec.spec c.picture_from.result (checked_under c.in_ok-metamodel.metamodel c.args.sources.viewpoint.now) _ _ _ _ c.in_ok-spec.ensures.went
    (gone_on c.in_ok-model.model c.picture_from.result (model_under c.in_ok-metamodel.metamodel c.args.sources.model.now) (picture_from c.args.sources.model.now c.in_ok-spec.spec) _ _ _ c.in_ok-model.ensures.went
    (went_nowhere c.picture_from.result _ _ c.picture_from.ensures)))
