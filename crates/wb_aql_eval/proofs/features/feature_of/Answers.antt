use Rattle.wb_aql_values.specs.Bounds.{IsBounded}
use Rattle.wb_aql_values.specs.Readings.{contents}
use Rattle.wb_aql_eval.specs.Features.{feature_of}
use Rattle.wb_aql_eval.proofs.BoundedFeatures.{AreHeld, valid_held, feature_yields}
use Rattle.wb_aql_values.proofs.Yields.{gives_bounded}
use Rattle.wb_aql_eval.proofs.features.feature_of.Goals as goal

pub returns-clause-value : goal.returns-clause-value
unfolding feature_of
returns-clause-value c = c.lift.ensures

pub returns-clause-bounded : goal.returns-clause-bounded
unfolding feature_of
returns-clause-bounded c =
    gives_bounded (AreHeld c.args.model.now.metamodel) (IsBounded c.args.model.now.metamodel) (feature_of c.args.model.now.metamodel c.args.name.now c.args.receiver.now) (contents c.args.model.now) c.args.reads.now c.lift.result c.lift.new.reads
    (valid_held c.args.model.now c.valid.ensures) (feature_yields c.args.model.now.metamodel c.args.name.now c.args.receiver.now c.requires) c.lift.ensures
