use Rattle.wb_aql_values.specs.Readings.{contents}
use Rattle.wb_aql_values.specs.declared.values.Value.TheVariants.{Null}
use Rattle.wb_aql_values.proofs.RunLemmas.{run_done}
use Rattle.wb_aql_eval.proofs.features.FeatureNamedOnScalars.of_null.Goals as goal

pub returns : goal.returns
returns c = run_done (contents c.args._model.now) Null c.args._reads.now
