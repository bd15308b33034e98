use Rattle.wb_aql_values.specs.declared.faults.Fault.TheVariants.{NotAnObject}
use Rattle.wb_aql_values.specs.Readings.{contents}
use Rattle.wb_aql_values.proofs.RunLemmas.{run_fail}
use Rattle.wb_aql_eval.specs.Features.{navigated}
use Rattle.wb_aql_eval.proofs.features.FeatureNamedOnScalars.of_scalar.Goals as goal

pub returns-in-Object : goal.returns-in-Object
unfolding navigated
returns-in-Object c = rw c.in-Object.is c.feature_of_object.ensures

pub returns-in-Int : goal.returns-in-Int
unfolding navigated
returns-in-Int c = rw c.in-Int.is (run_fail (contents c.args.model.now) NotAnObject c.args.reads.now)

pub returns-in-Bool : goal.returns-in-Bool
unfolding navigated
returns-in-Bool c = rw c.in-Bool.is (run_fail (contents c.args.model.now) NotAnObject c.args.reads.now)

pub returns-in-Text : goal.returns-in-Text
unfolding navigated
returns-in-Text c = rw c.in-Text.is (run_fail (contents c.args.model.now) NotAnObject c.args.reads.now)

pub returns-in-Literal : goal.returns-in-Literal
unfolding navigated
returns-in-Literal c = rw c.in-Literal.is (run_fail (contents c.args.model.now) NotAnObject c.args.reads.now)
