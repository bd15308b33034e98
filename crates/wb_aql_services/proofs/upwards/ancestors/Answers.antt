use Rattle.std.proofs.Common.{[], subst}
use Rattle.wb_aql_values.specs.Readings.{contents}
use Rattle.wb_aql_values.specs.Runs.{Gives, run}
use Rattle.wb_aql_values.proofs.RunLemmas.{gives_next, returned, stopped}
use Rattle.wb_aql_services.specs.Navigation.{ancestors, climbed, height, sequence}
use Rattle.wb_aql_services.proofs.upwards.ancestors.Goals as goal

pub returns-in_err-met : goal.returns-in_err-met
unfolding ancestors
returns-in_err-met c =
    returned _ c.from_residual.result c.in_err-met.field-0.0 c.climbed.new.reads c.from_residual.ensures.1
    (stopped (sequence c.args.model.now.metamodel c.args.asked.now) (contents c.args.model.now) (climbed height [] c.args.o) c.args.reads.now c.in_err-met.field-0.0 c.climbed.new.reads c.in_err-met.ensures)

pub returns : goal.returns
unfolding ancestors
returns c =
    gives_next (sequence c.args.model.now.metamodel c.args.asked.now) (contents c.args.model.now) (climbed height [] c.args.o) c.args.reads.now c.in_ok-met.met c.climbed.new.reads c.sequence.result c.sequence.new.reads c.in_ok-met.ensures
    (subst (λ os. Gives (run (sequence c.args.model.now.metamodel c.args.asked.now os) (contents c.args.model.now) c.climbed.new.reads) c.sequence.result c.sequence.new.reads) (c.as_slice.ensures) c.sequence.ensures)
