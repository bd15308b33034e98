use Rattle.std.proofs.Common.{sym, ◌∙◌}
use Rattle.wb_aql_values.specs.declared.faults.Fault.TheVariants.{NotAnObject}
use Rattle.wb_aql_values.specs.Readings.{contents, fail}
use Rattle.wb_aql_values.specs.Runs.{run}
use Rattle.wb_aql_values.proofs.RunLemmas.{returned}
use Rattle.wb_aql_services.specs.Navigation.{from_object, of_object}
use Rattle.wb_aql_services.proofs.Choices.{as_given}
use Rattle.wb_aql_services.proofs.FirstLooks.{first_none, first_stopped, first_next}
use Rattle.wb_aql_services.proofs.by_dot.of_object.Goals as goal

pub returns-in_default : goal.returns-in_default
unfolding of_object run
returns-in_default c =
    first_none (from_object c.args.model.now.metamodel c.args.navigation c.args.asked.now) (fail NotAnObject) (contents c.args.model.now) c.args.x.now c.args.reads.now (sym c.object_in.ensures ∙ c.in_default.is)

pub returns-in_err-class : goal.returns-in_err-class
unfolding of_object
returns-in_err-class c =
    returned _ c.from_residual.result c.in_err-class.field-0.0 c.look_at_class.new.reads c.from_residual.ensures.1
    (first_stopped (from_object c.args.model.now.metamodel c.args.navigation c.args.asked.now) (fail NotAnObject) (contents c.args.model.now) c.args.x.now c.in-Some.o c.args.reads.now
    c.in_err-class.field-0.0 c.look_at_class.new.reads (sym c.in-Some.ensures) c.in_err-class.ensures.class)

pub returns : goal.returns
unfolding of_object
returns c =
    as_given _ _ c.from_object.result c.from_object.new.reads
    (first_next (from_object c.args.model.now.metamodel c.args.navigation c.args.asked.now) (fail NotAnObject) (contents c.args.model.now) c.args.x.now c.in-Some.o c.args.reads.now
    c.in_ok-class.class c.look_at_class.new.reads (sym c.in-Some.ensures) c.in_ok-class.ensures.class)
    c.from_object.ensures
