use Rattle.wb_aql_values.specs.Readings.{contents, class_of}
use Rattle.wb_aql_values.proofs.RunLemmas.{gives_next, returned, stopped}
use Rattle.wb_aql_services.specs.Navigation.{content, content_of}
use Rattle.wb_aql_services.proofs.sidewards.content_of.Goals as goal

pub returns-in_err-class : goal.returns-in_err-class
unfolding content_of
returns-in_err-class c =
    returned _ c.from_residual.result c.in_err-class.field-0.0 c.look_at_class.new.reads c.from_residual.ensures.1
    (stopped (content c.args.model.now.metamodel c.args.o) (contents c.args.model.now) (class_of c.args.o) c.args.reads.now c.in_err-class.field-0.0 c.look_at_class.new.reads c.in_err-class.ensures.class)

pub returns : goal.returns
unfolding content_of
returns c =
    gives_next (content c.args.model.now.metamodel c.args.o) (contents c.args.model.now) (class_of c.args.o) c.args.reads.now c.in_ok-class.class c.look_at_class.new.reads c.content.result c.content.new.reads
    c.in_ok-class.ensures.class c.content.ensures
