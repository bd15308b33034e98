use Rattle.std.proofs.Common.{subst}
use Rattle.wb_aql_values.specs.Readings.{contents}
use Rattle.wb_aql_values.specs.Runs.{Gives, run}
use Rattle.wb_aql_values.proofs.RunLemmas.{gives_next, returned, stopped}
use Rattle.wb_aql_services.specs.Navigation.{content, e_contents, sequence}
use Rattle.wb_aql_services.proofs.downwards.e_contents.Goals as goal

pub returns-in_err-os : goal.returns-in_err-os
unfolding e_contents
returns-in_err-os c =
    returned _ c.from_residual.result c.in_err-os.field-0.0 c.content.new.reads c.from_residual.ensures.1
    (stopped (sequence c.args.model.now.metamodel c.args.asked.now) (contents c.args.model.now) (content c.args.model.now.metamodel c.args.o c.args.class) c.args.reads.now c.in_err-os.field-0.0 c.content.new.reads c.in_err-os.ensures)

pub returns : goal.returns
unfolding e_contents
returns c =
    gives_next (sequence c.args.model.now.metamodel c.args.asked.now) (contents c.args.model.now) (content c.args.model.now.metamodel c.args.o c.args.class) c.args.reads.now c.in_ok-os.os c.content.new.reads c.sequence.result c.sequence.new.reads c.in_ok-os.ensures
    (subst (λ os. Gives (run (sequence c.args.model.now.metamodel c.args.asked.now os) (contents c.args.model.now) c.content.new.reads) c.sequence.result c.sequence.new.reads) (c.as_slice.ensures) c.sequence.ensures)
