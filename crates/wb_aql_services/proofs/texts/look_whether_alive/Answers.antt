use Rattle.std.proofs.Common.{sym, ◌∙◌}
use Rattle.wb_aql_values.specs.Readings.{contents, done}
use Rattle.wb_aql_values.specs.Runs.{run}
use Rattle.wb_aql_values.proofs.RunLemmas.{returned}
use Rattle.wb_aql_services.specs.Texts.{alive}
use Rattle.wb_aql_services.proofs.FirstLooks.{first_none, first_stopped, first_next}
use Rattle.wb_aql_services.proofs.texts.look_whether_alive.Goals as goal

pub returns-in_default : goal.returns-in_default
unfolding alive run
returns-in_default c = first_none (λ o k. done tt) (done tt) (contents c.args.model.now) c.args.x.now c.args.reads.now (sym c.object_in.ensures ∙ c.in_default.is)

pub returns-in_err-look_at_class : goal.returns-in_err-look_at_class
unfolding alive
returns-in_err-look_at_class c =
    returned _ c.from_residual.result c.in_err-look_at_class.field-0.0 c.look_at_class.new.reads c.from_residual.ensures.1
    (first_stopped (λ o k. done tt) (done tt) (contents c.args.model.now) c.args.x.now c.in-Some.o c.args.reads.now c.in_err-look_at_class.field-0.0 c.look_at_class.new.reads (sym c.in-Some.ensures) c.in_err-look_at_class.ensures.class)

pub returns : goal.returns
unfolding alive run
returns c =
    first_next (λ o k. done tt) (done tt) (contents c.args.model.now) c.args.x.now c.in-Some.o c.args.reads.now c.in_ok-look_at_class.field-0 c.look_at_class.new.reads (sym c.in-Some.ensures) c.in_ok-look_at_class.ensures.class
