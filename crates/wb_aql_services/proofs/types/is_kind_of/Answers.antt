use Rattle.std.proofs.Common.{Ok, sym, ap, ◌∙◌}
use Rattle.wb_aql_values.specs.Readings.{contents, done}
use Rattle.wb_aql_values.specs.Runs.{run}
use Rattle.wb_aql_values.proofs.RunLemmas.{returned}
use Rattle.wb_aql_services.proofs.FirstLooks.{first_none, first_stopped, first_next}
use Rattle.std.proofs.Common.{false}
use Rattle.wb_aql_services.specs.Types.{conforms_to, tested}
use Rattle.wb_aql_values.specs.Values.{flag}
use Rattle.wb_aql_services.proofs.types.is_kind_of.Goals as goal

pub returns-in_default : goal.returns-in_default
unfolding tested run
returns-in_default c = first_none (λ o k. done (flag (conforms_to c.args.model.now.metamodel c.args.asked.now k))) (done (flag false)) (contents c.args.model.now) c.args.x.now c.args.reads.now (sym c.object_in.ensures ∙ c.in_default.is)
    ∙ ap (λ v. record { gave = Ok v; reads = c.args.reads.now }) (sym c.flag.ensures)

pub returns-in_err-class : goal.returns-in_err-class
unfolding tested
returns-in_err-class c =
    returned _ c.from_residual.result c.in_err-class.field-0.0 c.look_at_class.new.reads c.from_residual.ensures.1
    (first_stopped (λ o k. done (flag (conforms_to c.args.model.now.metamodel c.args.asked.now k))) (done (flag false)) (contents c.args.model.now) c.args.x.now c.in-Some.o c.args.reads.now c.in_err-class.field-0.0 c.look_at_class.new.reads (sym c.in-Some.ensures) c.in_err-class.ensures.class)

pub returns : goal.returns
unfolding tested run
returns c = first_next (λ o k. done (flag (conforms_to c.args.model.now.metamodel c.args.asked.now k))) (done (flag false)) (contents c.args.model.now) c.args.x.now c.in-Some.o c.args.reads.now c.in_ok-class.class c.look_at_class.new.reads (sym c.in-Some.ensures) c.in_ok-class.ensures.class
    ∙ ap (λ b. record { gave = Ok (flag b); reads = c.look_at_class.new.reads }) (ap (λ mm. conforms_to mm c.args.asked.now c.in_ok-class.class) (sym c.metamodel.ensures) ∙ sym c.conforms_to.ensures)
    ∙ ap (λ v. record { gave = Ok v; reads = c.look_at_class.new.reads }) (sym c.flag-2.ensures)
