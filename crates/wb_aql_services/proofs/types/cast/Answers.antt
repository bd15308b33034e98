use Rattle.std.proofs.Common.{Ok, sym, ap, ◌∙◌, if◌then◌else◌}
use Rattle.wb_aql_values.specs.Readings.{contents, done}
use Rattle.wb_aql_values.specs.Runs.{run}
use Rattle.wb_aql_values.proofs.RunLemmas.{returned}
use Rattle.wb_aql_services.proofs.FirstLooks.{first_none, first_stopped, first_next}
use Rattle.wb_store.specs.declared.scalars.Scalar.TheVariants.{Object}
use Rattle.wb_aql_values.specs.declared.values.Value.TheVariants.{Null, One}
use Rattle.wb_aql_services.specs.Types.{as_type, conforms_to}
use Rattle.wb_aql_services.proofs.types.cast.Goals as goal

pub returns-in_default : goal.returns-in_default
unfolding as_type run
returns-in_default c = first_none (λ o k. done (if conforms_to c.args.model.now.metamodel c.args.asked.now k then One (Object o) else Null)) (done Null) (contents c.args.model.now) c.args.x.now c.args.reads.now (sym c.object_in.ensures ∙ c.in_default.is)

pub returns-in_err-class : goal.returns-in_err-class
unfolding as_type
returns-in_err-class c =
    returned _ c.from_residual.result c.in_err-class.field-0.0 c.look_at_class.new.reads c.from_residual.ensures.1
    (first_stopped (λ o k. done (if conforms_to c.args.model.now.metamodel c.args.asked.now k then One (Object o) else Null)) (done Null) (contents c.args.model.now) c.args.x.now c.in-Some.o c.args.reads.now c.in_err-class.field-0.0 c.look_at_class.new.reads (sym c.in-Some.ensures) c.in_err-class.ensures.class)

pub returns-then-conforms_to : goal.returns-then-conforms_to
unfolding as_type run
returns-then-conforms_to c = first_next (λ o k. done (if conforms_to c.args.model.now.metamodel c.args.asked.now k then One (Object o) else Null)) (done Null) (contents c.args.model.now) c.args.x.now c.in-Some.o c.args.reads.now c.in_ok-class.class c.look_at_class.new.reads (sym c.in-Some.ensures) c.in_ok-class.ensures.class
    ∙ ap (λ b. record { gave = Ok (if b then One (Object c.in-Some.o) else Null); reads = c.look_at_class.new.reads }) (ap (λ mm. conforms_to mm c.args.asked.now c.in_ok-class.class) (sym c.metamodel.ensures) ∙ (sym c.conforms_to.ensures ∙ c.if-conforms_to.true))

pub returns-else-conforms_to : goal.returns-else-conforms_to
unfolding as_type run
returns-else-conforms_to c = first_next (λ o k. done (if conforms_to c.args.model.now.metamodel c.args.asked.now k then One (Object o) else Null)) (done Null) (contents c.args.model.now) c.args.x.now c.in-Some.o c.args.reads.now c.in_ok-class.class c.look_at_class.new.reads (sym c.in-Some.ensures) c.in_ok-class.ensures.class
    ∙ ap (λ b. record { gave = Ok (if b then One (Object c.in-Some.o) else Null); reads = c.look_at_class.new.reads }) (ap (λ mm. conforms_to mm c.args.asked.now c.in_ok-class.class) (sym c.metamodel.ensures) ∙ (sym c.conforms_to.ensures ∙ c.if-conforms_to.false))
