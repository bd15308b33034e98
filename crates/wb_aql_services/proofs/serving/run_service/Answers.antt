use Rattle.std.proofs.Common.{sym, subst}
use Rattle.wb_aql_values.specs.Bounds.{IsBounded}
use Rattle.wb_aql_values.specs.Readings.{contents}
use Rattle.wb_aql_values.specs.Runs.{run}
use Rattle.wb_aql_services.specs.Asked.{IsType}
use Rattle.wb_aql_services.specs.Services.{meaning, on_receiver}
use Rattle.wb_aql_services.proofs.Choices.{as_given}
use Rattle.wb_aql_services.proofs.Handed.{handed_type, handed_value}
use Rattle.wb_aql_services.proofs.ServedValues.{service_bounded}
use Rattle.wb_aql_services.proofs.serving.run_service.Goals as goal

pub on_receiver-requires-clause-asked : goal.on_receiver-requires-clause-asked
on_receiver-requires-clause-asked c =
    subst (λ t. IsType c.args.model.now.metamodel t) (sym c.type_in-asked.ensures) (handed_type c.args.model.now.metamodel c.args.arguments.now c.requires.arguments)

pub on_receiver-requires-clause-value : goal.on_receiver-requires-clause-value
on_receiver-requires-clause-value c =
    subst (λ v. IsBounded c.args.model.now.metamodel v) (sym c.value_in-value.ensures) (handed_value c.args.model.now.metamodel c.args.arguments.now c.requires.arguments)

pub returns-clause-gives : goal.returns-clause-gives
unfolding meaning
returns-clause-gives c =
    as_given _ _ c.on_receiver.result c.on_receiver.new.reads
    (λ i. run (on_receiver c.args.model.now.metamodel c.args.service (sym c.type_in-asked.ensures i) (sym c.value_in-value.ensures i) c.args.receiver.now) (contents c.args.model.now) c.args.reads.now)
    c.on_receiver.ensures

pub returns-clause-bounded : goal.returns-clause-bounded
returns-clause-bounded c =
    service_bounded c.args.model.now c.args.service c.args.receiver.now c.args.arguments.now c.args.reads.now c.on_receiver.result c.on_receiver.new.reads c.requires.receiver
    (handed_value c.args.model.now.metamodel c.args.arguments.now c.requires.arguments) (returns-clause-gives c)
