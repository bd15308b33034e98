use Rattle.std.proofs.Common.{ap}
use Rattle.wb_aql_values.specs.Readings.{contents}
use Rattle.wb_aql_values.specs.Runs.{run}
use Rattle.wb_aql_services.specs.Navigation.{e_container}
use Rattle.wb_aql_services.proofs.Choices.{as_given}
use Rattle.wb_aql_services.proofs.Sequencing.{asked_nearest}
use Rattle.wb_aql_services.proofs.upwards.e_container.Goals as goal

pub returns-in-None : goal.returns-in-None
unfolding e_container
returns-in-None c =
    as_given _ _ c.container.result c.container.new.reads (ap (λ t. run (e_container c.args.model.now.metamodel t c.args.o) (contents c.args.model.now) c.args.reads.now) c.in-None.is) c.container.ensures

pub returns-in-Some : goal.returns-in-Some
returns-in-Some c =
    as_given _ _ c.nearest.result c.nearest.new.reads (asked_nearest c.args.model.now.metamodel c.args.asked.now (contents c.args.model.now) c.args.o c.args.reads.now c.in-Some.is) c.nearest.ensures
