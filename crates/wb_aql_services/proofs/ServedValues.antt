-- What a service gives is within the bounds of a value.
use Rattle.std.specs.Prelude.{⊤}
use Rattle.std.proofs.Common.{List, Result, IfOk}
use Rattle.wb_store.specs.declared.scalars.Cell.{Cell}
use Rattle.wb_store.specs.Contents.{Contents}
use Rattle.wb_aql_check.specs.declared.services.Service.{Service}
use Rattle.wb_aql_services.specs.declared.arguments.Argument.{Argument}
use Rattle.wb_aql_services.specs.Asked.{value_in}
use Rattle.wb_aql_services.specs.Services.{meaning}
use Rattle.wb_aql_values.specs.declared.faults.Halt.{Halt}
use Rattle.wb_aql_values.specs.declared.values.Value.{Value}
use Rattle.wb_aql_values.specs.Bounds.{IsBounded}
use Rattle.wb_aql_values.specs.Readings.{contents}
use Rattle.wb_aql_values.specs.Runs.{Gives, run}
use Rattle.wb_aql_services.proofs.BoundedServices.{service_of}
use Rattle.wb_aql_values.proofs.Yields.{gives_bounded}

pub service_bounded : (m : Contents) (service : Service) (r : Value) (arguments : List Argument) (old : List Cell) (result : Result Value Halt) (reads : List Cell) →
    IsBounded m.metamodel r → IsBounded m.metamodel (value_in arguments) → Gives (run (meaning m.metamodel service r arguments) (contents m) old) result reads → IfOk result (IsBounded m.metamodel)
service_bounded m service r arguments old result reads h b e =
    gives_bounded (λ c x. ⊤) (IsBounded m.metamodel) (meaning m.metamodel service r arguments) (contents m) old result reads (λ c. tt) (service_of m.metamodel (λ c x. ⊤) service r arguments h b) e
