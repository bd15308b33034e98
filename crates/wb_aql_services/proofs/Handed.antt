-- What is handed to a service is within its bounds.
use Rattle.std.proofs.Common.{List, [], ◌∷◌, All, arith}
use Rattle.wb_metamodel.specs.Metamodel.{Metamodel}
use Rattle.wb_aql_values.specs.Bounds.{IsBounded}
use Rattle.wb_aql_services.specs.declared.arguments.Argument.{Argument}
use Rattle.wb_aql_services.specs.declared.arguments.Argument.TheVariants.{Class, Of}
use Rattle.wb_aql_services.specs.Asked.{IsArgument, IsType, type_in, value_in}

pub handed_type : (mm : Metamodel) (arguments : List Argument) → All (IsArgument mm) arguments → IsType mm (type_in arguments)
handed_type mm [] h = tt
handed_type mm (Class c ∷ arguments) h = h 0 (Class c) (omega arith)
handed_type mm (Of value ∷ arguments) h = tt

pub handed_value : (mm : Metamodel) (arguments : List Argument) → All (IsArgument mm) arguments → IsBounded mm (value_in arguments)
handed_value mm [] h = tt
handed_value mm (Class c ∷ arguments) h = tt
handed_value mm (Of value ∷ arguments) h = h 0 (Of value) (omega arith)
