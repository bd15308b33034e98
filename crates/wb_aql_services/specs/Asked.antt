-- What a service is asked for between its parentheses.
use Rattle.std.specs.Prelude.{⊤, ◌<◌, ℕ, List, [], ◌∷◌, length, Option, None, Some}
use Rattle.wb_metamodel.specs.Metamodel.{Metamodel}
use Rattle.wb_aql_values.specs.declared.values.Value.{Value}
use Rattle.wb_aql_values.specs.declared.values.Value.TheVariants.{Null}
use Rattle.wb_aql_values.specs.Bounds.{IsBounded}
use Rattle.wb_aql_services.specs.declared.arguments.Argument.{Argument}
use Rattle.wb_aql_services.specs.declared.arguments.Argument.TheVariants.{Class, Of}

-- the type that is asked for, if one is
abbrev pub type_in : List Argument → Option ℕ
type_in [] = None
type_in (Class c ∷ arguments) = Some c
type_in (Of value ∷ arguments) = None

-- the value that is handed in; null where none is
abbrev pub value_in : List Argument → Value
value_in [] = Null
value_in (Class c ∷ arguments) = Null
value_in (Of value ∷ arguments) = value

-- a class of the metamodel, or a value within its bounds
abbrev pub IsArgument : Metamodel → Argument → Type 0
IsArgument mm (Class c) = c < length mm.classes
IsArgument mm (Of value) = IsBounded mm value

-- is a type a class of the metamodel, where there is one?
abbrev pub IsType : Metamodel → Option ℕ → Type 0
IsType mm None = ⊤
IsType mm (Some c) = c < length mm.classes
