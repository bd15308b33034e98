-- The faults of units.
use Rattle.std.specs.Prelude.{ℕ, Bool, true, false, not, is_some, ◌&&◌, List, codes, Option, Some, None, option_map, if◌then◌else◌}
use Rattle.std.specs.List.{filter_map}
use Rattle.wb_metamodel.specs.Metamodel.{Metamodel}
use Rattle.wb_store.specs.declared.scalars.Scalar.TheVariants.{Bool as Boolean}
use Rattle.wb_diagram.specs.declared.diagrams.Problem.{Problem}
use Rattle.wb_diagram.specs.declared.units.Unit.{Unit}
use Rattle.wb_diagram.specs.declared.units.Unit.TheVariants.{Precondition, EdgePrecondition, Style, Label, Filter}
use Rattle.wb_aql_values.specs.TextForms.{text_form}
use Rattle.wb_aql_values.specs.declared.faults.Fault.{Fault}
use Rattle.wb_aql_values.specs.declared.faults.Fault.TheVariants.{NotAnObject, NoFeature, NotBool, NotInt, Overflow, DivideByZero, TooLong, TextTooLong, DeadObject}
use Rattle.wb_aql_values.specs.declared.values.Answer.{Answer}
use Rattle.wb_aql_values.specs.declared.values.Answer.TheVariants as a
use Rattle.wb_aql_values.specs.declared.values.Value.{Value}
use Rattle.wb_aql_values.specs.declared.values.Value.TheVariants.{One}
use Rattle.wb_answers.specs.declared.rows.Row.{Row}

abbrev pub fault_name : Fault → List ℕ
fault_name NotAnObject = codes "NotAnObject"
fault_name NoFeature = codes "NoFeature"
fault_name NotBool = codes "NotBool"
fault_name NotInt = codes "NotInt"
fault_name Overflow = codes "Overflow"
fault_name DivideByZero = codes "DivideByZero"
fault_name TooLong = codes "TooLong"
fault_name TextTooLong = codes "TextTooLong"
fault_name DeadObject = codes "DeadObject"

-- preconditions, styles and filters are to be true or false
abbrev pub wants_bool : Unit → Bool
wants_bool (Precondition key) = true
wants_bool (EdgePrecondition pair) = true
wants_bool (Style style key) = true
wants_bool (Filter filter key) = true
wants_bool _ = false

abbrev pub is_bool : Value → Bool
is_bool (One (Boolean b)) = true
is_bool _ = false

-- the fault of a unit that has a value: a label has none without a text form, and what is to be true or false none where it is neither
abbrev pub fault_in_value : Metamodel → Unit → Value → Option Fault
fault_in_value mm (Label style key) value = if is_some (text_form mm value) then None else Some TextTooLong
fault_in_value mm unit value = if wants_bool unit && not (is_bool value) then Some NotBool else None

abbrev pub fault_in : Metamodel → Unit → Answer → Option Fault
fault_in mm unit (a.Value value) = fault_in_value mm unit value
fault_in mm unit (a.Fault fault) = Some fault

-- the problem of a unit with its outcome
abbrev pub problem_of : Metamodel → Row → Option Problem
problem_of mm row = option_map (λ fault. record { at = row.unit; fault = fault_name fault }) (fault_in mm row.unit row.outcome.answer)

-- the problems, in the order of the units
abbrev pub problems_of : Metamodel → List Row → List Problem
problems_of mm rows = filter_map (problem_of mm) rows
