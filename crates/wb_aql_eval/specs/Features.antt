-- Features of values.
use Rattle.std.specs.Prelude.{ℕ, Bool, true, false, List, [], ◌∷◌, Option, Some, None, Result, Ok, Err}
use Rattle.wb_metamodel.specs.Metamodel.{Metamodel, feature_named}
use Rattle.wb_store.specs.declared.scalars.Scalar.{Scalar}
use Rattle.wb_store.specs.declared.scalars.Scalar.TheVariants.{Object}
use Rattle.wb_store.specs.declared.scalars.Cell.TheVariants.{Slot}
use Rattle.wb_store.specs.Features.{is_many}
use Rattle.wb_aql_values.specs.declared.faults.Fault.{Fault}
use Rattle.wb_aql_values.specs.declared.faults.Fault.TheVariants.{NoFeature, NotAnObject}
use Rattle.wb_aql_values.specs.declared.values.Value.{Value}
use Rattle.wb_aql_values.specs.declared.values.Value.TheVariants.{Null, One, OrderedSet}
use Rattle.wb_aql_values.specs.Readings.{Reading, done, fail, held, given, class_of, lifted, ◌>>=◌}

-- a class without the feature
abbrev pub known : Option ℕ → Result ℕ Fault
known None = Err NoFeature
known (Some f) = Ok f

-- a many-valued feature shows its values as an ordered set, and a single one its value or null
abbrev pub shown : Bool → List Scalar → Value
shown true xs = OrderedSet xs
shown false [] = Null
shown false (x ∷ xs) = One x

-- the class of the object is read before its slot
unfoldable pub feature_of_object : Metamodel → List ℕ → ℕ → Reading Value
feature_of_object mm name o =
    class_of o >>= λ class. given (known (feature_named mm class name)) >>= λ f. held (Slot o f) >>= λ xs. done (shown (is_many mm f) xs)

-- what is no object has no features
unfoldable pub navigated : Metamodel → List ℕ → Scalar → Reading Value
navigated mm name (Object o) = feature_of_object mm name o
navigated mm name _ = fail NotAnObject

-- a feature of null is null, and of a collection it is taken of each member
unfoldable pub feature_of : Metamodel → List ℕ → Value → Reading Value
feature_of mm name v = lifted (done Null) (navigated mm name) v
