-- What conforms to a type.
use Rattle.std.specs.Prelude.{ℕ, Bool, true, false, nat_eq, List, [], ◌∷◌, ◌++◌, Option, None, Some, if◌then◌else◌}
use Rattle.std.specs.Option.{option_map_or}
use Rattle.wb_metamodel.specs.Metamodel.{Metamodel, conforms}
use Rattle.wb_store.specs.declared.scalars.Scalar.{Scalar}
use Rattle.wb_store.specs.declared.scalars.Scalar.TheVariants.{Int, Bool as Boolean, Text, Literal, Object}
use Rattle.wb_store.specs.declared.scalars.Cell.TheVariants.{Kind}
use Rattle.wb_aql_values.specs.declared.values.Value.{Value}
use Rattle.wb_aql_values.specs.declared.values.Value.TheVariants.{Null, One}
use Rattle.wb_aql_values.specs.Values.{flag}
use Rattle.wb_aql_values.specs.Readings.{Reading, done, ◌>>=◌, held, each, class_of}

-- does a class conform to a type? Every class does where no type is asked for.
abbrev pub conforms_to : Metamodel → Option ℕ → ℕ → Bool
conforms_to mm None c = true
conforms_to mm (Some t) c = conforms mm c t

-- is it the type itself?
abbrev pub is_exactly : Option ℕ → ℕ → Bool
is_exactly None c = true
is_exactly (Some t) c = nat_eq c t

-- is there a class, and does it conform to the type?
abbrev pub is_of : Metamodel → Option ℕ → Option ℕ → Bool
is_of mm t kind = option_map_or (conforms_to mm t) kind false

-- the object that a scalar is, if it is one
abbrev pub object_in : Scalar → Option ℕ
object_in (Object o) = Some o
object_in (Int i) = None
object_in (Boolean b) = None
object_in (Text bytes) = None
object_in (Literal e l) = None

-- a live object that conforms to the type is kept; what is no object is dropped without a look
unfoldable pub keep : Metamodel → Option ℕ → List Scalar → Scalar → Reading (List Scalar)
keep mm t xs x = option_map_or (λ o. held (Kind o) >>= λ kind. done (if is_of mm t kind then xs ++ Object o ∷ [] else xs)) (object_in x) (done xs)

-- the live objects that conform to a type, in order
unfoldable pub kept : Metamodel → Option ℕ → List Scalar → Reading (List Scalar)
kept mm t xs = each (keep mm t) [] xs

-- all of them where no type is asked for
abbrev pub narrowed : Metamodel → Option ℕ → List Scalar → Reading (List Scalar)
narrowed mm None xs = done xs
narrowed mm (Some t) xs = kept mm (Some t) xs

-- `oclIsKindOf` and `oclIsTypeOf`: a test of an object's class; what is no object is of no class
unfoldable pub tested : (ℕ → Bool) → Scalar → Reading Value
tested test x = option_map_or (λ o. class_of o >>= λ c. done (flag (test c))) (object_in x) (done (flag false))

-- `oclAsType`: the object where it conforms, and else null
unfoldable pub as_type : Metamodel → Option ℕ → Scalar → Reading Value
as_type mm t x = option_map_or (λ o. class_of o >>= λ c. done (if conforms_to mm t c then One (Object o) else Null)) (object_in x) (done Null)
