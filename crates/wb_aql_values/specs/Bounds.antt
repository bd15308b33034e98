-- The bounds of a value: what every value that is handed in or made is within.
use Rattle.std.specs.Prelude.{◌≡◌, ⊤, ◌≤◌, Bool, true, nat_le, nat_lt, ◌&&◌, List, length}
use Rattle.std.specs.List.{list_all}
use Rattle.wb_metamodel.specs.Metamodel.{Metamodel, literals_of}
use Rattle.wb_store.specs.declared.scalars.Scalar.{Scalar}
use Rattle.wb_store.specs.declared.scalars.Scalar.TheVariants.{Int, Bool as Boolean, Text, Literal, Object}
use Rattle.wb_validity.specs.Valid.{differ}
use Rattle.wb_aql_values.specs.declared.values.Value.{Value}
use Rattle.wb_aql_values.specs.declared.values.Value.TheVariants.{Null, One, Sequence, OrderedSet}

-- a text has at most 65,536 bytes, and a literal is one of the metamodel
abbrev pub is_bounded : Metamodel → Scalar → Bool
is_bounded mm (Int n) = true
is_bounded mm (Boolean b) = true
is_bounded mm (Text bytes) = nat_le (length bytes) 65536
is_bounded mm (Literal e l) = nat_lt e (length mm.enumerations) && nat_lt l (length (literals_of mm e))
is_bounded mm (Object o) = true

-- a list of at most 65,536 members that are within their bounds
pub record AreBounded (mm : Metamodel) (xs : List Scalar) : Type 0 where
  pub not_long : length xs ≤ 65536
  pub bounded : list_all (is_bounded mm) xs ≡ true

-- an ordered set, moreover, has no member twice
abbrev pub IsBounded : Metamodel → Value → Type 0
IsBounded mm Null = ⊤
IsBounded mm (One x) = is_bounded mm x ≡ true
IsBounded mm (Sequence xs) = AreBounded mm xs
IsBounded mm (OrderedSet xs) = AreBounded mm xs × (differ xs ≡ true)
