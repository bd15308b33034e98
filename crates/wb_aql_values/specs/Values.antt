-- Values of expressions: when two are equal, and how they are put together.
use Rattle.std.specs.Prelude.{Bool, true, false, nat_le, List, [], ◌∷◌, ◌++◌, fold, length, Result, Ok, Err, if◌then◌else◌}
use Rattle.std.specs.List.{list_any}
use Rattle.std.specs.Cmp.Lexicographic.{pointwise}
use Rattle.wb_store.specs.declared.scalars.Scalar.{Scalar}
use Rattle.wb_store.specs.declared.scalars.Scalar.TheVariants.{Bool as Boolean}
use Rattle.wb_store.specs.Scalars.{same}
use Rattle.wb_aql_values.specs.declared.faults.Fault.{Fault}
use Rattle.wb_aql_values.specs.declared.faults.Fault.TheVariants.{TooLong}
use Rattle.wb_aql_values.specs.declared.values.Sort.{Sort}
use Rattle.wb_aql_values.specs.declared.values.Sort.TheVariants as sort
use Rattle.wb_aql_values.specs.declared.values.Value.{Value}
use Rattle.wb_aql_values.specs.declared.values.Value.TheVariants.{Null, One, Sequence, OrderedSet}

-- are two values equal? Values of different sorts differ.
abbrev pub same_value : Value → Value → Bool
same_value Null Null = true
same_value (One a) (One b) = same a b
same_value (Sequence xs) (Sequence ys) = pointwise same xs ys
same_value (OrderedSet xs) (OrderedSet ys) = pointwise same xs ys
same_value _ _ = false

-- the members of a collection, a scalar alone, and none of null
abbrev pub members : Value → List Scalar
members Null = []
members (One x) = x ∷ []
members (Sequence xs) = xs
members (OrderedSet xs) = xs

-- the sort of a collection; where a collection is wanted, a scalar is an ordered set of one, and null an empty one
abbrev pub sort_of : Value → Sort
sort_of Null = sort.OrderedSet
sort_of (One x) = sort.OrderedSet
sort_of (Sequence xs) = sort.Sequence
sort_of (OrderedSet xs) = sort.OrderedSet

-- a Bool as a value
abbrev pub flag : Bool → Value
flag b = One (Boolean b)

-- the collection of a sort that has these members
abbrev pub collection : Sort → List Scalar → Value
collection sort.Sequence xs = Sequence xs
collection sort.OrderedSet xs = OrderedSet xs

-- is a scalar one of these?
abbrev pub has : List Scalar → Scalar → Bool
has xs x = list_any (same x) xs

-- a scalar put last; an ordered set keeps the first of equal members
abbrev pub with_member : Sort → List Scalar → Scalar → List Scalar
with_member sort.Sequence xs x = xs ++ x ∷ []
with_member sort.OrderedSet xs x = if has xs x then xs else xs ++ x ∷ []

unfoldable pub with_members : Sort → List Scalar → List Scalar → List Scalar
with_members kind xs ys = fold (with_member kind) xs ys

-- a collection has at most 65,536 members
abbrev pub short : List Scalar → Result (List Scalar) Fault
short xs = if nat_le (length xs) 65536 then Ok xs else Err TooLong

-- a value put last into a collection: of a collection each member, of null none
unfoldable pub put : Sort → List Scalar → Value → Result (List Scalar) Fault
put kind xs value = short (with_members kind xs (members value))
