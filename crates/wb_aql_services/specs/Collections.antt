-- The services of collections. A scalar receiver is an ordered set of one, and null an empty one.
use Rattle.std.specs.Prelude.{ℕ, ℤ, pos, suc, Bool, false, not, nat_eq, ◌-◌, List, [], filter, length, slice_get, Option, None, Some}
use Rattle.std.specs.Option.{option_map_or}
use Rattle.wb_metamodel.specs.Metamodel.{Metamodel}
use Rattle.wb_store.specs.declared.scalars.Scalar.{Scalar}
use Rattle.wb_store.specs.declared.scalars.Scalar.TheVariants.{Int}
use Rattle.wb_store.specs.Scalars.{same}
use Rattle.wb_aql_values.specs.declared.faults.Fault.TheVariants.{NotInt}
use Rattle.wb_aql_values.specs.declared.values.Sort.{Sort}
use Rattle.wb_aql_values.specs.declared.values.Value.{Value}
use Rattle.wb_aql_values.specs.declared.values.Value.TheVariants.{Null, One}
use Rattle.wb_aql_values.specs.Values.{members, sort_of, collection, has, put}
use Rattle.wb_aql_values.specs.Readings.{Reading, done, fail, ◌>>=◌, given}
use Rattle.wb_aql_services.specs.Types.{kept}

-- a member, or null where there is none
abbrev pub member_or_null : Option Scalar → Value
member_or_null x = option_map_or One x Null

-- `filter`: the live objects that conform
unfoldable pub filtered : Metamodel → Option ℕ → Value → Reading Value
filtered mm t receiver = kept mm t (members receiver) >>= λ xs. done (collection (sort_of receiver) xs)

abbrev pub first : Value → Value
first receiver = member_or_null (slice_get (members receiver) 0)

abbrev pub last : Value → Value
last receiver = member_or_null (slice_get (members receiver) (length (members receiver) - 1))

-- the integer that a value is, if it is one
abbrev pub int_in : Value → Option ℤ
int_in (One (Int i)) = Some i
int_in _ = None

-- the member at a place, counted from 1
abbrev pub member_at : ℤ → List Scalar → Option Scalar
member_at (pos (suc k)) xs = slice_get xs k
member_at _ xs = None

unfoldable pub at : Value → Value → Reading Value
at place receiver = option_map_or (λ i. done (member_or_null (member_at i (members receiver)))) (int_in place) (fail NotInt)

abbrev pub size : Value → Value
size receiver = One (Int (pos (length (members receiver))))

abbrev pub is_empty : Value → Bool
is_empty receiver = nat_eq (length (members receiver)) 0

-- is a value a scalar that is equal to this one?
abbrev pub is_same : Value → Scalar → Bool
is_same (One x) y = same x y
is_same _ y = false

-- is it a member? Null and a collection are none.
abbrev pub includes : Value → Value → Bool
includes (One x) receiver = has (members receiver) x
includes _ receiver = false

-- a value put last
unfoldable pub including : Value → Value → Reading Value
including value receiver = given (put (sort_of receiver) [] receiver) >>= λ xs. given (put (sort_of receiver) xs value) >>= λ ys. done (collection (sort_of receiver) ys)

-- without all members that are equal to a value
abbrev pub excluding : Value → Value → Value
excluding value receiver = collection (sort_of receiver) (filter (λ x. not (is_same value x)) (members receiver))

-- the members as a collection of a sort
unfoldable pub as_sort : Sort → Value → Reading Value
as_sort kind receiver = given (put kind [] receiver) >>= λ xs. done (collection kind xs)
