-- What an answer means where it declares elements and edges.
use Rattle.std.specs.Prelude.{ℕ, Bool, false, List, [], Option, Some, None}
use Rattle.std.specs.List.{filter_map}
use Rattle.wb_base.specs.Lists.{first_places}
use Rattle.wb_store.specs.declared.scalars.Scalar.{Scalar}
use Rattle.wb_store.specs.declared.scalars.Scalar.TheVariants.{Int, Bool as Boolean, Text, Literal, Object}
use Rattle.wb_aql_values.specs.Values.{members}
use Rattle.wb_aql_values.specs.declared.values.Value.TheVariants.{One}
use Rattle.wb_aql_values.specs.declared.values.Answer.{Answer}
use Rattle.wb_aql_values.specs.declared.values.Answer.TheVariants as a

-- is it the value true?
abbrev pub is_true : Answer → Bool
is_true (a.Value (One (Boolean b))) = b
is_true _ = false

-- the members of a collection, a scalar alone, and none of null or a fault
abbrev pub members_of : Answer → List Scalar
members_of (a.Value value) = members value
members_of (a.Fault fault) = []

abbrev pub object_in : Scalar → Option ℕ
object_in (Int n) = None
object_in (Boolean b) = None
object_in (Text bytes) = None
object_in (Literal e l) = None
object_in (Object o) = Some o

-- the objects among scalars, each at its first place
abbrev pub objects_among : List Scalar → List ℕ
objects_among values = first_places (filter_map object_in values)

-- the objects of an answer, each at its first place
unfoldable pub objects_of : Answer → List ℕ
objects_of answer = objects_among (members_of answer)
