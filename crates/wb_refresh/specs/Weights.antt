-- What outcomes weigh, and when they are too many or weigh too much.
use Rattle.std.specs.Prelude.{ℕ, ◌+◌, ◌/◌, Bool, ◌||◌, nat_lt, List, length}
use Rattle.std.specs.List.{sum_by}
use Rattle.wb_store.specs.declared.scalars.Scalar.TheVariants.{Text}
use Rattle.wb_aql_values.specs.declared.values.Answer.{Answer}
use Rattle.wb_aql_values.specs.declared.values.Answer.TheVariants as a
use Rattle.wb_aql_values.specs.declared.values.Value.TheVariants.{One, Sequence, OrderedSet}
use Rattle.wb_answers.specs.declared.rows.Row.{Row}

-- the members of a collection, or the sixteenths of a text's bytes, rounded down
abbrev pub size_of : Answer → ℕ
size_of (a.Value (Sequence xs)) = length xs
size_of (a.Value (OrderedSet xs)) = length xs
size_of (a.Value (One (Text bytes))) = length bytes / 16
size_of _ = 0

-- the number of reads, and the size of the answer
abbrev pub weight_of : Row → ℕ
weight_of row = length row.outcome.reads + size_of row.outcome.answer

-- more than 100,000 units, or a weight above 2,000,000
abbrev pub is_over : List Row → Bool
is_over rows = nat_lt 100000 (length rows) || nat_lt 2000000 (sum_by weight_of rows)
