-- The services that evaluate an expression for each member of their receiver.
use Rattle.std.specs.Prelude.{Bool, true, false, not, is_some, List, [], ◌∷◌, ◌++◌, Option, Some, None, if◌then◌else◌}
use Rattle.std.specs.Bool.{beq}
use Rattle.wb_store.specs.declared.scalars.Scalar.{Scalar}
use Rattle.wb_aql_check.specs.declared.services.Iteration.{Iteration}
use Rattle.wb_aql_check.specs.declared.services.Iteration.TheVariants as i
use Rattle.wb_aql_values.specs.declared.values.Value.{Value}
use Rattle.wb_aql_values.specs.declared.values.Value.TheVariants.{Null, One}
use Rattle.wb_aql_values.specs.Values.{members, sort_of, collection, flag}
use Rattle.wb_aql_values.specs.Readings.{Reading, done, given, each, of_each, ◌>>=◌}
use Rattle.wb_aql_eval.specs.Operators.{truth}

-- is the expression true of a member?
unfoldable pub tested : (Scalar → Reading Value) → Scalar → Reading Bool
tested f x = f x >>= λ v. given (truth v)

-- a member goes last where the test is as wanted
abbrev pub kept : Bool → List Scalar → Scalar → Bool → List Scalar
kept wanted xs x passes = if beq passes wanted then xs ++ x ∷ [] else xs

unfoldable pub sift : (Scalar → Reading Value) → Bool → List Scalar → Scalar → Reading (List Scalar)
sift f wanted xs x = tested f x >>= λ passes. done (kept wanted xs x passes)

-- the members of which the expression is true, or false
unfoldable pub sifted : (Scalar → Reading Value) → Bool → List Scalar → Reading (List Scalar)
sifted f wanted xs = each (sift f wanted) [] xs

-- the first member of which the expression is true, or false; of those behind it nothing is asked
unfoldable pub first_that : (Scalar → Reading Value) → Bool → List Scalar → Reading (Option Scalar)
first_that f wanted [] = done None
first_that f wanted (x ∷ xs) = tested f x >>= λ passes. if beq passes wanted then done (Some x) else first_that f wanted xs

-- a member, or null
abbrev pub or_null : Option Scalar → Value
or_null None = Null
or_null (Some x) = One x

unfoldable pub iterated : Iteration → (Scalar → Reading Value) → Value → Reading Value
iterated i.Select f v = sifted f true (members v) >>= λ xs. done (collection (sort_of v) xs)
iterated i.Reject f v = sifted f false (members v) >>= λ xs. done (collection (sort_of v) xs)
iterated i.Collect f v = of_each (sort_of v) f (members v)
iterated i.Exists f v = first_that f true (members v) >>= λ found. done (flag (is_some found))
iterated i.ForAll f v = first_that f false (members v) >>= λ found. done (flag (not (is_some found)))
iterated i.Any f v = first_that f true (members v) >>= λ found. done (or_null found)
