-- Readings: what is looked at in a model, cell by cell, and what it gives in the end. No model stands in a reading;
-- its value and its reads are the two results of one run over a model's cells.
use Rattle.std.specs.Prelude.{ℕ, List, [], ◌∷◌, Option, None, Some, Result, Ok, Err}
use Rattle.wb_store.specs.declared.scalars.Scalar.{Scalar}
use Rattle.wb_store.specs.declared.scalars.Cell.{Cell}
use Rattle.wb_store.specs.declared.scalars.Cell.TheVariants.{Kind}
use Rattle.wb_store.specs.Contents.{Contents}
use Rattle.wb_store.specs.Cells.{InCell, cell}
use Rattle.wb_aql_values.specs.declared.faults.Fault.{Fault}
use Rattle.wb_aql_values.specs.declared.faults.Fault.TheVariants.{DeadObject}
use Rattle.wb_aql_values.specs.declared.values.Sort.{Sort}
use Rattle.wb_aql_values.specs.declared.values.Sort.TheVariants as sort
use Rattle.wb_aql_values.specs.declared.values.Value.{Value}
use Rattle.wb_aql_values.specs.declared.values.Value.TheVariants.{Null, One, Sequence, OrderedSet}
use Rattle.wb_aql_values.specs.Values.{put, collection}

-- what stands in a cell, and in a cell of a model
abbrev pub Content : Cell → Type 0
Content = InCell

abbrev pub contents : Contents → (c : Cell) → Content c
contents = cell

-- it ends with what it gives or with a fault, or looks at a cell and goes on by what stands there
pub data Reading (A : Type 0) : Type 0 where
  done : A → Reading A
  fail : Fault → Reading A
  look : (c : Cell) → (Content c → Reading A) → Reading A

infixl 20 ◌>>=◌
-- one reading after another, which goes on with what the first gives
unfoldable pub ◌>>=◌ : {A B : Type 0} → Reading A → (A → Reading B) → Reading B
◌>>=◌ (done x) next = next x
◌>>=◌ (fail fault) next = fail fault
◌>>=◌ (look c onward) next = look c (λ x. onward x >>= next)

-- what stands in a cell
abbrev pub held : (c : Cell) → Reading (Content c)
held c = look c done

-- what needs no look
abbrev pub given : {A : Type 0} → Result A Fault → Reading A
given (Ok x) = done x
given (Err fault) = fail fault

-- a step taken with each of a list in turn
unfoldable pub each : {A B : Type 0} → (B → A → Reading B) → B → List A → Reading B
each step b [] = done b
each step b (x ∷ xs) = step b x >>= λ c. each step c xs

-- the class of an object, which has one as long as it lives
abbrev pub live : Option ℕ → Result ℕ Fault
live None = Err DeadObject
live (Some class) = Ok class

unfoldable pub class_of : ℕ → Reading ℕ
class_of o = held (Kind o) >>= λ kind. given (live kind)

-- what a function of scalars gives of one more scalar, put last
unfoldable pub gather : Sort → (Scalar → Reading Value) → List Scalar → Scalar → Reading (List Scalar)
gather kind f xs x = f x >>= λ value. given (put kind xs value)

-- a function of scalars taken of each member in order, and the results put into a collection of a sort
unfoldable pub of_each : Sort → (Scalar → Reading Value) → List Scalar → Reading Value
of_each kind f xs = each (gather kind f) [] xs >>= λ ys. done (collection kind ys)

-- a function of scalars taken of a value: of each member of a collection, into a collection of the same sort
unfoldable pub lifted : Reading Value → (Scalar → Reading Value) → Value → Reading Value
lifted on_null f Null = on_null
lifted on_null f (One x) = f x
lifted on_null f (Sequence xs) = of_each sort.Sequence f xs
lifted on_null f (OrderedSet xs) = of_each sort.OrderedSet f xs
