-- What a reading gives over a model, and the cells that it looks at, in the order of the first look.
use Rattle.std.specs.Prelude.{◌≡◌, ⊤, fold, List, [], ◌∷◌, ◌++◌, Option, Some, None, Result, Ok, Err, if◌then◌else◌}
use Rattle.std.specs.List.{list_any}
use Rattle.wb_base.specs.Answering.{AsDefined, IsRefusal}
use Rattle.wb_store.specs.declared.scalars.Scalar.{Scalar}
use Rattle.wb_store.specs.declared.scalars.Cell.{Cell}
use Rattle.wb_aql_values.specs.declared.faults.Fault.{Fault}
use Rattle.wb_aql_values.specs.declared.faults.Halt.{Halt}
use Rattle.wb_aql_values.specs.declared.faults.Halt.TheVariants as h
use Rattle.wb_aql_values.specs.declared.values.Value.{Value}
use Rattle.wb_aql_values.specs.declared.values.Answer.{Answer}
use Rattle.wb_aql_values.specs.declared.values.Answer.TheVariants as a
use Rattle.wb_aql_values.specs.Cells.{same_cell}
use Rattle.wb_aql_values.specs.Readings.{Content, Reading, done, fail, look}

-- the cells read so far with one more: it goes last, unless it is there
abbrev pub with_read : List Cell → Cell → List Cell
with_read reads c = if list_any (same_cell c) reads then reads else reads ++ c ∷ []

-- the reads after a look at each of these cells in turn
abbrev pub with_reads : List Cell → List Cell → List Cell
with_reads reads cells = fold with_read reads cells

-- a run: what was given, and all cells read so far
pub record Ran (A : Type 0) : Type 0 where
  pub gave : Result A Fault
  pub reads : List Cell

-- a reading carried out over the contents of a model's cells, after these reads
unfoldable pub run : {A : Type 0} → Reading A → ((c : Cell) → Content c) → List Cell → Ran A
run (done x) m reads = record { gave = Ok x; reads = reads }
run (fail fault) m reads = record { gave = Err fault; reads = reads }
run (look c onward) m reads = run (onward (m c)) m (with_read reads c)

-- the fault that ends an evaluation; want of memory is none
abbrev pub fault_in : Halt → Option Fault
fault_in (h.Fault fault) = Some fault
fault_in h.NoMemory = None

-- the run gave this, and left these reads; want of memory says nothing of either
abbrev pub Gives : {A : Type 0} → Ran A → Result A Halt → List Cell → Type 0
Gives ran (Ok x) reads = ran ≡ record { gave = Ok x; reads = reads }
Gives ran (Err (h.Fault fault)) reads = ran ≡ record { gave = Err fault; reads = reads }
Gives ran (Err h.NoMemory) reads = ⊤

-- the same where what was given stands in a place, as a list that grows
abbrev pub Leaves : {A B : Type 0} → Ran A → Result B Halt → A → List Cell → Type 0
Leaves ran (Ok _) x reads = ran ≡ record { gave = Ok x; reads = reads }
Leaves ran (Err (h.Fault fault)) x reads = ran ≡ record { gave = Err fault; reads = reads }
Leaves ran (Err h.NoMemory) x reads = ⊤

-- the run gave this answer
abbrev pub answered : Answer → Result Value Fault
answered (a.Value value) = Ok value
answered (a.Fault fault) = Err fault

-- what was put together became this list, or the fault; want of memory says nothing of it
abbrev pub Became : Result Unit Halt → Result (List Scalar) Fault → List Scalar → Type 0
Became (Ok _) expected xs = AsDefined {E = Halt} fault_in expected (Ok xs)
Became (Err halt) expected xs = IsRefusal (fault_in halt) expected
