-- How a run ends.
use Rattle.std.specs.Prelude.{ℕ, ◌≡◌, ◌⊎◌, List, [], ◌∷◌, ◌++◌, take, Option, Some, None, IsSome, IsErr, Result, Ok, Err}
use Rattle.wb_outer.specs.Faults.{Rose}
use Rattle.wb_outer.specs.declared.shelf.Call.{Call}
use Rattle.wb_outer.specs.Shelf.{ShelfTold}
use Rattle.wb_outer.specs.Sink.{SinkTold}
use Rattle.wb_program.specs.declared.status.Status.{Status}
use Rattle.wb_program.specs.declared.status.Status.TheVariants.{SinkFault, NoMemory}
use Rattle.wb_program.specs.declared.answer.Answer.{Answer}
use Rattle.wb_program.specs.declared.answer.Ending.{Ending}
use Rattle.wb_program.specs.declared.answer.Ending.TheVariants as ending
use Rattle.wb_program.specs.Course.{Course, after, play}
use Rattle.wb_program.specs.Steps.{Gave}
use Rattle.wb_program.specs.Files.{Files}

-- the answer's text was handed to the sink in one write, and taken whole; the status is the answer's
pub record Prints (answer : Answer) (status : Status) (old new : SinkTold) : Type 0 where
  pub ended : status ≡ answer.status
  pub handed : new.handed ≡ old.handed ++ answer.text ∷ []
  pub took : new.took ≡ old.took ++ answer.text

-- the answer's text was handed to the sink in one write, which failed, and took a front of it
pub record Fails (answer : Answer) (status : Status) (old new : SinkTold) : Type 0 where
  pub ended : status ≡ SinkFault
  pub handed : new.handed ≡ old.handed ++ answer.text ∷ []
  pub count : ℕ
  pub took : new.took ≡ old.took ++ take count answer.text
  pub rose : Rose old.faults new.faults

abbrev pub IsPrinted : Answer → Status → SinkTold → SinkTold → Type 0
IsPrinted answer status old new = Prints answer status old new ⊎ Fails answer status old new

-- the answer that a course came to is printed
abbrev pub IsPlayed : Option Answer → Status → SinkTold → SinkTold → Type 0
IsPlayed None status old new = ⊥
IsPlayed (Some answer) status old new = IsPrinted answer status old new

-- what a run decided on before it prints
abbrev pub Concludes : {E : Type 0} → Option (Course Answer) → Option Answer → Result Answer E → Type 0
Concludes left answer (Ok given) = answer ≡ Some given
Concludes left answer (Err e) = IsSome left

-- the answer of the last step is that of the run
abbrev pub Settles : {E : Type 0} → Result Answer Ending → Result Answer E → Type 0
Settles (Ok answer) result = result ≡ Ok answer
Settles (Err (ending.Answer answer)) result = result ≡ Ok answer
Settles (Err ending.NoMemory) result = IsErr result

pub record IsDecision {E : Type 0} (result : Result Answer E) (course : Course Answer) (old new : ShelfTold) : Type 0 where
  pub calls : List Call
  pub gave : Gave old new calls
  pub concludes : Concludes (after course calls) (play course calls) result

-- A run goes along its course by what the shelf gave, and prints the answer to which it came. Where memory was wanting it may
-- have come anywhere on the way, and nothing is handed to the sink.
pub record Runs (course : Course Answer) (status : Status) (shelf_old shelf_new : ShelfTold) (sink_old sink_new : SinkTold) : Type 0 where
  pub calls : List Call
  pub gave : Gave shelf_old shelf_new calls
  pub along : IsSome (after course calls)
  pub printed : ¬ (status ≡ NoMemory) → IsPlayed (play course calls) status sink_old sink_new
  pub memory : status ≡ NoMemory → sink_new ≡ sink_old

-- where no count of the shelf rose, and memory was not wanting, the answer is that of the files
abbrev pub IsOfFiles : (Files → Answer) → Status → ShelfTold → ShelfTold → SinkTold → SinkTold → Files → Type 0
IsOfFiles answer status shelf_old shelf_new sink_old sink_new files =
    ¬ (Rose shelf_old.faults shelf_new.faults) → ¬ (status ≡ NoMemory) → IsPrinted (answer files) status sink_old sink_new
