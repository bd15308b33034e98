-- Steps of a run that ask the shelf for files.
use Rattle.std.specs.Prelude.{◌≡◌, ◌≤◌, true, List, [], ◌∷◌, ◌++◌, Option, Some, IfSome, IsSome, Result, Ok, Err, ⊤}
use Rattle.wb_outer.specs.Faults.{Rose}
use Rattle.wb_outer.specs.Shelf.{taken_of, IsUnlessFailed}
use Rattle.wb_outer.specs.declared.shelf.Call.{Call}
use Rattle.wb_outer.specs.Shelf.{ShelfTold}
use Rattle.wb_program.specs.declared.answer.Answer.{Answer}
use Rattle.wb_program.specs.declared.answer.Ending.{Ending}
use Rattle.wb_program.specs.declared.answer.Ending.TheVariants as ending
use Rattle.wb_program.specs.Course.{Course, gives, stops, after}
use Rattle.wb_program.specs.Files.{Files}
use Rattle.wb_program.specs.Causes.{some_failed}

-- each call gave what the files hold, or failed
abbrev pub AreOf : Files → List Call → Type 0
AreOf files [] = ⊤
AreOf files (call ∷ calls) = IsUnlessFailed call.answer (taken_of (files call.name)) × AreOf files calls

-- the shelf gave these calls, in their order, and no others
pub record Gave (old new : ShelfTold) (calls : List Call) : Type 0 where
  pub given : new.given ≡ old.given ++ calls
  pub files : new.files ≡ old.files
  pub told : IfSome old.files (λ files. AreOf files calls)
  pub later : old.faults ≤ new.faults
  pub failed : some_failed calls ≡ true → Rose old.faults new.faults

-- a step that goes on has come to its value, one that ends the run to its answer; want of memory comes anywhere on the way
abbrev pub Reaches : {A : Type 0} → Result A Ending → Option (Course A) → Type 0
Reaches (Ok x) left = left ≡ Some (gives x)
Reaches (Err (ending.Answer answer)) left = left ≡ Some (stops answer)
Reaches (Err ending.NoMemory) left = IsSome left

-- a step went along its course, by what the shelf gave
pub record Went {A : Type 0} (result : Result A Ending) (course : Course A) (old new : ShelfTold) : Type 0 where
  pub calls : List Call
  pub gave : Gave old new calls
  pub reaches : Reaches result (after course calls)

-- the ending is this answer, unless memory was wanting
abbrev pub EndsWith : Ending → Answer → Type 0
EndsWith (ending.Answer given) answer = given ≡ answer
EndsWith ending.NoMemory answer = ⊤
