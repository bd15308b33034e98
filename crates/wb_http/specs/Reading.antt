-- What reading a request answers, and what it takes from the door.
use Rattle.std.specs.Prelude.{◌≡◌, ℕ, ◌≤◌, ⊤, List, [], ◌++◌, Option, None, Some, IfSome, Result, Ok, Err}
use Rattle.wb_outer.specs.Door.{Connection, DoorTold, ToCome, after_read, change_at_hand, marked}
use Rattle.wb_outer.specs.Faults.{Rose}
use Rattle.wb_http.specs.declared.requests.Request.{Request}
use Rattle.wb_http.specs.declared.requests.RequestEnd.{RequestEnd}
use Rattle.wb_http.specs.declared.requests.RequestEnd.TheVariants as ends
use Rattle.wb_http.specs.Requests.{Whole, Bad, Short, Takes}

-- how a call ended that gave no value
abbrev pub end_of : {A : Type 0} → Result A RequestEnd → Option RequestEnd
end_of (Ok value) = None
end_of (Err end) = Some end

-- these bytes were read on the connection at hand, on which at last a read may have failed
abbrev pub taken_after : Option RequestEnd → List ℕ → List Connection → List Connection
taken_after (Some ends.Failed) got cs = change_at_hand marked (change_at_hand (after_read got) cs)
taken_after (Some ends.Ended) got cs = change_at_hand (after_read got) cs
taken_after (Some (ends.Bad refusal)) got cs = change_at_hand (after_read got) cs
taken_after (Some ends.NoMemory) got cs = change_at_hand (after_read got) cs
taken_after None got cs = change_at_hand (after_read got) cs

-- at the end of the input nothing is left of it
abbrev pub IsAtEnd : Option RequestEnd → List ℕ → Type 0
IsAtEnd (Some ends.Ended) rest = rest ≡ []
IsAtEnd (Some ends.Failed) rest = ⊤
IsAtEnd (Some (ends.Bad refusal)) rest = ⊤
IsAtEnd (Some ends.NoMemory) rest = ⊤
IsAtEnd None rest = ⊤

-- these bytes were the next ones of the connection at hand
abbrev pub CameFrom : Option RequestEnd → ToCome → Option ToCome → List ℕ → Type 0
CameFrom end old new got = (rest : List ℕ) × (old.here ≡ got ++ rest) × (new ≡ Some (record { here = rest; waiting = old.waiting })) × IsAtEnd end rest

-- the reads of a call gave these bytes, and the call ended so
pub record Gives (old new : DoorTold) (end : Option RequestEnd) (got : List ℕ) : Type 0 where
  pub last : new.last ≡ old.last
  pub taken : new.taken ≡ taken_after end got old.taken
  pub to_come : IfSome old.to_come (λ to_come. CameFrom end to_come new.to_come got)
  pub later : old.faults ≤ new.faults
  pub failed : end ≡ Some ends.Failed → Rose old.faults new.faults

-- what is answered to these bytes, and what of them stays held
abbrev pub Answers : Result Request RequestEnd → List ℕ → List ℕ → Type 0
Answers (Ok request) bytes rest = Takes bytes (Whole request rest)
Answers (Err (ends.Bad refusal)) bytes rest = Takes bytes (Bad refusal) × (rest ≡ bytes)
Answers (Err ends.Ended) bytes rest = Takes bytes Short × (rest ≡ bytes)
Answers (Err ends.Failed) bytes rest = Takes bytes Short × (rest ≡ bytes)
Answers (Err ends.NoMemory) bytes rest = rest ≡ bytes

-- a request is read from the bytes held and those that the door gave for it
pub record ReadsOne (held held' : List ℕ) (old new : DoorTold) (result : Result Request RequestEnd) : Type 0 where
  pub got : List ℕ
  pub gives : Gives old new (end_of result) got
  pub answered : Answers result (held ++ got) held'

-- what is answered to the bytes held and all that are to come, and what of them is left
abbrev pub AnswersAll : Result Request RequestEnd → List ℕ → List ℕ → Type 0
AnswersAll (Ok request) all left = Takes all (Whole request left)
AnswersAll (Err (ends.Bad refusal)) all left = Takes all (Bad refusal) × (left ≡ all)
AnswersAll (Err ends.Ended) all left = Takes all Short × (left ≡ all)
AnswersAll (Err ends.Failed) all left = left ≡ all
AnswersAll (Err ends.NoMemory) all left = left ≡ all

-- where the door tells what is to come, that is answered to all of it
abbrev pub IsExact : List ℕ → List ℕ → Option ToCome → Option ToCome → Result Request RequestEnd → Type 0
IsExact held held' old new result =
    IfSome old (λ before. (after : ToCome) × (new ≡ Some after) × (after.waiting ≡ before.waiting) × AnswersAll result (held ++ before.here) (held' ++ after.here))
