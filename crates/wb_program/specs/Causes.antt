-- Which answers may come by decision, and what causes them.
use Rattle.std.specs.Prelude.{◌≡◌, ⊤, Bool, true, ◌||◌, List}
use Rattle.std.specs.List.{list_any}
use Rattle.wb_outer.specs.declared.shelf.Taken.{Taken}
use Rattle.wb_outer.specs.Shelf.{has_failed}
use Rattle.wb_outer.specs.declared.shelf.Call.{Call}
use Rattle.wb_program.specs.declared.status.Status.{Status}
use Rattle.wb_program.specs.declared.status.Status.TheVariants.{Done, Problems, BadWords, ShelfFault, BadInput, TooLarge, SinkFault, KeeperFault, BadStore, DoorFault, TurnsSpent, NoMemory, NotBuilt}
use Rattle.wb_program.specs.Course.{Course, gives, stops, asks}

-- did one of the calls fail?
abbrev pub some_failed : List Call → Bool
some_failed calls = list_any (λ (call : Call). has_failed call.answer) calls

-- may a run decide on this status? A fault of the shelf wants a call that failed; faults of the sink, the keeper and the
-- door, and want of memory, are no decisions
abbrev pub IsCaused : Bool → Status → Type 0
IsCaused failed Done = ⊤
IsCaused failed Problems = ⊤
IsCaused failed BadWords = ⊤
IsCaused failed ShelfFault = failed ≡ true
IsCaused failed BadInput = ⊤
IsCaused failed TooLarge = ⊤
IsCaused failed SinkFault = ⊥
IsCaused failed KeeperFault = ⊥
IsCaused failed BadStore = ⊤
IsCaused failed DoorFault = ⊥
IsCaused failed TurnsSpent = ⊤
IsCaused failed NoMemory = ⊥
IsCaused failed NotBuilt = ⊤

-- has each answer of the course its cause, where a call failed before, or none? `Given` is what is known of a value
abbrev pub HasCauses : {A : Type 0} → (Bool → A → Type 0) → Bool → Course A → Type 0
HasCauses Given failed (gives x) = Given failed x
HasCauses Given failed (stops answer) = IsCaused failed answer.status
HasCauses Given failed (asks name next) = (taken : Taken) → HasCauses Given (failed || has_failed taken) (next taken)
