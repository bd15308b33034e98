-- A door in memory: the connections that it took and what is to come, and which of its calls fail.
use Rattle.std.specs.Prelude.{◌≡◌, ℕ, ◌<◌, ◌+◌, ⊤, Bool, true, false, List, [], ◌∷◌, length, map, slice_index_or, Option, Some}
use Rattle.std.specs.Global.{Vec}
use Rattle.wb_outer.specs.Door.{Connection, DoorTold, fresh, marked, after_write, change_at_hand}
use Rattle.wb_outer.specs.Faults.{after_call}
use Rattle.wb_outer.specs.Sink.{has_failed}
use Rattle.wb_outer.specs.Pieces.{bytes_of, filled, ReadsPiece}
use Rattle.wb_doors.specs.Coming.{ComingState}
use Rattle.wb_outer.specs.declared.faults.FaultPlan.{FaultPlan}
use Rattle.wb_outer.specs.declared.door.Next.{Next}
use Rattle.wb_outer.specs.declared.door.Next.TheVariants.{Line as IsLine, Closed, Failed as NextFailed}
use Rattle.wb_outer.specs.declared.door.Got.{Got}
use Rattle.wb_outer.specs.declared.door.Got.TheVariants.{Bytes as GotBytes, End, Failed as GotFailed}
use Rattle.wb_outer.specs.declared.sink.Wrote.{Wrote}
use Rattle.wb_outer.specs.declared.sink.Wrote.TheVariants.{Done, Failed as WriteFailed}

-- what its last call for the next connection answered, the connections that it took, the pieces that are left of the one
-- at hand, those of each one that waits, and which calls fail
pub record MemoryDoorState : Type 0 where
  pub last : Option Next
  pub taken : List Connection
  pub left : List (List ℕ)
  pub waiting : List (List (List ℕ))
  pub plan : FaultPlan

abbrev pub memory_told : MemoryDoorState → DoorTold
memory_told door = record { last = door.last; taken = door.taken; to_come = Some (record { here = bytes_of door.left; waiting = map bytes_of door.waiting }); faults = door.plan.faults }

-- what was written on a connection, nothing while it was not taken
abbrev pub sent_on : ℕ → List Connection → List ℕ
sent_on line taken = (slice_index_or taken line fresh).bytes_written

abbrev pub next_failed : Next → Bool
next_failed IsLine = false
next_failed Closed = false
next_failed NextFailed = true

abbrev pub read_failed : Got → Bool
read_failed (GotBytes n) = false
read_failed End = false
read_failed GotFailed = true

-- the first connection that waits comes to hand, or there is none; a failed call takes none
abbrev pub TakesNext : MemoryDoorState → MemoryDoorState → Next → Type 0
TakesNext old new IsLine = (pieces : List (List ℕ)) × (old.waiting ≡ pieces ∷ new.waiting) × (new.left ≡ filled pieces)
TakesNext old new Closed = (old.waiting ≡ []) × (new.waiting ≡ []) × (new.left ≡ [])
TakesNext old new NextFailed = (new.waiting ≡ old.waiting) × (new.left ≡ old.left)

-- a read gives what is left of a piece, or as much of it as there is room for; a failed one takes nothing
abbrev pub GivesPiece : MemoryDoorState → MemoryDoorState → List ℕ → Got → Type 0
GivesPiece old new room (GotBytes n) = ReadsPiece old.left new.left room (GotBytes n) × (new.waiting ≡ old.waiting)
GivesPiece old new room End = ReadsPiece old.left new.left room End × (new.waiting ≡ old.waiting)
GivesPiece old new room GotFailed = (new.left ≡ old.left) × (new.waiting ≡ old.waiting)

-- a write adds the whole piece; a failed one marks the connection and adds nothing
abbrev pub written : Wrote → List ℕ → List Connection → List Connection
written Done piece cs = change_at_hand (after_write piece) cs
written WriteFailed piece cs = change_at_hand marked cs

-- the door after a write that answered so
abbrev pub after_write_call : Wrote → List ℕ → MemoryDoorState → MemoryDoorState
after_write_call wrote piece door = record { last = door.last; taken = written wrote piece door.taken; left = door.left; waiting = door.waiting; plan = after_call (has_failed wrote) door.plan }

-- what is kept of each connection is what was written on it, and nothing where it was not taken
abbrev pub AreSent : List (Vec ℕ) → List Connection → Type 0
AreSent [] cs = ⊤
AreSent (sent ∷ others) [] = (sent.items ≡ []) × AreSent others []
AreSent (sent ∷ others) (c ∷ cs) = (sent.items ≡ c.bytes_written) × AreSent others cs

-- what a door in memory keeps fits what it tells, and a connection was taken where one is at hand
pub record IsKept (coming : ComingState) (last : Option Next) (taken : List Connection) (count : ℕ) (sent : List (Vec ℕ)) : Type 0 where
  pub counted : count ≡ length taken
  pub all : length sent ≡ length taken + length coming.waiting
  pub are_sent : AreSent sent taken
  pub some : last ≡ Some IsLine → 0 < count
