-- Doors: the connections that one took, and what is to come.
use Rattle.std.specs.Prelude.{◌≡◌, ℕ, ◌<◌, ◌≤◌, Bool, true, false, List, [], ◌∷◌, ◌++◌, length, take, drop, Option, Some, IfSome}
use Rattle.wb_outer.specs.Faults.{Rose}
use Rattle.wb_outer.specs.declared.door.Next.{Next}
use Rattle.wb_outer.specs.declared.door.Next.TheVariants.{Line as IsLine, Closed, Failed as NextFailed}
use Rattle.wb_outer.specs.declared.door.Got.{Got}
use Rattle.wb_outer.specs.declared.door.Got.TheVariants.{Bytes as GotBytes, End, Failed as GotFailed}
use Rattle.wb_outer.specs.declared.sink.Wrote.{Wrote}
use Rattle.wb_outer.specs.declared.sink.Wrote.TheVariants.{Done, Failed as WriteFailed}

-- a connection that was taken: the bytes read, those written, and whether a call on it failed
pub record Connection : Type 0 where
  pub bytes_read : List ℕ
  pub bytes_written : List ℕ
  pub has_failed : Bool

-- what is to come at a door: the bytes that are left of the connection at hand, and those of each one that waits
pub record ToCome : Type 0 where
  pub here : List ℕ
  pub waiting : List (List ℕ)

-- what a door tells: the answer of the last call for the next connection; the connections that it took, of which the
-- last is or was at hand; what is to come, where it stands in memory; and its count of faults
pub record DoorTold : Type 0 where
  pub last : Option Next
  pub taken : List Connection
  pub to_come : Option ToCome
  pub faults : ℕ

-- a connection that was just taken
abbrev pub fresh : Connection
fresh = record { bytes_read = []; bytes_written = []; has_failed = false }

-- the connection at hand
abbrev pub at_hand : List Connection → Connection
at_hand [] = fresh
at_hand (c ∷ []) = c
at_hand (c ∷ d ∷ cs) = at_hand (d ∷ cs)

-- all connections stay but the one at hand
abbrev pub change_at_hand : (Connection → Connection) → List Connection → List Connection
change_at_hand f [] = []
change_at_hand f (c ∷ []) = f c ∷ []
change_at_hand f (c ∷ d ∷ cs) = c ∷ change_at_hand f (d ∷ cs)

-- these bytes are read
abbrev pub after_read : List ℕ → Connection → Connection
after_read bytes c = record { bytes_read = c.bytes_read ++ bytes; bytes_written = c.bytes_written; has_failed = c.has_failed }

-- these bytes are written
abbrev pub after_write : List ℕ → Connection → Connection
after_write bytes c = record { bytes_read = c.bytes_read; bytes_written = c.bytes_written ++ bytes; has_failed = c.has_failed }

-- a call on it failed
abbrev pub marked : Connection → Connection
marked c = record { bytes_read = c.bytes_read; bytes_written = c.bytes_written; has_failed = true }

-- a connection is added exactly where one was taken
abbrev pub taken_after : Next → List Connection → List Connection
taken_after IsLine cs = cs ++ fresh ∷ []
taken_after Closed cs = cs
taken_after NextFailed cs = cs

-- the first connection that waits comes to hand; `Closed` exactly where none does; a failed call takes none
abbrev pub ComesFrom : ToCome → Option ToCome → Next → Type 0
ComesFrom old new IsLine = (bytes : List ℕ) × (rest : List (List ℕ)) × (old.waiting ≡ bytes ∷ rest) × (new ≡ Some (record { here = bytes; waiting = rest }))
ComesFrom old new Closed = (old.waiting ≡ []) × (new ≡ Some (record { here = []; waiting = [] }))
ComesFrom old new NextFailed = new ≡ Some old

-- a call for the next connection was answered
pub record Comes (old new : DoorTold) (next : Next) : Type 0 where
  pub last : new.last ≡ Some next
  pub taken : new.taken ≡ taken_after next old.taken
  pub to_come : IfSome old.to_come (λ to_come. ComesFrom to_come new.to_come next)
  pub later : old.faults ≤ new.faults
  pub failed : next ≡ NextFailed → Rose old.faults new.faults

-- at least one byte was read, and no more than there was room for
abbrev pub FitsRoom : Got → List ℕ → Type 0
FitsRoom (GotBytes n) room = (0 < n) × (n ≤ length room)
FitsRoom End room = Unit {0}
FitsRoom GotFailed room = Unit {0}

-- the connections after a read that answers so
abbrev pub read_after : Got → List ℕ → List Connection → List Connection
read_after (GotBytes n) room cs = change_at_hand (after_read (take n room)) cs
read_after End room cs = cs
read_after GotFailed room cs = change_at_hand marked cs

-- the next bytes of the connection at hand are read; `End` comes exactly where none are left; a failed read takes none
abbrev pub ReadsFrom : ToCome → Option ToCome → List ℕ → Got → Type 0
ReadsFrom old new room (GotBytes n) = (take n room ≡ take n old.here) × (new ≡ Some (record { here = drop n old.here; waiting = old.waiting }))
ReadsFrom old new room End = (old.here ≡ []) × (new ≡ Some old)
ReadsFrom old new room GotFailed = new ≡ Some old

-- a read into a room was answered
pub record Reads (old new : DoorTold) (room : List ℕ) (got : Got) : Type 0 where
  pub last : new.last ≡ old.last
  pub taken : new.taken ≡ read_after got room old.taken
  pub to_come : IfSome old.to_come (λ to_come. ReadsFrom to_come new.to_come room got)
  pub fits : FitsRoom got room
  pub later : old.faults ≤ new.faults
  pub failed : got ≡ GotFailed → Rose old.faults new.faults

-- the whole piece was written on the connection at hand; where the call failed a front of it was, and the connection
-- is marked
abbrev pub WritesOn : List Connection → List Connection → List ℕ → Wrote → Type 0
WritesOn old new piece Done = new ≡ change_at_hand (after_write piece) old
WritesOn old new piece WriteFailed = (n : ℕ) × (new ≡ change_at_hand (λ c. marked (after_write (take n piece) c)) old)

-- a write of a piece was answered
pub record Writes (old new : DoorTold) (piece : List ℕ) (wrote : Wrote) : Type 0 where
  pub last : new.last ≡ old.last
  pub taken : WritesOn old.taken new.taken piece wrote
  pub to_come : new.to_come ≡ old.to_come
  pub later : old.faults ≤ new.faults
  pub failed : wrote ≡ WriteFailed → Rose old.faults new.faults
