-- A door over sockets: what it tells, and what each of its calls comes to at them.
use Rattle.std.specs.Prelude.{◌≡◌, ℕ, ◌+◌, ◌<◌, Bool, true, false, List, ◌++◌, take, Option, None}
use Rattle.wb_outer.specs.Door.{Connection, DoorTold, after_write, marked, change_at_hand}
use Rattle.wb_doors.specs.Sockets.{HasCause, after_listen}
use Rattle.wb_doors.specs.declared.sockets.SocketsTold.{SocketsTold}
use Rattle.wb_outer.specs.declared.door.Next.{Next}
use Rattle.wb_outer.specs.declared.door.Next.TheVariants.{Line as IsLine, Closed, Failed as NextFailed}
use Rattle.wb_outer.specs.declared.door.Got.{Got}
use Rattle.wb_outer.specs.declared.door.Got.TheVariants.{Bytes as GotBytes, End, Failed as GotFailed}
use Rattle.wb_outer.specs.declared.sink.Wrote.{Wrote}
use Rattle.wb_outer.specs.declared.sink.Wrote.TheVariants.{Done, Failed as WriteFailed}

-- the sockets, whether the door listens, what its last call for the next connection answered, the connections that it
-- took, and its count of faults
pub record TcpDoorState (S : Type 0) : Type 0 where
  pub sockets : S
  pub is_listening : Bool
  pub last : Option Next
  pub taken : List Connection
  pub faults : ℕ

-- what is to come it does not tell
abbrev pub tcp_told : {S : Type 0} → TcpDoorState S → DoorTold
tcp_told door = record { last = door.last; taken = door.taken; to_come = None; faults = door.faults }

-- nothing of a door changed but its sockets, whether it listens, and its count
pub record IsSameDoor {S : Type 0} (old new : TcpDoorState S) : Type 0 where
  pub last : new.last ≡ old.last
  pub taken : new.taken ≡ old.taken

-- a door that listens is not asked again; else its sockets are
abbrev pub Listens : Bool → SocketsTold → Bool → SocketsTold → Wrote → Type 0
Listens true old now new Done = (now ≡ true) × (new ≡ old)
Listens true old now new WriteFailed = ⊥
Listens false old now new Done = (now ≡ true) × (new ≡ after_listen true old)
Listens false old now new WriteFailed = (now ≡ false) × (new ≡ after_listen false old)

-- no byte was given or taken
abbrev pub IsQuiet : SocketsTold → SocketsTold → Type 0
IsQuiet old new = (new.given ≡ old.given) × (new.took ≡ old.took)

-- nobody was taken, and no byte was taken
abbrev pub TakesNone : SocketsTold → SocketsTold → Type 0
TakesNone old new = (new.peers ≡ old.peers) × (new.took ≡ old.took)

-- nobody was taken, and no byte was given
abbrev pub GivesNone : SocketsTold → SocketsTold → Type 0
GivesNone old new = (new.peers ≡ old.peers) × (new.given ≡ old.given)

-- one peer more was taken, or none for a cause; `Closed` never comes
abbrev pub Accepts : SocketsTold → SocketsTold → Next → Type 0
Accepts old new IsLine = (new.peers ≡ old.peers + 1) × IsQuiet old new
Accepts old new Closed = ⊥
Accepts old new NextFailed = (new.peers ≡ old.peers) × IsQuiet old new × HasCause old new

-- the bytes read are those that the sockets gave; `End` where a read of them answered so; a failed read took none
abbrev pub ReadsThrough : SocketsTold → SocketsTold → List ℕ → Got → Type 0
ReadsThrough old new room (GotBytes n) = (new.given ≡ old.given ++ take n room) × TakesNone old new
ReadsThrough old new room End = (new.given ≡ old.given) × TakesNone old new × (old.ends < new.ends)
ReadsThrough old new room GotFailed = (new.given ≡ old.given) × TakesNone old new × HasCause old new

-- a front of the piece was written, and the connection is marked
abbrev pub WritesFront : SocketsTold → SocketsTold → List Connection → List Connection → List ℕ → Type 0
WritesFront old new cs cs' piece = (n : ℕ) × (new.took ≡ old.took ++ take n piece) × (cs' ≡ change_at_hand (λ c. marked (after_write (take n piece) c)) cs)

-- the sockets took the whole piece; or a front of it for a cause, and the connection is marked
abbrev pub WritesThrough : SocketsTold → SocketsTold → List Connection → List Connection → List ℕ → Wrote → Type 0
WritesThrough old new cs cs' piece Done = (new.took ≡ old.took ++ piece) × (cs' ≡ change_at_hand (after_write piece) cs) × GivesNone old new
WritesThrough old new cs cs' piece WriteFailed = WritesFront old new cs cs' piece × GivesNone old new × HasCause old new
