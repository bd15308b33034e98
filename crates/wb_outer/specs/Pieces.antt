-- Connections as lists of pieces.
use Rattle.std.specs.Prelude.{◌≡◌, ℕ, ◌<◌, ⊤, List, [], ◌∷◌, ◌++◌, length, take, drop, min, map, Option, Some}
use Rattle.std.specs.Global.{Vec}
use Rattle.wb_outer.specs.Door.{Connection, DoorTold}
use Rattle.wb_outer.specs.declared.door.Next.{Next}
use Rattle.wb_outer.specs.declared.door.Next.TheVariants.{Line as IsLine, Closed, Failed as NextFailed}
use Rattle.wb_outer.specs.declared.door.Got.{Got}
use Rattle.wb_outer.specs.declared.door.Got.TheVariants.{Bytes as GotBytes, End, Failed as GotFailed}

-- all bytes of the pieces of a connection
abbrev pub bytes_of : List (List ℕ) → List ℕ
bytes_of [] = []
bytes_of (piece ∷ pieces) = piece ++ bytes_of pieces

-- a piece in front of others, unless it is empty
abbrev pub before : List ℕ → List (List ℕ) → List (List ℕ)
before [] pieces = pieces
before (byte ∷ bytes) pieces = (byte ∷ bytes) ∷ pieces

-- the pieces that are not empty
abbrev pub filled : List (List ℕ) → List (List ℕ)
filled [] = []
filled (piece ∷ pieces) = before piece (filled pieces)

-- what is left of these pieces once so many bytes of the first one were read
abbrev pub left_of : ℕ → List (List ℕ) → List (List ℕ)
left_of read [] = []
left_of read (piece ∷ pieces) = before (drop read piece) (filled pieces)

-- the pieces of each connection
abbrev pub lines_of : List (Vec (List ℕ)) → List (List (List ℕ))
lines_of lines = map (λ (line : Vec (List ℕ)). line.items) lines

-- a door in memory: what its last call for the next connection answered, the connections that it took, the pieces that
-- are left of the one at hand, and those of each one that waits
pub record SureDoorState : Type 0 where
  pub last : Option Next
  pub taken : List Connection
  pub left : List (List ℕ)
  pub waiting : List (List (List ℕ))

abbrev pub sure_told : SureDoorState → DoorTold
sure_told door = record { last = door.last; taken = door.taken; to_come = Some (record { here = bytes_of door.left; waiting = map bytes_of door.waiting }); faults = 0 }

-- the first connection that waits comes to hand, or there is none
abbrev pub SureComes : SureDoorState → SureDoorState → Next → Type 0
SureComes old new IsLine = (pieces : List (List ℕ)) × (old.waiting ≡ pieces ∷ new.waiting) × (new.left ≡ filled pieces)
SureComes old new Closed = (old.waiting ≡ []) × (new.waiting ≡ []) × (new.left ≡ [])
SureComes old new NextFailed = ⊥

-- a read gives what is left of a piece, or as much of it as there is room for
abbrev pub ReadsPiece : List (List ℕ) → List (List ℕ) → List ℕ → Got → Type 0
ReadsPiece [] new room (GotBytes n) = ⊥
ReadsPiece [] new room End = new ≡ []
ReadsPiece [] new room GotFailed = ⊥
ReadsPiece (piece ∷ pieces) new room (GotBytes n) = (n ≡ min (length piece) (length room)) × (take n room ≡ take n piece) × (new ≡ before (drop n piece) pieces)
ReadsPiece (piece ∷ pieces) new room End = ⊥
ReadsPiece (piece ∷ pieces) new room GotFailed = ⊥

-- there is no piece, or the first one has a byte that was not read
abbrev pub HasUnread : ℕ → List (List ℕ) → Type 0
HasUnread read [] = ⊤
HasUnread read (piece ∷ pieces) = read < length piece
