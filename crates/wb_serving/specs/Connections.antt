-- One connection from its first byte to its end.
use Rattle.std.specs.Prelude.{◌≡◌, ◌+◌, ◌≤◌, ℕ, true, List, [], ◌∷◌, ◌++◌, length, Option}
use Rattle.wb_outer.specs.Door.{Connection, DoorTold, fresh}
use Rattle.wb_serving.specs.declared.ends.End.{End}
use Rattle.wb_serving.specs.declared.ends.End.TheVariants.{Input, Fault}
use Rattle.wb_serving.specs.Machines.{Law, MachineTold}
use Rattle.wb_serving.specs.Turns.{Turn}
use Rattle.wb_serving.specs.Counts.{IsRiseOf, unkept_among, unkept_last}
use Rattle.wb_serving.specs.Talk.{Goes, state_after, texts, Talk}
use Rattle.wb_serving.specs.Responses.{Leaves}

-- a connection that was served: what it tells in the end, the bytes that are left of it where the door tells them, how it
-- ended, the state that it left, its turns that left it open, and the one that ended it
pub record Visit (S : Type 0) : Type 0 where
  pub connection : Connection
  pub left : List ℕ
  pub end : End
  pub after : S
  pub turns : List Turn
  pub final : Option Turn

-- its replies that say that the keeper failed
abbrev pub unkept_at : {S : Type 0} → Visit S → ℕ
unkept_at v = unkept_among v.turns + unkept_last v.final

-- the door's last answer stands, and its count did not fall
pub record IsAtHand (d d' : DoorTold) : Type 0 where
  pub last : d'.last ≡ d.last
  pub later : d.faults ≤ d'.faults

module _ {S : Type 0} (law : Law S) where
  -- what was written is what is due, from a state to the one that it left; the input had ended, or a call on this very
  -- connection failed, where it ended so
  pub record IsVisit (s : S) (v : Visit S) : Type 0 where
    pub talk : Talk law s v.connection.bytes_read v.connection.bytes_written v.after v.end v.turns v.final
    pub input : v.end ≡ Input → v.left ≡ []
    pub fault : v.end ≡ Fault → v.connection.has_failed ≡ true

  -- the connection at hand was served, behind earlier ones, which stay
  pub record Served (m m' : MachineTold S) (d d' : DoorTold) (earlier : List Connection) (end : End) : Type 0 where
    pub visit : Visit S
    pub is_visit : IsVisit m.state visit
    pub taken : d'.taken ≡ earlier ++ visit.connection ∷ []
    pub leaves : Leaves d.to_come d'.to_come visit.connection.bytes_read visit.left
    pub end_is : visit.end ≡ end
    pub after_is : visit.after ≡ m'.state
    pub unkept : IsRiseOf (unkept_at visit) m.faults m'.faults

  abbrev pub IsServed : MachineTold S → MachineTold S → DoorTold → DoorTold → End → Type 0
  IsServed m m' d d' end = (earlier : List Connection) → d.taken ≡ earlier ++ fresh ∷ [] → Served m m' d d' earlier end

  -- so many turns were taken, and each left the connection open
  pub record Went (m m' : MachineTold S) (d d' : DoorTold) (earlier : List Connection) (held : List ℕ) (k : ℕ) : Type 0 where
    pub connection : Connection
    pub left : List ℕ
    pub turns : List Turn
    pub taken : d'.taken ≡ earlier ++ connection ∷ []
    pub leaves : Leaves d.to_come d'.to_come connection.bytes_read left
    pub count : length turns ≡ k
    pub goes : Goes law turns 0 m.state connection.bytes_read held
    pub state : m'.state ≡ state_after law turns m.state
    pub written : connection.bytes_written ≡ texts law turns 0 m.state
    pub unkept : IsRiseOf (unkept_among turns) m.faults m'.faults

  abbrev pub IsGoing : MachineTold S → MachineTold S → DoorTold → DoorTold → List ℕ → ℕ → Type 0
  IsGoing m m' d d' held k = (earlier : List Connection) → d.taken ≡ earlier ++ fresh ∷ [] → Went m m' d d' earlier held k
