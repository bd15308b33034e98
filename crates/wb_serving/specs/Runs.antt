-- All connections of a run, over one state.
use Rattle.std.specs.Prelude.{◌≡◌, ℕ, ◌+◌, ◌<◌, ◌≤◌, ⊤, List, [], ◌∷◌, ◌++◌, length, map, Option, Some, IfSome}
use Rattle.wb_outer.specs.Door.{DoorTold, ToCome}
use Rattle.wb_outer.specs.declared.door.Next.{Next}
use Rattle.wb_outer.specs.declared.door.Next.TheVariants as next
use Rattle.wb_serving.specs.declared.ends.End.{End}
use Rattle.wb_serving.specs.declared.ends.End.TheVariants as ends
use Rattle.wb_serving.specs.declared.ends.Ended.{Ended}
use Rattle.wb_serving.specs.declared.ends.Ended.TheVariants.{Closed, Stopped, Fault, Spent}
use Rattle.wb_serving.specs.Machines.{Law, MachineTold, Keeps}
use Rattle.wb_serving.specs.Counts.{IsRiseOf}
use Rattle.wb_serving.specs.Connections.{Visit, IsVisit, unkept_at}

-- each connection is served from the state that the one before it left
abbrev pub Walks : {S : Type 0} → Law S → List (Visit S) → S → S → Type 0
Walks law [] s s' = s' ≡ s
Walks law (v ∷ vs) s s' = IsVisit law s v × Walks law vs v.after s'

-- a connection that ends by a fault
abbrev pub fault_of : End → ℕ
fault_of ends.Input = 0
fault_of ends.Stop = 0
fault_of ends.Spent = 0
fault_of ends.Close = 0
fault_of ends.Fault = 1

-- one more where the next connection could not be taken
abbrev pub fault_at : Ended → ℕ
fault_at Closed = 0
fault_at Stopped = 0
fault_at Fault = 1
fault_at Spent = 0

module _ {S : Type 0} where
  -- none of them stopped the program
  abbrev pub NoneStops : List (Visit S) → Type 0
  NoneStops [] = ⊤
  NoneStops (v ∷ vs) = (v.end ≡ ends.Stop → ⊥) × NoneStops vs

  -- the last one stopped the program, and none before it
  pub record LastStops (visits : List (Visit S)) : Type 0 where
    pub earlier : List (Visit S)
    pub last : Visit S
    pub parts : visits ≡ earlier ++ last ∷ []
    pub none : NoneStops earlier
    pub stop : last.end ≡ ends.Stop

  -- why a run ended
  abbrev pub Stops : Ended → List (Visit S) → Option Next → ℕ → Type 0
  Stops Closed visits last limit = (last ≡ Some next.Closed) × NoneStops visits × (length visits < limit)
  Stops Stopped visits last limit = LastStops visits × (length visits ≤ limit)
  Stops Fault visits last limit = (last ≡ Some next.Failed) × NoneStops visits × (length visits < limit)
  Stops Spent visits last limit = NoneStops visits × (length visits ≡ limit)

  -- the replies that say that the keeper failed
  abbrev pub unkept_of : List (Visit S) → ℕ
  unkept_of [] = 0
  unkept_of (v ∷ vs) = unkept_at v + unkept_of vs

  -- the connections that end by a fault
  abbrev pub faults_of : List (Visit S) → ℕ
  faults_of [] = 0
  faults_of (v ∷ vs) = fault_of v.end + faults_of vs

  -- all bytes of a connection, those left among them
  abbrev pub bytes_of : Visit S → List ℕ
  bytes_of v = v.connection.bytes_read ++ v.left

  -- these connections were the first ones that waited
  abbrev pub AreFrom : Option ToCome → Option ToCome → List (Visit S) → Type 0
  AreFrom old new visits = IfSome old (λ to_come. (left : ToCome) × (new ≡ Some left) × (to_come.waiting ≡ map bytes_of visits ++ left.waiting))

module _ {S : Type 0} (law : Law S) where
  -- these connections were taken and served, in order, and the counts bound the faults
  pub record Run (m m' : MachineTold S) (d d' : DoorTold) (visits : List (Visit S)) (more : ℕ) : Type 0 where
    pub walk : Walks law visits m.state m'.state
    pub taken : d'.taken ≡ d.taken ++ map (λ (v : Visit S). v.connection) visits
    pub to_come : AreFrom d.to_come d'.to_come visits
    pub unkept : IsRiseOf (unkept_of visits) m.faults m'.faults
    pub faults : IsRiseOf (faults_of visits + more) d.faults d'.faults
    pub keeps : Keeps law m m'
    pub later : d.faults ≤ d'.faults

  -- what was served; where no connection was to come, all that waited were served
  pub record Serves (m m' : MachineTold S) (d d' : DoorTold) (limit : ℕ) (ended : Ended) : Type 0 where
    pub visits : List (Visit S)
    pub run : Run m m' d d' visits (fault_at ended)
    pub stops : Stops ended visits d'.last limit
    pub closed : ended ≡ Closed → IfSome d.to_come (λ to_come. to_come.waiting ≡ map bytes_of visits)

  -- so far
  pub record IsServing (m m' : MachineTold S) (d d' : DoorTold) (count : ℕ) : Type 0 where
    pub visits : List (Visit S)
    pub run : Run m m' d d' visits 0
    pub none : NoneStops visits
    pub count_is : length visits ≡ count
