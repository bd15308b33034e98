-- Sinks: what one was handed and took.
use Rattle.std.specs.Prelude.{◌≡◌, ℕ, ◌≤◌, Bool, true, false, ⊤, List, [], ◌∷◌, ◌++◌, take}
use Rattle.wb_outer.specs.Faults.{Rose, fails_now, after_call}
use Rattle.wb_outer.specs.declared.faults.FaultPlan.{FaultPlan}
use Rattle.wb_outer.specs.declared.sink.Wrote.{Wrote}
use Rattle.wb_outer.specs.declared.sink.Wrote.TheVariants.{Done, Failed}

-- what a sink tells: each piece that it was handed, in order; all that it took; and its count of faults
pub record SinkTold : Type 0 where
  pub handed : List (List ℕ)
  pub took : List ℕ
  pub faults : ℕ

abbrev pub has_failed : Wrote → Bool
has_failed Done = false
has_failed Failed = true

-- the whole piece was appended, or a front of it where the call failed
abbrev pub Appended : List ℕ → List ℕ → List ℕ → Wrote → Type 0
Appended old new piece Done = new ≡ old ++ piece
Appended old new piece Failed = (n : ℕ) × (new ≡ old ++ take n piece)

-- a piece was handed to a sink
pub record Receives (old new : SinkTold) (piece : List ℕ) (wrote : Wrote) : Type 0 where
  pub handed : new.handed ≡ old.handed ++ piece ∷ []
  pub took : Appended old.took new.took piece wrote
  pub later : old.faults ≤ new.faults
  pub failed : wrote ≡ Failed → Rose old.faults new.faults

-- a sink in memory: the pieces that it was handed, what it took, and which calls fail
pub record MemorySinkState : Type 0 where
  pub handed : List (List ℕ)
  pub bytes : List ℕ
  pub plan : FaultPlan

abbrev pub memory_told : MemorySinkState → SinkTold
memory_told sink = record { handed = sink.handed; took = sink.bytes; faults = sink.plan.faults }

-- a write appends the whole piece, and none of it where it fails
abbrev pub appended : Wrote → List ℕ → List ℕ
appended Done piece = piece
appended Failed piece = []

-- a call that is to fail fails
abbrev pub IsPlanned : FaultPlan → Wrote → Type 0
IsPlanned plan Done = fails_now plan ≡ false
IsPlanned plan Failed = ⊤

-- the sink after a call that answered so
abbrev pub after_write : Wrote → List ℕ → MemorySinkState → MemorySinkState
after_write wrote piece sink = record { handed = sink.handed ++ piece ∷ []; bytes = sink.bytes ++ appended wrote piece; plan = after_call (has_failed wrote) sink.plan }

-- a sink that never fails: the pieces that it was handed, and their bytes
pub record SureSinkState : Type 0 where
  pub handed : List (List ℕ)
  pub took : List ℕ

abbrev pub sure_told : SureSinkState → SinkTold
sure_told sink = record { handed = sink.handed; took = sink.took; faults = 0 }
