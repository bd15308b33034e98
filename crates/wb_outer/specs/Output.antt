-- The output of the system: what it told, and what a whole piece comes to.
use Rattle.std.specs.Prelude.{◌≡◌, ℕ, ◌+◌, ◌<◌, ◌≤◌, ◌⊎◌, List, [], ◌++◌, length, take, Option}
use Rattle.std.specs.Io.KnownBytes.{Appends, Keeps}
use Rattle.wb_outer.specs.Sink.{SinkTold}
use Rattle.wb_outer.specs.Files.{rounds}
use Rattle.wb_outer.specs.declared.output.OutputTold.{OutputTold}
use Rattle.wb_outer.specs.declared.output.Put.{Put}
use Rattle.wb_outer.specs.declared.output.Put.TheVariants.{Took, Interrupted, Failed as PutFailed}
use Rattle.wb_outer.specs.declared.sink.Wrote.{Wrote}
use Rattle.wb_outer.specs.declared.sink.Wrote.TheVariants.{Done, Failed}

-- nothing was written yet
abbrev pub nothing_told : OutputTold
nothing_told = record { took = []; writes = 0; failures = 0 }

-- a write of these bytes answered so
abbrev pub after_put : Put → List ℕ → OutputTold → OutputTold
after_put (Took n) bytes told = record { took = told.took ++ take n bytes; writes = told.writes + 1; failures = told.failures }
after_put Interrupted bytes told = record { took = told.took; writes = told.writes + 1; failures = told.failures }
after_put PutFailed bytes told = record { took = told.took; writes = told.writes + 1; failures = told.failures + 1 }

-- at least one byte was taken, and no more than there were
abbrev pub IsPart : Put → List ℕ → Type 0
IsPart (Took n) bytes = (0 < n) × (n ≤ length bytes)
IsPart Interrupted bytes = Unit {0}
IsPart PutFailed bytes = Unit {0}

-- a write to a writer whose bytes are known: those that were taken are appended
abbrev pub PutOf : Option (List ℕ) → Option (List ℕ) → List ℕ → Put → Type 0
PutOf old new bytes (Took n) = Appends old new (take n bytes)
PutOf old new bytes Interrupted = Keeps old new
PutOf old new bytes PutFailed = Unit {0}

-- a write failed otherwise than by an interruption, or none was left to make
abbrev pub HasCause : OutputTold → OutputTold → Type 0
HasCause old new = (old.failures < new.failures) ⊎ (old.writes + rounds ≤ new.writes)

-- the whole piece was taken; or a front of it, where a write failed
abbrev pub TakesWhole : OutputTold → OutputTold → List ℕ → Wrote → Type 0
TakesWhole old new piece Done = new.took ≡ old.took ++ piece
TakesWhole old new piece Failed = ((n : ℕ) × (new.took ≡ old.took ++ take n piece)) × HasCause old new

-- a sink over an output: the output, the pieces that it was handed, and its count of faults
pub record OutputSinkState (O : Type 0) : Type 0 where
  pub output : O
  pub handed : List (List ℕ)
  pub faults : ℕ

abbrev pub output_told : {O : Type 0} → (O → OutputTold) → OutputSinkState O → SinkTold
output_told told sink = record { handed = sink.handed; took = (told sink.output).took; faults = sink.faults }
