-- How a program ends.
use Rattle.std.specs.Prelude.{◌≡◌, ℕ, ◌⊎◌, List, Option, None, Some, Result, Ok, Err}
use Rattle.std.specs.declared.alloc.AllocError.{AllocError}
use Rattle.wb_outer.specs.Sink.{SinkTold, Receives}
use Rattle.wb_outer.specs.declared.sink.Wrote.TheVariants.{Done, Failed}

-- the text was handed to the sink, at once: status 0 where it took the whole, and 6 where the call failed
abbrev pub Prints : SinkTold → SinkTold → List ℕ → ℕ → Type 0
Prints old new text status = ((status ≡ 0) × Receives old new text Done) ⊎ ((status ≡ 6) × Receives old new text Failed)

-- the status by the answer, 3 without one and 11 where memory ran out, and nothing is handed to the sink then
abbrev pub Ends : SinkTold → SinkTold → Result (Option (List ℕ)) AllocError → ℕ → Type 0
Ends old new (Ok (Some text)) status = Prints old new text status
Ends old new (Ok None) status = (status ≡ 3) × (new ≡ old)
Ends old new (Err error) status = (status ≡ 11) × (new ≡ old)
