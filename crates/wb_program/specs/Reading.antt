-- What a run makes of what a reader finds in a file.
use Rattle.std.specs.Prelude.{ℕ, List, Option, Some, None, Result, Ok, Err}
use Rattle.wb_json.specs.Place.{Place}
use Rattle.wb_program.specs.declared.answer.Answer.{Answer}
use Rattle.wb_program.specs.Answers.{refused}
use Rattle.wb_program.specs.Course.{Course, gives, stops}

-- what is read, or else the answer for the code and the place, with the code's name
abbrev pub or_refused : {A C : Type 0} → (C → List ℕ) → List ℕ → Result A (C × Place) → Course A
or_refused code_name name (Ok x) = gives x
or_refused code_name name (Err wrong) = stops (refused name wrong.1 (code_name wrong.0))

-- what is found, or else an answer
abbrev pub or_else : {A : Type 0} → Answer → Option A → Course A
or_else answer (Some x) = gives x
or_else answer None = stops answer
