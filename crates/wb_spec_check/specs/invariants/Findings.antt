-- What a look-up of a name answers: what the name names, or the code of its problem.
use Rattle.std.specs.Prelude.{◌≡◌, ℕ, List, Result, Ok, Err}
use Rattle.wb_expressions.specs.declared.problem.ProblemCode.{ProblemCode}
use Rattle.wb_spec_check.specs.Validated.{Finding}

-- the problem of a name tells the name
abbrev pub Finds : {A : Type 0} → List ℕ → Result A ProblemCode → Result A Finding → Type 0
Finds name (Ok v) found = found ≡ Ok v
Finds name (Err code) found = found ≡ Err (code, name)
