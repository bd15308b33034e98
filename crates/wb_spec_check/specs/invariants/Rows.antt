-- What a step of the check tells that collects rows: its rows behind those before, and its problems behind those that were told before.
use Rattle.std.specs.Prelude.{◌≡◌, List, ◌++◌, Option, Some}
use Rattle.wb_spec_check.specs.Validated.{Validated, problems_of, value_of}
use Rattle.wb_spec_check.specs.declared.problem.Problem.{Problem}
use Rattle.wb_spec_check.specs.invariants.Reports.{◌<&>◌}

-- the one list behind the other, where both are there
abbrev pub behind : {A : Type 0} → Option (List A) → Option (List A) → Option (List A)
behind xs ys = Some (λ xs ys. xs ++ ys) <&> xs <&> ys

-- the rows stand behind those before, where all are good
pub record TellsRows {A : Type 0} (found : Validated (List A)) (old : List Problem) (before after : Option (List A)) (new : List Problem) : Type 0 where
  pub rows : after ≡ behind before (value_of found)
  pub problems : new ≡ old ++ problems_of found
