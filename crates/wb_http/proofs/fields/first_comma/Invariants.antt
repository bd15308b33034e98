-- No comma so far.
use Rattle.std.proofs.Common.{◌≡◌, false, take}
use Rattle.std.specs.List.{All}
use Rattle.wb_http.specs.Fields.{is_comma}
use Rattle.wb_http.proofs.fields.first_comma.Given as goal

abbrev pub invariant-loop-at : goal.invariant-loop-at
invariant-loop-at l = All (λ b. is_comma b ≡ false) (take l.at l.value)
