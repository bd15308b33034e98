-- No member so far is `close`.
use Rattle.std.proofs.Common.{◌≡◌, length}
use Rattle.wb_http.specs.Fields.{says_close}
use Rattle.wb_http.proofs.fields.is_closing.Given as goal

abbrev pub invariant-loop-at : goal.invariant-loop-at
invariant-loop-at l = says_close l.rest ≡ says_close l.value

abbrev pub decreases-loop-at : goal.decreases-loop-at
decreases-loop-at l = length l.rest
