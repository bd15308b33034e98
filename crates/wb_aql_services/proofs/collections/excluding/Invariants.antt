use Rattle.std.proofs.Common.{◌≡◌, take}
use Rattle.std.specs.Prelude.{filter, not}
use Rattle.wb_aql_services.specs.Collections.{is_same}
use Rattle.wb_aql_services.proofs.collections.excluding.Given as goal

abbrev pub invariant-loop-x : goal.invariant-loop-x
invariant-loop-x l = l.others ≡ filter (λ x. not (is_same l.value x)) (take l.x-index l.x-items)
