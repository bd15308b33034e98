use Rattle.std.proofs.Common.{◌≡◌, take}
use Rattle.std.specs.Prelude.{filter, nat_eq, not}
use Rattle.wb_aql_services.proofs.sidewards.without.Given as goal

abbrev pub invariant-loop-p : goal.invariant-loop-p
invariant-loop-p l = l.others ≡ filter (λ p. not (nat_eq p l.o)) (take l.p-index l.os)
