use Rattle.std.proofs.Common.{◌≡◌, ◌+◌, drop}
use Rattle.std.specs.Prelude.{nat_eq}
use Rattle.std.specs.List.{position_or_len}
use Rattle.wb_aql_services.proofs.sidewards.place_of.Given as goal

abbrev pub invariant-loop-i : goal.invariant-loop-i
invariant-loop-i l = l.i + position_or_len (λ p. nat_eq p l.o) (drop l.i l.os) ≡ position_or_len (λ p. nat_eq p l.o) l.os
