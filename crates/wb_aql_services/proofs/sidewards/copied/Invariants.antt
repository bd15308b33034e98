use Rattle.std.proofs.Common.{◌≡◌, take}
use Rattle.wb_aql_services.proofs.sidewards.copied.Given as goal

abbrev pub invariant-loop-o : goal.invariant-loop-o
invariant-loop-o l = l.copies ≡ take l.o-index l.os
