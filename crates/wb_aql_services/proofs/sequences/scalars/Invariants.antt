use Rattle.std.proofs.Common.{◌≡◌, map, take}
use Rattle.wb_store.specs.declared.scalars.Scalar.TheVariants.{Object}
use Rattle.wb_aql_services.proofs.sequences.scalars.Given as goal

abbrev pub invariant-loop-o : goal.invariant-loop-o
invariant-loop-o l = l.xs ≡ map Object (take l.o-index l.os)
