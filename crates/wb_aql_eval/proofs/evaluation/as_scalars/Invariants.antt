use Rattle.std.proofs.Common.{◌≡◌, map, take}
use Rattle.wb_store.specs.declared.scalars.Scalar.TheVariants.{Object}
use Rattle.wb_aql_eval.proofs.evaluation.as_scalars.Given as goal

abbrev pub invariant-loop-o : goal.invariant-loop-o
invariant-loop-o l = l.scalars.items ≡ map Object (take l.o-index l.objects)
