use Rattle.std.proofs.Common.{◌≡◌, [], get_or, take}
use Rattle.std.specs.List.{flat_map}
use Rattle.wb_metamodel.proofs.inherited.of_supertypes.Given as goal

abbrev pub invariant-loop-supertype : goal.invariant-loop-supertype
invariant-loop-supertype l = l.all.items ≡ flat_map (λ s. get_or l.table s []) (take l.supertype-index l.supertypes)
