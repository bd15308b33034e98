use Rattle.std.proofs.Common.{◌≡◌, filter, take}
use Rattle.wb_validity.specs.Valid.{conforms_to}
use Rattle.wb_edges.proofs.semantic.of_class.Given as goal

abbrev pub invariant-loop-object : goal.invariant-loop-object
invariant-loop-object l = l.kept.items ≡ filter (conforms_to l.grounds.model.now l.class) (take l.object-index l.objects)
