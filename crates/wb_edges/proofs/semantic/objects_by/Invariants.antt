use Rattle.std.proofs.Common.{◌≡◌, filter, take}
use Rattle.wb_edges.specs.Edges.{is_of, objects_by}
use Rattle.wb_edges.proofs.semantic.objects_by.Given as goal

abbrev pub invariant-loop-key : goal.invariant-loop-key
invariant-loop-key l = l.objects.keys ≡ objects_by (filter (is_of l.mappings) (take l.key-index l.nodes))
