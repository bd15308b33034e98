use Rattle.std.proofs.Common.{◌≡◌, take}
use Rattle.std.specs.List.{flat_map}
use Rattle.wb_edges.specs.Grounds.{elements_in}
use Rattle.wb_edges.proofs.ends.gather.Given as goal

abbrev pub invariant-loop-object : goal.invariant-loop-object
invariant-loop-object l = l.keys.items ≡ flat_map (elements_in l.table) (take l.object-index l.objects)
