use Rattle.std.proofs.Common.{◌≡◌, take}
use Rattle.wb_nodes.specs.Nodes.{fitting}
use Rattle.wb_nodes.specs.Grounds.{scene}
use Rattle.wb_nodes.proofs.candidates.fitting.Given as goal

abbrev pub invariant-loop-object : goal.invariant-loop-object
invariant-loop-object l = l.keys.items ≡ fitting (scene l.grounds) l.path l.number l.node (take l.object-index l.objects)
