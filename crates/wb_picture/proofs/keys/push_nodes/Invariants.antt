use Rattle.std.proofs.Common.{◌≡◌, ◌++◌, map, take}
use Rattle.wb_diagram.specs.declared.keys.AnyKey.TheVariants.{Node as NodeKey}
use Rattle.wb_picture.proofs.keys.push_nodes.Given as goal

abbrev pub invariant-loop-key : goal.invariant-loop-key
invariant-loop-key l = l.keys.items ≡ l.fn.keys.items ++ map NodeKey (take l.key-index l.nodes)
