use Rattle.std.proofs.Common.{◌≡◌, ◌++◌, map, take}
use Rattle.wb_diagram.specs.declared.keys.AnyKey.TheVariants.{Node, Edge}
use Rattle.wb_refresh.proofs.declaring.all_keys.Given as goal

abbrev pub invariant-loop-key : goal.invariant-loop-key
invariant-loop-key l = l.keys.items ≡ map Node (take l.key-index l.nodes)

abbrev pub invariant-loop-key-2 : goal.invariant-loop-key-2
invariant-loop-key-2 l = l.keys.items ≡ map Node l.nodes ++ map Edge (take l.key-index l.edges)
