use Rattle.std.proofs.Common.{◌≡◌, ◌++◌, map, take}
use Rattle.wb_diagram.specs.declared.keys.AnyKey.TheVariants.{Edge as EdgeKeyOf}
use Rattle.wb_picture.proofs.keys.push_edges.Given as goal

abbrev pub invariant-loop-key : goal.invariant-loop-key
invariant-loop-key l = l.keys.items ≡ l.fn.keys.items ++ map EdgeKeyOf (take l.key-index l.edges)
