use Rattle.std.proofs.Common.{◌≡◌, take, length}
use Rattle.wb_diagram.specs.declared.keys.Key.{Key}
use Rattle.wb_layout.specs.Grid.{arranged, children_of}
use Rattle.wb_layout.specs.invariants.Seen.{seen_of}
use Rattle.wb_layout.proofs.arranging.lay.Given as goal

-- those so far are laid, and counted for each parent
abbrev pub invariant-loop-key : goal.invariant-loop-key
invariant-loop-key l = (l.layout ≡ arranged l.initial.layout (take l.key-index l.placeable))
    × ((parent : Key) → seen_of l.siblings parent ≡ length (children_of parent (take l.key-index l.placeable)))
