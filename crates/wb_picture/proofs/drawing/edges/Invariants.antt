use Rattle.std.proofs.Common.{◌≡◌, take}
use Rattle.wb_picture.specs.invariants.Drawn.{drawn, edge_with}
use Rattle.wb_picture.proofs.drawing.edges.Given as goal

abbrev pub invariant-loop-place : goal.invariant-loop-place
invariant-loop-place l = l.drawn.items ≡ drawn edge_with (take l.place l.edges) l.looks l.flags
