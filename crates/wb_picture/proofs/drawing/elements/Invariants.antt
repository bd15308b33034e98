use Rattle.std.proofs.Common.{◌≡◌, take}
use Rattle.wb_picture.specs.invariants.Drawn.{drawn, element_with}
use Rattle.wb_picture.proofs.drawing.elements.Given as goal

abbrev pub invariant-loop-place : goal.invariant-loop-place
invariant-loop-place l = l.elements.items ≡ drawn (element_with l.layout) (take l.place l.nodes) l.looks l.flags
