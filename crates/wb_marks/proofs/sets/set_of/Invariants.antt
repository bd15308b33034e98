use Rattle.std.proofs.Common.{take}
use Rattle.wb_marks.specs.Ones.{SameItems}
use Rattle.wb_marks.proofs.sets.set_of.Given as goal

abbrev pub invariant-loop-item : goal.invariant-loop-item
invariant-loop-item g l = SameItems g.T.PartialEq.eq (take l.item-index l.items) l.set.keys
