use Rattle.std.proofs.Common.{◌≡◌, take}
use Rattle.wb_marks.specs.Ones.{without_one}
use Rattle.wb_marks.proofs.lists.without_one.Given as goal

abbrev pub invariant-loop-other : goal.invariant-loop-other
invariant-loop-other g l = l.others ≡ without_one g.T.PartialEq.eq l.item (take l.other-index l.items)
