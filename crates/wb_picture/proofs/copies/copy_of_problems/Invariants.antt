use Rattle.std.proofs.Common.{◌≡◌, take}
use Rattle.wb_picture.proofs.copies.copy_of_problems.Given as goal

abbrev pub invariant-loop-problem : goal.invariant-loop-problem
invariant-loop-problem l = l.copies.items ≡ take l.problem-index l.problems
