use Rattle.std.proofs.Common.{◌≡◌, take}
use Rattle.wb_picture.specs.Opening.{opened}
use Rattle.wb_picture.proofs.opening.opened.Given as goal

abbrev pub invariant-loop-number : goal.invariant-loop-number
invariant-loop-number l = l.numbers.items ≡ opened (take l.number l.layers)
