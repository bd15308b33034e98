use Rattle.std.proofs.Common.{◌≡◌, take}
use Rattle.wb_model_json.proofs.reading.roots_of.Given as goal

abbrev pub invariant-loop-number : goal.invariant-loop-number
invariant-loop-number l = l.roots.items ≡ take l.number-index l.numbers
