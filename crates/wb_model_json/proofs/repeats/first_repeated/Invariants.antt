use Rattle.std.proofs.Common.{◌≡◌, drop, []}
use Rattle.wb_model_json.specs.ModelFile.{repeat_from}
use Rattle.wb_model_json.proofs.repeats.first_repeated.Given as goal

abbrev pub invariant-loop-i : goal.invariant-loop-i
invariant-loop-i l = repeat_from 0 [] l.numbers ≡ repeat_from l.i l.seen.keys (drop l.i l.numbers)
