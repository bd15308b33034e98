use Rattle.std.proofs.Common.{◌≡◌, take}
use Rattle.wb_answers.specs.Meanings.{objects_among}
use Rattle.wb_answers.proofs.meanings.objects_among.Given as goal

abbrev pub invariant-loop-value : goal.invariant-loop-value
invariant-loop-value l = l.objects.keys ≡ objects_among (take l.value-index l.values)
