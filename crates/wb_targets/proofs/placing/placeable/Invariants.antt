use Rattle.std.proofs.Common.{◌≡◌, take}
use Rattle.wb_targets.specs.Targets.{placeable}
use Rattle.wb_targets.proofs.placing.placeable.Given as goal

abbrev pub invariant-loop-key : goal.invariant-loop-key
invariant-loop-key l = l.found.items ≡ placeable l.spec (take l.key-index l.keys)
