use Rattle.std.proofs.Common.{◌≡◌, filter, take}
use Rattle.wb_answers.specs.SameKeys.{among}
use Rattle.wb_marks.proofs.settling.kept_nodes.Given as goal

abbrev pub invariant-loop-key : goal.invariant-loop-key
invariant-loop-key l = l.kept ≡ filter (among l.declared.nodes.keys) (take l.key-index l.keys)
