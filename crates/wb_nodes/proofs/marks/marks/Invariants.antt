use Rattle.std.proofs.Common.{◌≡◌, take}
use Rattle.std.specs.List.{list_any}
use Rattle.wb_diagram.specs.declared.keys.Key.{Key}
use Rattle.wb_answers.specs.SameKeys.{same_key}
use Rattle.wb_nodes.proofs.marks.marks.Given as goal

abbrev pub invariant-loop-key : goal.invariant-loop-key
invariant-loop-key l = (key : Key) → list_any (same_key key) l.set.keys ≡ list_any (same_key key) (take l.key-index l.shown)
