use Rattle.std.proofs.Common.{◌≡◌, take}
use Rattle.std.specs.List.{list_any}
use Rattle.wb_diagram.specs.declared.keys.AnyKey.{AnyKey}
use Rattle.wb_answers.specs.SameKeys.{same_any}
use Rattle.wb_looks.proofs.conditions.marks.Given as goal

abbrev pub invariant-loop-key : goal.invariant-loop-key
invariant-loop-key l = (key : AnyKey) → list_any (same_any key) l.set.keys ≡ list_any (same_any key) (take l.key-index l.hidden)
