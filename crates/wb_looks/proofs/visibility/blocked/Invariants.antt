use Rattle.std.proofs.Common.{Bool, take}
use Rattle.wb_diagram.specs.declared.keys.AnyKey.{AnyKey}
use Rattle.wb_looks.specs.Conditions.{Block, Tell}
use Rattle.wb_looks.proofs.visibility.blocked.Given as goal

abbrev pub invariant-loop-place : goal.invariant-loop-place
invariant-loop-place l = (clear : AnyKey → Bool) → Tell l.conditions l.keys clear → Block clear (take l.place l.keys) l.set.keys
