use Rattle.std.proofs.Common.{◌≡◌, Bool, map, take}
use Rattle.wb_diagram.specs.declared.keys.AnyKey.{AnyKey}
use Rattle.wb_looks.specs.Conditions.{Block, Tell}
use Rattle.wb_looks.specs.Visible.{is_visible_by}
use Rattle.wb_looks.proofs.visibility.visible_each.Given as goal

abbrev pub invariant-loop-place : goal.invariant-loop-place
invariant-loop-place l = (clear : AnyKey → Bool) → Tell l.conditions l.keys clear → Block clear l.keys l.blocked.keys → l.flags.items ≡ map (is_visible_by clear) (take l.place l.keys)
