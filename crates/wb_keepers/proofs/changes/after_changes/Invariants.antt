-- The changes that are left lead from the rows at hand to the end.
use Rattle.std.proofs.Common.{◌≡◌, drop}
use Rattle.wb_outer.specs.Keeper.{changed}
use Rattle.wb_keepers.proofs.changes.after_changes.Given as goal

abbrev pub invariant-loop-change : goal.invariant-loop-change
invariant-loop-change l = changed (drop l.change-index l.changes) l.kept.items ≡ changed l.changes l.rows
