-- The row goes behind those that were passed.
use Rattle.std.proofs.Common.{◌≡◌, ◌++◌, take, drop}
use Rattle.wb_outer.specs.Keeper.{inserted}
use Rattle.wb_keepers.proofs.changes.place_of.Given as goal

abbrev pub invariant-loop-place : goal.invariant-loop-place
invariant-loop-place l = take l.place l.rows ++ inserted l.row (drop l.place l.rows) ≡ inserted l.row l.rows
