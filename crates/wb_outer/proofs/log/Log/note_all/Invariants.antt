-- The entries so far are behind those of before.
use Rattle.std.proofs.Common.{◌≡◌, ◌++◌, take}
use Rattle.wb_outer.proofs.log.Log.note_all.Given as goal

abbrev pub invariant-loop-entry : goal.invariant-loop-entry
invariant-loop-entry g l = l.self ≡ l.initial.self ++ take l.entry-index l.entries
