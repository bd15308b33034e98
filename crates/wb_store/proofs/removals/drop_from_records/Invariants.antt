use Rattle.std.proofs.Common.{◌≡◌, ◌++◌, map, take, drop}
use Rattle.wb_store.specs.invariants.Removals.{record_left}
use Rattle.wb_store.proofs.removals.drop_from_records.Given as goal

abbrev pub invariant-loop-i : goal.invariant-loop-i
invariant-loop-i l = l.records.items ≡ map (record_left l.dead) (take l.i l.fn.records.items) ++ drop l.i l.fn.records.items
