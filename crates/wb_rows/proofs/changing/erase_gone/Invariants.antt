use Rattle.std.proofs.Common.{◌≡◌, ◌++◌, filter, map, take}
use Rattle.wb_rows.specs.Changes.{erase, is_gone}
use Rattle.wb_rows.proofs.changing.erase_gone.Given as goal

abbrev pub invariant-loop-row : goal.invariant-loop-row
invariant-loop-row l = l.changes.items ≡ l.initial.changes.items ++ map erase (filter (is_gone l.new) (take l.row-index l.old))
