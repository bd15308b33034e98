use Rattle.std.proofs.Common.{◌≡◌, ◌++◌, filter, map, take}
use Rattle.wb_outer.specs.declared.keeper.RowChange.TheVariants.{Put}
use Rattle.wb_rows.specs.Changes.{is_fresh}
use Rattle.wb_rows.proofs.changing.put_fresh.Given as goal

abbrev pub invariant-loop-row : goal.invariant-loop-row
invariant-loop-row l = l.changes.items ≡ l.initial.changes.items ++ map Put (filter (is_fresh l.old) (take l.row-index l.new))
