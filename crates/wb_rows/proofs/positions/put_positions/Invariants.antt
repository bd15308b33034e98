use Rattle.std.proofs.Common.{◌≡◌, map, take}
use Rattle.std.specs.FinMap.{entries}
use Rattle.wb_rows.specs.Rows.{position_row}
use Rattle.wb_rows.specs.Texts.{with_rows}
use Rattle.wb_rows.proofs.positions.put_positions.Given as goal

abbrev pub invariant-loop-i : goal.invariant-loop-i
invariant-loop-i l = l.rows ≡ with_rows (map position_row (take l.i (entries l.layout))) l.initial.rows
