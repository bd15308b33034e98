use Rattle.std.proofs.Common.{◌≡◌, map, take}
use Rattle.wb_rows.specs.Rows.{hidden_row}
use Rattle.wb_rows.specs.Texts.{with_rows}
use Rattle.wb_rows.proofs.marked.put_hidden.Given as goal

abbrev pub invariant-loop-key : goal.invariant-loop-key
invariant-loop-key l = l.rows ≡ with_rows (map hidden_row (take l.key-index l.keys)) l.initial.rows
