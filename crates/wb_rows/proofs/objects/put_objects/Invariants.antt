use Rattle.std.proofs.Common.{◌≡◌, map, take}
use Rattle.wb_rows.specs.Rows.{object_row}
use Rattle.wb_rows.specs.Texts.{with_rows}
use Rattle.wb_rows.proofs.objects.put_objects.Given as goal

abbrev pub invariant-loop-object : goal.invariant-loop-object
invariant-loop-object l = l.rows ≡ with_rows (map (object_row l.model) (take l.object-index l.object-items)) l.initial.rows
