use Rattle.std.proofs.Common.{◌≡◌, map, take}
use Rattle.wb_viewpoint.specs.declared.filters.Filter.{Filter}
use Rattle.wb_picture.specs.Picture.{is_on, names_where}
use Rattle.wb_rows.specs.Rows.{filter_row}
use Rattle.wb_rows.specs.Texts.{with_rows}
use Rattle.wb_rows.proofs.switched.put_active_filters.Given as goal

abbrev pub invariant-loop-number : goal.invariant-loop-number
invariant-loop-number l = l.rows ≡ with_rows (map filter_row (names_where (λ (it : Filter). it.name) (is_on l.on) (take l.number l.filters))) l.initial.rows
