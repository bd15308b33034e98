use Rattle.std.proofs.Common.{◌≡◌, take}
use Rattle.wb_viewpoint.specs.declared.filters.Filter.{Filter}
use Rattle.wb_picture.specs.Picture.{is_on, names_where}
use Rattle.wb_picture.proofs.switched.filter_names.Given as goal

abbrev pub invariant-loop-number : goal.invariant-loop-number
invariant-loop-number l = l.names.items ≡ names_where (λ (it : Filter). it.name) (is_on l.on) (take l.number l.filters)
