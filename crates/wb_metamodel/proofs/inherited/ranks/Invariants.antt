use Rattle.std.proofs.Common.{◌≡◌, map, take}
use Rattle.std.specs.List.{count_by}
use Rattle.wb_metamodel.proofs.inherited.ranks.Given as goal

abbrev pub invariant-loop-row : goal.invariant-loop-row
invariant-loop-row l = l.ranks.items ≡ map (λ row. count_by (λ reached. reached) row) (take l.row-index l.below)
