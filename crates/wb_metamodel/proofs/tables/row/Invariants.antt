use Rattle.wb_metamodel.proofs.ByName.{RowTo}
use Rattle.wb_metamodel.proofs.tables.row.Given as goal

abbrev pub invariant-loop-feature : goal.invariant-loop-feature
invariant-loop-feature l = RowTo l.places l.own l.feature-index l.row.items
