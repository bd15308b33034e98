use Rattle.wb_metamodel.specs.invariants.Inherited.{FilledTo}
use Rattle.wb_metamodel.proofs.inherited.features_table.Given as goal

abbrev pub invariant-loop-rank : goal.invariant-loop-rank
invariant-loop-rank l = FilledTo l.elements l.table.items l.rank
