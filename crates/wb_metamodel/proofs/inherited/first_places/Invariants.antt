use Rattle.wb_metamodel.proofs.Inherit.{Seen}
use Rattle.wb_metamodel.proofs.inherited.first_places.Given as goal

abbrev pub invariant-loop-feature : goal.invariant-loop-feature
invariant-loop-feature l = Seen l.all l.count l.feature-index l.first.items l.seen.items
