use Rattle.std.proofs.Common.{◌≡◌, ℕ, ◌<◌, [], get_or}
use Rattle.wb_metamodel.specs.Metamodel.{features_of}
use Rattle.wb_metamodel.specs.invariants.Tables.{rank_of}
use Rattle.wb_metamodel.specs.invariants.Inherited.{FilledTo}
use Rattle.wb_metamodel.proofs.inherited.fill_rank.Given as goal

abbrev pub invariant-loop-class : goal.invariant-loop-class
invariant-loop-class l =
    FilledTo l.elements l.table.items l.rank × ((c : ℕ) → c < l.class → rank_of l.elements c ≡ l.rank → get_or l.table.items c [] ≡ features_of l.elements c)
