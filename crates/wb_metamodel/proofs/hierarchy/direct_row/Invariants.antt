use Rattle.std.proofs.Common.{◌≡◌, ℕ, ◌<◌, eqb, false, length, get_or, take}
use Rattle.std.specs.List.{list_any}
use Rattle.wb_metamodel.proofs.hierarchy.direct_row.Given as goal

abbrev pub invariant-loop-class : goal.invariant-loop-class
invariant-loop-class l =
    (length l.row.items ≡ l.count) × ((b : ℕ) → b < l.count → get_or l.row.items b false ≡ list_any (eqb b) (take l.class-index l.supertypes))
