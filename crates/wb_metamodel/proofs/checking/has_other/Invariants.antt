use Rattle.std.proofs.Common.{◌≡◌, false, take}
use Rattle.std.specs.List.{list_any}
use Rattle.wb_metamodel.specs.invariants.Tables.{is_other}
use Rattle.wb_metamodel.proofs.checking.has_other.Given as goal

abbrev pub invariant-loop-feature : goal.invariant-loop-feature
invariant-loop-feature l = list_any (is_other l.row l.places) (take l.feature-index l.own) ≡ false
