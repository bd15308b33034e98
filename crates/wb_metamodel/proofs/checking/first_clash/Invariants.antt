use Rattle.std.proofs.Common.{◌≡◌, ◌-◌, length}
use Rattle.std.specs.List.{find, range_with_len}
use Rattle.wb_metamodel.specs.Metamodel.{numbers}
use Rattle.wb_metamodel.specs.Checks.{has_clash}
use Rattle.wb_metamodel.proofs.checking.first_clash.Given as goal

abbrev pub invariant-loop-class : goal.invariant-loop-class
invariant-loop-class l =
    find (has_clash l.elements) (numbers (length l.elements.classes)) ≡ find (has_clash l.elements) (range_with_len l.class (length l.elements.classes - l.class))
