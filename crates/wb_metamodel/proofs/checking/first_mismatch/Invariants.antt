use Rattle.std.proofs.Common.{◌≡◌, ◌-◌, length}
use Rattle.std.specs.List.{find, range_with_len}
use Rattle.wb_metamodel.specs.Metamodel.{numbers}
use Rattle.wb_metamodel.specs.Checks.{has_mismatch}
use Rattle.wb_metamodel.proofs.checking.first_mismatch.Given as goal

abbrev pub invariant-loop-number : goal.invariant-loop-number
invariant-loop-number l =
    find (has_mismatch l.elements) (numbers (length l.elements.features)) ≡ find (has_mismatch l.elements) (range_with_len l.number (length l.elements.features - l.number))
