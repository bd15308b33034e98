use Rattle.std.proofs.Common.{◌≡◌, ◌-◌, length}
use Rattle.std.specs.List.{find, range_with_len}
use Rattle.wb_metamodel.specs.Metamodel.{numbers, is_below}
use Rattle.wb_metamodel.proofs.checking.first_cycle.Given as goal

abbrev pub invariant-loop-class : goal.invariant-loop-class
invariant-loop-class l =
    find (λ c. is_below l.elements c c) (numbers (length l.elements.classes)) ≡ find (λ c. is_below l.elements c c) (range_with_len l.class (length l.elements.classes - l.class))
