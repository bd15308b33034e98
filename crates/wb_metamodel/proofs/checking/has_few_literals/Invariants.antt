use Rattle.std.proofs.Common.{◌≡◌, ◌+◌, length, take}
use Rattle.std.specs.List.{sum_by}
use Rattle.wb_ecore.specs.declared.classes.Enumeration.{Enumeration}
use Rattle.wb_metamodel.proofs.checking.has_few_literals.Given as goal

abbrev pub invariant-loop-enumeration : goal.invariant-loop-enumeration
invariant-loop-enumeration l = l.room + sum_by (λ (enumeration : Enumeration). length enumeration.literals) (take l.enumeration-index l.enumerations) ≡ 10000
