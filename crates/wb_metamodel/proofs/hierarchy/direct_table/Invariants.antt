use Rattle.std.proofs.Common.{◌≡◌, length, map, take}
use Rattle.wb_ecore.specs.declared.classes.Class.{Class}
use Rattle.wb_metamodel.specs.invariants.Tables.{direct_row}
use Rattle.wb_metamodel.proofs.hierarchy.direct_table.Given as goal

abbrev pub invariant-loop-class : goal.invariant-loop-class
invariant-loop-class l = l.rows.items ≡ map (λ (class : Class). direct_row (length l.classes) class.supertypes) (take l.class-index l.classes)
