use Rattle.std.proofs.Common.{take}
use Rattle.wb_metamodel.specs.invariants.Tables.{LiteralPlaces}
use Rattle.wb_metamodel.proofs.tables.literal_names.Given as goal

abbrev pub invariant-loop-enumeration : goal.invariant-loop-enumeration
invariant-loop-enumeration l = LiteralPlaces l.tables.items (take l.enumeration-index l.enumerations)
