use Rattle.std.proofs.Common.{take}
use Rattle.std.specs.List.{AllZip}
use Rattle.wb_metamodel.specs.invariants.Tables.{HasRow}
use Rattle.wb_metamodel.proofs.tables.rows.Given as goal

abbrev pub invariant-loop-own : goal.invariant-loop-own
invariant-loop-own l = AllZip (HasRow l.places) l.rows.items (take l.own-index l.class_features)
