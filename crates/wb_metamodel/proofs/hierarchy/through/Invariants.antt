use Rattle.std.proofs.Common.{◌≡◌, map}
use Rattle.wb_metamodel.specs.invariants.Tables.{widened}
use Rattle.wb_metamodel.proofs.hierarchy.through.Given as goal

abbrev pub invariant-loop-row : goal.invariant-loop-row
invariant-loop-row l = l.rows.items ≡ map (widened l.k l.via.items) l.yielded
