use Rattle.std.proofs.Common.{map}
use Rattle.wb_refresh.specs.Tables.{Indexes, row_with}
use Rattle.wb_refresh.proofs.index.index.Given as goal

abbrev pub invariant-loop-unit : goal.invariant-loop-unit
invariant-loop-unit l = Indexes (map row_with l.yielded) l.index.entries
