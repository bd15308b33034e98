use Rattle.std.proofs.Common.{filter, take}
use Rattle.wb_edges.specs.Edges.{is_of}
use Rattle.wb_edges.specs.Grounds.{Indexes}
use Rattle.wb_edges.proofs.ends.index.Given as goal

abbrev pub invariant-loop-key : goal.invariant-loop-key
invariant-loop-key l = Indexes l.table (filter (is_of l.mappings) (take l.key-index l.nodes))
