use Rattle.std.proofs.Common.{◌≡◌, ◌≤◌, take, length}
use Rattle.wb_edges.specs.Puts.{edges_from, put_all}
use Rattle.wb_edges.proofs.puts.put_from.Given as goal

abbrev pub invariant-loop-target : goal.invariant-loop-target
invariant-loop-target l = record {
  put : l.edges.keys ≡ put_all l.fn.edges.keys (edges_from l.pair (take l.target-index l.targets) l.source);
  few : length l.edges.keys ≤ l.grounds.room;
}
