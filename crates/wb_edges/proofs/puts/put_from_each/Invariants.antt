use Rattle.std.proofs.Common.{◌≡◌, ◌≤◌, take, length}
use Rattle.std.specs.List.{flat_map}
use Rattle.wb_edges.specs.Puts.{edges_from, put_all}
use Rattle.wb_edges.proofs.puts.put_from_each.Given as goal

abbrev pub invariant-loop-source : goal.invariant-loop-source
invariant-loop-source l = record {
  put : l.edges.keys ≡ put_all l.fn.edges.keys (flat_map (edges_from l.pair l.targets) (take l.source-index l.sources));
  few : length l.edges.keys ≤ l.grounds.room;
}
