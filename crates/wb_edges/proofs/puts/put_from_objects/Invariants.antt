use Rattle.std.proofs.Common.{◌≡◌, ◌≤◌, take, length}
use Rattle.std.specs.List.{flat_map}
use Rattle.wb_edges.specs.Puts.{edges_from_object, put_all}
use Rattle.wb_edges.proofs.puts.put_from_objects.Given as goal

abbrev pub invariant-loop-object : goal.invariant-loop-object
invariant-loop-object l = record {
  put : l.edges.keys ≡ put_all l.fn.edges.keys (flat_map (edges_from_object l.pair l.targets l.sources) (take l.object-index l.objects));
  few : length l.edges.keys ≤ l.grounds.room;
}
