use Rattle.std.proofs.Common.{◌≡◌}
use Rattle.wb_aql_values.specs.Values.{with_members}
use Rattle.wb_aql_values.proofs.gathered.Gathered.put_all.Given as goal

abbrev pub invariant-loop-x : goal.invariant-loop-x
invariant-loop-x l = record {
  sort : l.self.0 ≡ l.fn.self.0;
  rest : with_members l.fn.self.0 l.self.1 l.x-iterator.rest.items ≡ with_members l.fn.self.0 l.fn.self.1 l.fn.xs;
}
