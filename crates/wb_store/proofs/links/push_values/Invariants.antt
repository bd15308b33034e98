use Rattle.std.proofs.Common.{◌≡◌, ◌++◌, drop}
use Rattle.std.specs.List.{flat_map}
use Rattle.wb_store.specs.invariants.Links.{link}
use Rattle.wb_store.proofs.links.push_values.Given as goal

abbrev pub invariant-loop-value : goal.invariant-loop-value
invariant-loop-value l = l.links.items ++ flat_map (link l.container l.feature) (drop l.value-index l.values) ≡ l.fn.links.items ++ flat_map (link l.container l.feature) l.values
