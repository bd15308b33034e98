use Rattle.std.proofs.Common.{◌≡◌, ◌++◌, drop}
use Rattle.wb_store.specs.invariants.Links.{links_of}
use Rattle.wb_store.proofs.links.containment_links.Given as goal

abbrev pub invariant-loop-record : goal.invariant-loop-record
invariant-loop-record l = l.links.items ++ links_of l.metamodel (drop l.record-index l.records) ≡ links_of l.metamodel l.records
