use Rattle.std.proofs.Common.{◌≡◌, map, true}
use Rattle.std.specs.List.{AllZip, list_all}
use Rattle.std.specs.Vec.Iter.{into_iter_items}
use Rattle.wb_store.specs.declared.records.Record.{Record}
use Rattle.wb_store.specs.invariants.Arranged.{IsArranged}
use Rattle.wb_store.specs.Parts.{record_of}
use Rattle.wb_store.specs.Records.{feature_of}
use Rattle.wb_store.specs.Places.{once}
use Rattle.wb_store.proofs.arranged.arranged_records.Given as goal

abbrev pub invariant-loop-part : goal.invariant-loop-part
invariant-loop-part l = record {
  left : list_all (λ (r : Record). once (map feature_of r.slots)) (map record_of (into_iter_items l.part-iterator)) ≡ true;
  done : AllZip IsArranged (map record_of l.yielded) l.records.items;
}
