use Rattle.std.proofs.Common.{◌≡◌, drop}
use Rattle.std.specs.List.{find, flat_map}
use Rattle.wb_store.specs.Records.{slot_entries}
use Rattle.wb_store.specs.Cells.{holds}
use Rattle.wb_store.proofs.records.holding_object.Given as goal

abbrev pub invariant-loop-record : goal.invariant-loop-record
invariant-loop-record l = find (holds l.metamodel l.o) (flat_map slot_entries (drop l.record-index l.records)) ≡ find (holds l.metamodel l.o) (flat_map slot_entries l.records)
