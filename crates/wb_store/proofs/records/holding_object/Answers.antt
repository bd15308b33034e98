use Rattle.std.proofs.Common.{◌+◌, ℕ, drop, sym, ap, ◌∙◌, List}
use Rattle.std.specs.Option.{option_map}
use Rattle.std.specs.List.{find, flat_map}
use Rattle.wb_store.specs.Contents.{Filled}
use Rattle.wb_store.specs.declared.records.Slot.{Slot}
use Rattle.wb_store.specs.Cells.{holds}
use Rattle.wb_store.specs.Records.{slot_entry, slot_entries}
use Rattle.wb_store.proofs.Steps.{flat_map_more, found_first, found_later}
use Rattle.wb_store.proofs.records.holding_object.Goals as goal

pub returns-in-Some : goal.returns-in-Some
returns-in-Some c =
    let test = holds c.args.metamodel.now c.args.o in
    let here = c.in-Some.ensures c.record-item.result.id ∙ ap (λ (slots : List Slot). option_map (λ (e : (ℕ × ℕ) × Filled). e.0) (find test (flat_map (slot_entry c.record-item.result.id) slots))) c.as_slice.ensures in
    found_first test (λ (e : (ℕ × ℕ) × Filled). e.0) (slot_entries c.record-item.result) (flat_map slot_entries (drop (c.loop-record.record-index + 1) c.args.records.now)) _ here
    ∙ ap (λ es. option_map (λ (e : (ℕ × ℕ) × Filled). e.0) (find test es)) (sym (flat_map_more c.args.records.now c.loop-record.record-index c.record-item.result c.loop-record-test.true c.record-item.is slot_entries))
    ∙ ap (option_map (λ (e : (ℕ × ℕ) × Filled). e.0)) c.loop-record.invariant

pub loop-record-preserved : goal.loop-record-preserved
loop-record-preserved c =
    let test = holds c.args.metamodel.now c.args.o in
    let none = c.in_default.ensures c.record-item.result.id ∙ ap (λ (slots : List Slot). option_map (λ (e : (ℕ × ℕ) × Filled). e.0) (find test (flat_map (slot_entry c.record-item.result.id) slots))) c.as_slice.ensures in
    sym (found_later test (λ (e : (ℕ × ℕ) × Filled). e.0) (slot_entries c.record-item.result) (flat_map slot_entries (drop (c.loop-record.record-index + 1) c.args.records.now)) none)
    ∙ ap (find test) (sym (flat_map_more c.args.records.now c.loop-record.record-index c.record-item.result c.loop-record-test.true c.record-item.is slot_entries))
    ∙ c.loop-record.invariant
