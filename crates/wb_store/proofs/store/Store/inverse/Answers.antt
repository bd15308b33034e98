use Rattle.std.proofs.Common.{ℕ, List, map, sym, ap, ◌∙◌, ◌++◌, ◌+◌, drop, append_assoc}
use Rattle.std.proofs.lemmas.List.{map-append}
use Rattle.std.proofs.lemmas.List.Elements.{filter-append}
use Rattle.wb_metamodel.specs.Metamodel.{Metamodel}
use Rattle.wb_store.specs.declared.records.Slot.{Slot}
use Rattle.std.specs.Prelude.{filter}
use Rattle.std.specs.List.{flat_map}
use Rattle.wb_store.specs.Contents.{Filled}
use Rattle.wb_store.specs.Cells.{refers}
use Rattle.wb_store.proofs.Shown.{shown-slots}
use Rattle.wb_store.proofs.Steps.{flat_map_more}
use Rattle.wb_store.specs.Records.{slot_entry, slot_entries}
use Rattle.wb_store.proofs.store.Store.inverse.Goals as goal

pub loop-record-init : goal.loop-record-init
loop-record-init c =
    let store = c.args.self.now in
    let records = c.records-record-items in
    let keys = λ (es : List ((ℕ × ℕ) × Filled)). map (λ (e : (ℕ × ℕ) × Filled). e.0) (filter (refers store.metamodel c.args.o) es) in
    ap (λ (ks : List (ℕ × ℕ)). ks ++ keys (flat_map slot_entries records.result.now)) c.new-pairs.ensures.items
    ∙ ap keys (sym (shown-slots store records.result.now records.ensures.shown records.ensures.plain))

pub loop-record-preserved : goal.loop-record-preserved
loop-record-preserved c =
    let store = c.args.self.now in
    let key = λ (e : (ℕ × ℕ) × Filled). e.0 in
    let test = refers store.metamodel c.args.o in
    let r = c.record-item.result in
    let rest = flat_map slot_entries (drop (c.loop-record.record-index + 1) c.records-record-items.result.now) in
    let here =
    ap (λ (metamodel : Metamodel). map key (filter (refers metamodel c.args.o) (flat_map (slot_entry r.id) c.as_slice-slots.result.now))) c.metamodel.ensures
    ∙ ap (λ (slots : List Slot). map key (filter test (flat_map (slot_entry r.id) slots))) c.as_slice-slots.ensures in
    let split =
    ap (λ es. map key (filter test es)) (flat_map_more c.records-record-items.result.now c.loop-record.record-index r c.loop-record-test.true c.record-item.is slot_entries)
    ∙ ap (map key) (filter-append test (slot_entries r) rest) ∙ map-append key (filter test (slot_entries r)) (filter test rest) in
    ap (λ (ks : List (ℕ × ℕ)). ks ++ map key (filter test rest)) (c.in_ok-push_referring.ensures ∙ ap (λ (ks : List (ℕ × ℕ)). c.loop-record.pairs.items ++ ks) here)
    ∙ append_assoc c.loop-record.pairs.items (map key (filter test (slot_entries r))) (map key (filter test rest))
    ∙ ap (λ (ks : List (ℕ × ℕ)). c.loop-record.pairs.items ++ ks) (sym split)
    ∙ c.loop-record.invariant
