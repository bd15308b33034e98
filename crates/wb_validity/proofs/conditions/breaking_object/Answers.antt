use Rattle.std.proofs.Common.{ap, sym, ◌∙◌, not, ℕ}
use Rattle.wb_validity.specs.Broken.{breaks}
use Rattle.wb_store.specs.invariants.Links.{Kept}
use Rattle.wb_validity.proofs.Breaches.{slots_meet_kept, least_begins, least_in, least_here, least_later}
use Rattle.wb_validity.proofs.conditions.breaking_object.Goals as goal

pub loop-record-init : goal.loop-record-init
loop-record-init c =
    let records = c.records-record-items in
    least_begins c.args.store.now records.result.now (record { shown = records.ensures.shown; plain = records.ensures.plain }) (λ o k. breaks c.args.store.now c.args.condition o)

pub returns-then-not-all_meet : goal.returns-then-not-all_meet
returns-then-not-all_meet c =
    let m = c.args.store.now in
    let rs = c.records-record-items.result.now in
    let r = c.record-item.result in
    let kept : Kept m rs = record { shown = c.records-record-items.ensures.shown; plain = c.records-record-items.ensures.plain } in
    let passes = λ (o k : ℕ). breaks m c.args.condition o in
    let is_in = least_in m rs kept passes c.loop-record.record-index r c.loop-record-test.true c.record-item.is in
    let here = ap not (slots_meet_kept m rs kept c.args.condition r is_in c.as_slice-slots.result.now c.as_slice-slots.ensures ∙ sym c.in_ok-all_meet.ensures ∙ c.if-not-all_meet.true) in
    least_here m rs kept passes c.loop-record.record-index r c.loop-record-test.true c.record-item.is here c.loop-record.invariant

pub loop-record-preserved : goal.loop-record-preserved
loop-record-preserved c =
    let m = c.args.store.now in
    let rs = c.records-record-items.result.now in
    let r = c.record-item.result in
    let kept : Kept m rs = record { shown = c.records-record-items.ensures.shown; plain = c.records-record-items.ensures.plain } in
    let passes = λ (o k : ℕ). breaks m c.args.condition o in
    let is_in = least_in m rs kept passes c.loop-record.record-index r c.loop-record-test.true c.record-item.is in
    let here = ap not (slots_meet_kept m rs kept c.args.condition r is_in c.as_slice-slots.result.now c.as_slice-slots.ensures ∙ sym c.in_ok-all_meet.ensures ∙ c.if-not-all_meet.false) in
    least_later m rs kept passes c.loop-record.record-index r c.loop-record-test.true c.record-item.is here c.loop-record.invariant
