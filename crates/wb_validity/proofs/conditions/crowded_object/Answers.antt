use Rattle.std.proofs.Common.{ap, sym, refl, ◌∙◌, not, ◌||◌, eqb, ℕ}
use Rattle.std.specs.List.{list_any}
use Rattle.wb_validity.specs.declared.conditions.Condition.TheVariants.{HasRoom}
use Rattle.wb_validity.specs.Broken.{is_crowded}
use Rattle.wb_store.specs.invariants.Links.{Kept}
use Rattle.wb_validity.proofs.Breaches.{slots_meet_kept, least_begins, least_in, least_here, least_later}
use Rattle.wb_validity.proofs.conditions.crowded_object.Goals as goal

pub loop-record-init : goal.loop-record-init
loop-record-init c =
    let records = c.records-record-items in
    least_begins c.args.store.now records.result.now (record { shown = records.ensures.shown; plain = records.ensures.plain }) (λ o k. is_crowded c.args.store.now c.args.wrong.now o)

pub returns-then-crowded : goal.returns-then-crowded
returns-then-crowded c =
    let m = c.args.store.now in
    let rs = c.records-record-items.result.now in
    let r = c.record-item.result in
    let kept : Kept m rs = record { shown = c.records-record-items.ensures.shown; plain = c.records-record-items.ensures.plain } in
    let passes = λ (o k : ℕ). is_crowded m c.args.wrong.now o in
    let is_in = least_in m rs kept passes c.loop-record.record-index r c.loop-record-test.true c.record-item.is in
    let here = ap (λ b. list_any (λ p. eqb p r.id) c.args.wrong.now || not b) (slots_meet_kept m rs kept HasRoom r is_in r.slots refl) ∙ sym c.in_ok-crowded.ensures ∙ c.if-crowded.true in
    least_here m rs kept passes c.loop-record.record-index r c.loop-record-test.true c.record-item.is here c.loop-record.invariant

pub loop-record-preserved : goal.loop-record-preserved
loop-record-preserved c =
    let m = c.args.store.now in
    let rs = c.records-record-items.result.now in
    let r = c.record-item.result in
    let kept : Kept m rs = record { shown = c.records-record-items.ensures.shown; plain = c.records-record-items.ensures.plain } in
    let passes = λ (o k : ℕ). is_crowded m c.args.wrong.now o in
    let is_in = least_in m rs kept passes c.loop-record.record-index r c.loop-record-test.true c.record-item.is in
    let here = ap (λ b. list_any (λ p. eqb p r.id) c.args.wrong.now || not b) (slots_meet_kept m rs kept HasRoom r is_in r.slots refl) ∙ sym c.in_ok-crowded.ensures ∙ c.if-crowded.false in
    least_later m rs kept passes c.loop-record.record-index r c.loop-record-test.true c.record-item.is here c.loop-record.invariant
