use Rattle.std.proofs.Common.{◌∙◌, ◌+◌, ◌&&◌, ◌||◌, ap, sym, drop, eqb}
use Rattle.std.specs.List.{list_any}
use Rattle.wb_store.proofs.Steps.{drop_more}
use Rattle.wb_validity.specs.invariants.LinkSets.{has_link, slot_has}
use Rattle.wb_validity.proofs.Opposed.{or_more_of}
use Rattle.wb_validity.proofs.link_set.insert_slots.Goals as goal

pub loop-slot-preserved : goal.loop-slot-preserved
loop-slot-preserved c = λ q g o.
    let has = slot_has c.args.metamodel.now g o in
    let rest = drop (c.loop-slot.slot-index + 1) c.args.slots.now in
    let before = has_link c.loop-slot.links.keys q g o in
    ap (λ b. b || (eqb q c.args.p && list_any has rest)) (c.in_ok-insert_slot.ensures q g o)
    ∙ or_more_of before (eqb q c.args.p) (has c.slot-item.result) (list_any has rest)
    ∙ ap (λ slots. before || (eqb q c.args.p && list_any has slots)) (sym (drop_more c.args.slots.now c.loop-slot.slot-index c.slot-item.result c.loop-slot-test.true c.slot-item.is))
    ∙ c.loop-slot.invariant q g o
