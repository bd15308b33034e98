use Rattle.std.proofs.Common.{◌∙◌, refl, sym, subst, List}
use Rattle.wb_store.specs.declared.records.Slot.{Slot}
use Rattle.wb_store.specs.Records.{feature_of, values_in}
use Rattle.wb_store.specs.invariants.Slots.{IsGapFor, SlotsChange}
use Rattle.wb_store.proofs.SlotLemmas.{change_is, change_insert, none_in_gap}
use Rattle.wb_store.proofs.slots.made_place.Goals as goal

pub returns-in_ok-insert-in-Err-clause-same : goal.returns-in_ok-insert-in-Err-clause-same
returns-in_ok-insert-in-Err-clause-same c =
    let slots = c.args.slots.now.items in
    let gap = subst (λ (slots : List Slot). IsGapFor feature_of slots c.args.f c.in-Err.place) c.as_slice.ensures.value c.in-Err.ensures in
    subst (λ (new : List Slot). SlotsChange c.args.f (values_in c.args.f slots) slots new) (sym c.in_ok-insert-in-Err.ensures.items)
    (change_is (c.new.ensures ∙ sym (none_in_gap c.args.f slots c.in-Err.place gap))
    (change_insert c.args.f slots c.in-Err.place (record { feature = c.args.f; values = c.new.result }) c.requires gap refl))
