use Rattle.std.proofs.Common.{◌∙◌, ap, sym, subst, not, List}
use Rattle.std.specs.Prelude.{filter, Some, None}
use Rattle.wb_store.specs.declared.scalars.Scalar.{Scalar}
use Rattle.wb_store.specs.declared.records.Slot.{Slot}
use Rattle.wb_store.specs.Places.{IsPlaceOf}
use Rattle.wb_store.specs.Records.{feature_of}
use Rattle.wb_store.specs.Scalars.{same}
use Rattle.wb_store.proofs.SlotLemmas.{change_is, change_none, change_at, values_there, no_values}
use Rattle.wb_store.proofs.slots.drop_value.Goals as goal

pub returns-in-Some : goal.returns-in-Some
returns-in-Some c =
    let slots = c.args.slots.now.items in
    let keep = λ (vs : List Scalar). filter (λ other. not (same other c.args.value.now)) vs in
    let place = subst (λ (slots : List Slot). IsPlaceOf feature_of slots c.args.f (Some c.in-Some.place)) c.as_slice.ensures.value c.in-Some.ensures in
    change_is
    (c.drop_same.ensures ∙ ap keep (values_there c.args.f slots c.in-Some.place c.index_mut.result.now c.requires place c.index_mut.ensures.value))
    (change_at c.args.f slots c.in-Some.place c.index_mut.result.now c.drop_same.new.values c.requires place c.index_mut.ensures.value)

pub returns-in_default : goal.returns-in_default
returns-in_default c =
    let slots = c.args.slots.now.items in
    let keep = λ (vs : List Scalar). filter (λ other. not (same other c.args.value.now)) vs in
    let none = no_values c.args.f slots (subst (λ (slots : List Slot). IsPlaceOf feature_of slots c.args.f None) c.as_slice.ensures.value c.in_default.ensures) in
    change_is (none ∙ sym (ap keep none)) (change_none c.args.f slots c.requires)
