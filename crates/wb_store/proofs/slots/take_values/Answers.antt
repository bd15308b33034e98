use Rattle.std.proofs.Common.{◌∙◌, sym, subst, List}
use Rattle.std.specs.Prelude.{Some, None}
use Rattle.wb_store.specs.declared.records.Slot.{Slot}
use Rattle.wb_store.specs.Places.{IsPlaceOf}
use Rattle.wb_store.specs.Records.{feature_of}
use Rattle.wb_store.proofs.SlotLemmas.{change_is, change_none, change_at, values_there, no_values}
use Rattle.wb_store.proofs.slots.take_values.Goals as goal

pub returns-in-Some-clause-taken : goal.returns-in-Some-clause-taken
returns-in-Some-clause-taken c =
    let place = subst (λ (slots : List Slot). IsPlaceOf feature_of slots c.args.f (Some c.in-Some.place)) c.as_slice.ensures.value c.in-Some.ensures in
    c.replace.ensures.value ∙ values_there c.args.f c.args.slots.now.items c.in-Some.place c.index_mut.result.now c.requires place c.index_mut.ensures.value

pub returns-in-Some-clause-left : goal.returns-in-Some-clause-left
returns-in-Some-clause-left c =
    let place = subst (λ (slots : List Slot). IsPlaceOf feature_of slots c.args.f (Some c.in-Some.place)) c.as_slice.ensures.value c.in-Some.ensures in
    change_is (c.replace.ensures.after ∙ c.new.ensures)
    (change_at c.args.f c.args.slots.now.items c.in-Some.place c.index_mut.result.now c.replace.new.dest c.requires place c.index_mut.ensures.value)

pub returns-in-None-clause-taken : goal.returns-in-None-clause-taken
returns-in-None-clause-taken c = c.new-in-None.ensures ∙ sym (no_values c.args.f c.args.slots.now.items (subst (λ (slots : List Slot). IsPlaceOf feature_of slots c.args.f None) c.as_slice.ensures.value c.in-None.ensures))

pub returns-in-None-clause-left : goal.returns-in-None-clause-left
returns-in-None-clause-left c =
    let none = no_values c.args.f c.args.slots.now.items (subst (λ (slots : List Slot). IsPlaceOf feature_of slots c.args.f None) c.as_slice.ensures.value c.in-None.ensures) in
    change_is none (change_none c.args.f c.args.slots.now.items c.requires)
