use Rattle.std.proofs.Common.{◌∙◌, sym, subst, List}
use Rattle.std.specs.Prelude.{Some, None}
use Rattle.wb_store.specs.declared.records.Record.{Record}
use Rattle.wb_store.specs.Places.{IsPlaceOf}
use Rattle.wb_store.specs.Records.{id_of}
use Rattle.wb_store.proofs.RecordLemmas.{held_out, put_back, records_is, records_same, none_held}
use Rattle.wb_store.proofs.slots_of_objects.take_from.Goals as goal

pub returns-in-Some-clause-taken : goal.returns-in-Some-clause-taken
returns-in-Some-clause-taken c =
    let records = c.args.records.now.items in
    let r = c.index_mut-record.result.now in
    let place = subst (λ (rs : List Record). IsPlaceOf id_of rs c.args.o (Some c.in-Some.place)) c.as_slice.ensures.value c.in-Some.ensures in
    let out = c.into_vec-slots.ensures ∙ c.replace.ensures.value in
    c.take_values-values.ensures.taken ∙ held_out c.args.o records c.in-Some.place r c.requires.rise place c.index_mut-record.ensures.value c.args.f c.into_vec-slots.result.items out

pub returns-in-Some-clause-left : goal.returns-in-Some-clause-left
returns-in-Some-clause-left c =
    let records = c.args.records.now.items in
    let r = c.index_mut-record.result.now in
    let place = subst (λ (rs : List Record). IsPlaceOf id_of rs c.args.o (Some c.in-Some.place)) c.as_slice.ensures.value c.in-Some.ensures in
    let out = c.into_vec-slots.ensures ∙ c.replace.ensures.value in
    put_back c.args.o records c.in-Some.place r c.requires.rise place c.index_mut-record.ensures.value c.args.f c.into_vec-slots.result.items out _ c.take_values-values.new.slots.items c.from_vec.result c.from_vec.ensures c.take_values-values.ensures.left

pub returns-in-None-clause-taken : goal.returns-in-None-clause-taken
returns-in-None-clause-taken c = c.new-in-None.ensures ∙ sym (none_held c.args.o c.args.f c.args.records.now.items (subst (λ (rs : List Record). IsPlaceOf id_of rs c.args.o None) c.as_slice.ensures.value c.in-None.ensures))

pub returns-in-None-clause-left : goal.returns-in-None-clause-left
returns-in-None-clause-left c =
    let records = c.args.records.now.items in
    records_is (none_held c.args.o c.args.f records (subst (λ (rs : List Record). IsPlaceOf id_of rs c.args.o None) c.as_slice.ensures.value c.in-None.ensures)) (records_same c.args.o c.args.f records)
