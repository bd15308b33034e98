use Rattle.std.proofs.Common.{◌∙◌, ap, sym, subst, List}
use Rattle.std.specs.Prelude.{Some, None, filter, not}
use Rattle.wb_store.specs.declared.scalars.Scalar.{Scalar}
use Rattle.wb_store.specs.declared.records.Record.{Record}
use Rattle.wb_store.specs.Places.{IsPlaceOf}
use Rattle.wb_store.specs.Records.{id_of}
use Rattle.wb_store.specs.Scalars.{same}
use Rattle.wb_store.proofs.RecordLemmas.{held_out, put_back, records_is, records_same, none_held}
use Rattle.wb_store.proofs.slots_of_objects.drop_from.Goals as goal

pub returns-in-Some : goal.returns-in-Some
returns-in-Some c =
    let records = c.args.records.now.items in
    let r = c.index_mut-record.result.now in
    let place = subst (λ (rs : List Record). IsPlaceOf id_of rs c.args.o (Some c.in-Some.place)) c.as_slice.ensures.value c.in-Some.ensures in
    let out = c.into_vec-slots.ensures ∙ c.replace.ensures.value in
    records_is (ap (λ (vs : List Scalar). filter (λ other. not (same other c.args.value.now)) vs) (held_out c.args.o records c.in-Some.place r c.requires.rise place c.index_mut-record.ensures.value c.args.f c.into_vec-slots.result.items out)) (put_back c.args.o records c.in-Some.place r c.requires.rise place c.index_mut-record.ensures.value c.args.f c.into_vec-slots.result.items out _ c.drop_value.new.slots.items c.from_vec.result c.from_vec.ensures c.drop_value.ensures)

pub returns-in_default : goal.returns-in_default
returns-in_default c =
    let records = c.args.records.now.items in
    let none = none_held c.args.o c.args.f records (subst (λ (rs : List Record). IsPlaceOf id_of rs c.args.o None) c.as_slice.ensures.value c.in_default.ensures) in
    records_is (none ∙ sym (ap (λ (vs : List Scalar). filter (λ other. not (same other c.args.value.now)) vs) none)) (records_same c.args.o c.args.f records)
