use Rattle.std.proofs.Common.{◌∙◌, ◌++◌, ◌∷◌, [], ap, subst, List}
use Rattle.std.specs.Prelude.{Some, None}
use Rattle.wb_store.specs.declared.scalars.Scalar.{Scalar}
use Rattle.wb_store.specs.declared.records.Record.{Record}
use Rattle.wb_store.specs.Places.{IsPlaceOf}
use Rattle.wb_store.specs.Records.{id_of}
use Rattle.wb_store.proofs.Found.{numbered_none}
use Rattle.wb_store.proofs.RecordLemmas.{held_out, put_back, records_is, none_some, on_ok, on_err}
use Rattle.wb_store.proofs.slots_of_objects.push_to.Goals as goal

pub unreachable-requires : goal.unreachable-requires
unreachable-requires c = none_some _ (numbered_none id_of _ c.args.o (subst (λ (rs : List Record). IsPlaceOf id_of rs c.args.o None) c.as_slice.ensures.value c.in-None.ensures)) c.requires.live

pub returns-clause-ok : goal.returns-clause-ok
returns-clause-ok c =
    let records = c.args.records.now.items in
    let r = c.index_mut-record.result.now in
    let place = subst (λ (rs : List Record). IsPlaceOf id_of rs c.args.o (Some c.in-Some.place)) c.as_slice.ensures.value c.in-Some.ensures in
    let out = c.into_vec-slots.ensures ∙ c.replace.ensures.value in
    on_ok c.push_value-pushed.result (λ change. records_is (ap (λ (vs : List Scalar). vs ++ c.args.value ∷ []) (held_out c.args.o records c.in-Some.place r c.requires.rise place c.index_mut-record.ensures.value c.args.f c.into_vec-slots.result.items out)) (put_back c.args.o records c.in-Some.place r c.requires.rise place c.index_mut-record.ensures.value c.args.f c.into_vec-slots.result.items out _ c.push_value-pushed.new.slots.items c.from_vec.result c.from_vec.ensures change)) c.push_value-pushed.ensures.ok

pub returns-clause-err : goal.returns-clause-err
returns-clause-err c =
    let records = c.args.records.now.items in
    let r = c.index_mut-record.result.now in
    let place = subst (λ (rs : List Record). IsPlaceOf id_of rs c.args.o (Some c.in-Some.place)) c.as_slice.ensures.value c.in-Some.ensures in
    let out = c.into_vec-slots.ensures ∙ c.replace.ensures.value in
    on_err c.push_value-pushed.result (λ change. records_is (held_out c.args.o records c.in-Some.place r c.requires.rise place c.index_mut-record.ensures.value c.args.f c.into_vec-slots.result.items out) (put_back c.args.o records c.in-Some.place r c.requires.rise place c.index_mut-record.ensures.value c.args.f c.into_vec-slots.result.items out _ c.push_value-pushed.new.slots.items c.from_vec.result c.from_vec.ensures change)) c.push_value-pushed.ensures.err
