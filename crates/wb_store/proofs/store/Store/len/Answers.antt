use Rattle.std.proofs.Common.{◌∙◌, sym, ap, length}
use Rattle.std.proofs.lemmas.List.{length-map}
use Rattle.std.specs.FinMap.{len, len-entries}
use Rattle.wb_store.specs.Contents.{Contents}
use Rattle.wb_store.specs.Records.{kind_entry, contents_of}
use Rattle.wb_store.proofs.Maps.{entries-kinds}
use Rattle.wb_store.proofs.store.Store.len.Goals as goal

pub returns : goal.returns
returns c =
    let s = c.self.inside in
    let m = contents_of s.metamodel s.next s.records.items s.roots in
    let count = sym (length-map s.records.items kind_entry) ∙ ap length (sym (entries-kinds s.metamodel s.next s.records.items s.roots c.self.invariant.objects_rise)) ∙ sym (len-entries m.kinds) ∙ ap (λ (m : Contents). len m.kinds) c.self.view_is in
    ap length c.as_slice.ensures.value ∙ count
