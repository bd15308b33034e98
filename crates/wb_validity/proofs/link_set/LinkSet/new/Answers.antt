use Rattle.std.proofs.Common.{◌∙◌, ◌||◌, ap, sym}
use Rattle.std.proofs.lemmas.List.{drop_all}
use Rattle.std.specs.List.{list_any}
use Rattle.wb_store.specs.invariants.Links.{Kept}
use Rattle.wb_validity.specs.invariants.LinkSets.{has_link, record_has}
use Rattle.wb_validity.proofs.Opposed.{or_none, knows_links}
use Rattle.wb_validity.proofs.link_set.LinkSet.new.Goals as goal

pub returns : goal.returns
returns c =
    let m = c.args.store.now in
    let rs = c.records-record-items.result.now in
    let links = c.loop-record.links.keys in
    let kept : Kept m rs = record { shown = c.records-record-items.ensures.shown; plain = c.records-record-items.ensures.plain } in
    knows_links m rs links kept (λ p g o.
    sym (or_none (has_link links p g o))
    ∙ ap (λ rest. has_link links p g o || list_any (record_has m.metamodel p g o) rest) (sym (drop_all c.loop-record.record-index rs c.loop-record-test.false))
    ∙ c.loop-record.invariant p g o)
