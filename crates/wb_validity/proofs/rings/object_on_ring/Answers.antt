use Rattle.std.proofs.Common.{◌∙◌, ap, subst, List, ℕ, Option}
use Rattle.wb_store.specs.invariants.Marks.{first_marked}
use Rattle.wb_validity.specs.invariants.Rings.{AreMet}
use Rattle.wb_validity.specs.ValidTest.{is_within}
use Rattle.wb_validity.proofs.LinkLemmas.{contained_once}
use Rattle.wb_validity.proofs.Marked.{marked_least}
use Rattle.wb_validity.proofs.RingLemmas.{met_is_ring}
use Rattle.wb_validity.proofs.rings.object_on_ring.Goals as goal

pub returns : goal.returns
returns c =
    let m = c.args.store.now in
    let rs = c.args.records.now in
    let once = contained_once m rs c.requires.kept c.args.holders.now c.requires.knows in
    let above = c.in_ok-above.above.items in
    let far = c.in_ok-above.ensures in
    let met = subst (λ (ps : List (Option ℕ)). AreMet ps c.in_ok-met.met.items) c.as_slice.ensures.value c.in_ok-met.ensures in
    c.first_marked.ensures ∙ ap (first_marked rs) c.as_slice-2.ensures.value
    ∙ marked_least m rs c.requires.kept (λ o k. is_within m o o) c.in_ok-met.met.items (met.each ∙ far.is_above.each)
    (λ i r mark e f. met.marked i mark f ∙ met_is_ring m rs c.requires.kept once above far i r e)
