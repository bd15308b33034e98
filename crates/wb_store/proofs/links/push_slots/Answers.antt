use Rattle.std.proofs.Common.{◌++◌, ◌+◌, drop, ap, sym, ◌∙◌, append_assoc, List}
use Rattle.std.specs.List.{flat_map}
use Rattle.wb_store.specs.declared.containment.Link.{Link}
use Rattle.wb_store.specs.invariants.Links.{slot_links}
use Rattle.wb_store.proofs.Steps.{flat_map_more}
use Rattle.wb_store.proofs.links.push_slots.Goals as goal

pub loop-slot-preserved : goal.loop-slot-preserved
loop-slot-preserved c =
    let links_at = slot_links c.args.metamodel.now c.args.container in
    let rest = flat_map links_at (drop (c.loop-slot.slot-index + 1) c.args.slots.now) in
    ap (λ (links : List Link). links ++ rest) c.in_ok-push_slot.ensures
    ∙ append_assoc c.loop-slot.links.items (links_at c.slot-item.result) rest
    ∙ ap (λ (links : List Link). c.loop-slot.links.items ++ links) (sym (flat_map_more c.args.slots.now c.loop-slot.slot-index c.slot-item.result c.loop-slot-test.true c.slot-item.is links_at))
    ∙ c.loop-slot.invariant
