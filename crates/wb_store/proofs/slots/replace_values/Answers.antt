use Rattle.wb_store.proofs.SlotLemmas.{change_at, change_then}
use Rattle.wb_store.proofs.slots.replace_values.Goals as goal

pub returns-clause-ok : goal.returns-clause-ok
returns-clause-ok c =
    let f = c.args.f in
    let slots = c.made_place.new.slots.items in
    let made = c.made_place.ensures.same in
    change_then f _ c.args.values _ slots _ made (change_at f slots c.in_ok-place.place c.index_mut.result.now c.args.values made.rise c.in_ok-place.ensures.place c.index_mut.ensures.value)
