use Rattle.std.proofs.Common.{◌<◌, ◌∙◌, arith, length, set}
use Rattle.std.proofs.lemmas.List.Edits.{map_over_more}
use Rattle.wb_store.specs.invariants.Removals.{record_left}
use Rattle.wb_store.proofs.removals.drop_from_records.Goals as goal

pub loop-i-preserved : goal.loop-i-preserved
loop-i-preserved c =
    let old = c.args.records.now.items in
    let x = c.index_mut.result.now in
    let within : c.loop-i.i < length old = omega (arith, c.loop-i-test.true, c.len-i-end.ensures, c.args.records.now.ok.0) in
    (λ j. set c.loop-i.records.items c.loop-i.i (record { id = x.id; class = x.class; slots = c.drop_from_slots.ensures j }))
    ∙ map_over_more (record_left c.args.dead.now) old c.loop-i.records.items c.loop-i.i x within c.loop-i.invariant c.index_mut.ensures.value
