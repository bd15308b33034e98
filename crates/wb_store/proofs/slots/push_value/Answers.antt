use Rattle.std.proofs.Common.{◌∙◌, ◌++◌, ◌∷◌, [], ap, List}
use Rattle.wb_store.specs.declared.scalars.Scalar.{Scalar}
use Rattle.wb_store.proofs.SlotLemmas.{change_is, change_at, change_then, values_there, values_now}
use Rattle.wb_store.proofs.slots.push_value.Goals as goal

pub returns-clause-ok : goal.returns-clause-ok
returns-clause-ok c =
    let f = c.args.f in
    let slots = c.made_place.new.slots.items in
    let made = c.made_place.ensures.same in
    let old = values_there f slots c.in_ok-place.place c.index_mut.result.now made.rise c.in_ok-place.ensures.place c.index_mut.ensures.value ∙ values_now f _ _ slots made in
    change_is (c.in_ok-push.ensures.ok ∙ ap (λ (vs : List Scalar). vs ++ c.args.value ∷ []) old)
    (change_then f _ c.push.new.self _ slots _ made (change_at f slots c.in_ok-place.place c.index_mut.result.now c.push.new.self made.rise c.in_ok-place.ensures.place c.index_mut.ensures.value))
