use Rattle.std.proofs.Common.{subst, rules}
use Rattle.std.proofs.lemmas.List.Sorted.{answers_always}
use Rattle.wb_store.specs.Records.{feature_of}
use Rattle.wb_store.specs.invariants.Slots.{IsPlaceOrGap}
use Rattle.wb_store.proofs.Placed.{place_or_gap}
use Rattle.wb_store.proofs.slots.place_or_gap.Goals as goal

pub returns : goal.returns
returns c =
    let facts = c.binary_search_by_key.ensures in
    let by_number = facts.position feature_of (answers_always _ _ _ (λ f a r g called. search rules)) in
    subst (λ n. IsPlaceOrGap feature_of c.args.slots.now n c.binary_search_by_key.result) c.f.view_is (place_or_gap feature_of c.args.slots.now _ c.binary_search_by_key.result c.requires facts.bound by_number)
