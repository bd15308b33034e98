use Rattle.std.proofs.Common.{sym, subst, rules}
use Rattle.std.proofs.lemmas.List.Sorted.{answers_always}
use Rattle.std.specs.Result.{result_ok}
use Rattle.wb_store.specs.Places.{IsPlaceOf}
use Rattle.wb_store.specs.Records.{feature_of}
use Rattle.wb_store.proofs.Found.{place_found}
use Rattle.wb_store.proofs.records.place_of_feature.Goals as goal

pub returns : goal.returns
returns c =
    let facts = c.binary_search_by_key.ensures in
    let by_number = facts.position feature_of (answers_always _ _ _ (λ f a r g called. search rules)) in
    subst (IsPlaceOf feature_of c.args.slots.now c.args.f) (sym c.ok.ensures.value)
    (subst (λ n. IsPlaceOf feature_of c.args.slots.now n (result_ok c.binary_search_by_key.result)) c.f.view_is (place_found feature_of _ _ _ c.requires facts.bound by_number))
