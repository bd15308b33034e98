use Rattle.std.proofs.lemmas.Option.{slice_get_within}
use Rattle.wb_store.proofs.inverse.is_container_reference.Goals as goal

pub is_containment-requires : goal.is_containment-requires
is_containment-requires c =
    let other = c.well_formed-2.ensures.opposites c.args.f c.in-Some.g c.feature.result.now c.feature.ensures c.in-Some.is in
    slice_get_within c.args.metamodel.now.features c.in-Some.g other.0 other.1
