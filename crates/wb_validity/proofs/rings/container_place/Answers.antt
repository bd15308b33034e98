use Rattle.std.proofs.Common.{◌<◌, ◌∙◌, ap, length, Some, arith}
use Rattle.std.proofs.lemmas.Option.{slice_get-get_or}
use Rattle.wb_validity.proofs.RingLemmas.{container_found}
use Rattle.wb_validity.proofs.rings.container_place.Goals as goal

pub returns-in-Some : goal.returns-in-Some
returns-in-Some c =
    let within : c.args.at < length c.args.holders.now = omega (arith, c.requires.within, c.requires.knows.each) in
    container_found c.args.store.now c.args.records.now c.requires.kept c.args.holders.now c.requires.knows c.args.at c.in-Some.link c.requires.within
    (slice_get-get_or c.args.holders.now c.args.at _ within ∙ ap Some c.in-Some.is) c.place_of_object.result c.place_of_object.ensures
