use Rattle.std.proofs.Common.{◌∙◌, refl}
use Rattle.std.proofs.lemmas.Option.{slice_get_read}
use Rattle.wb_looks.specs.Visible.{is_visible_by}
use Rattle.wb_looks.proofs.BlockLaws.{shown}
use Rattle.wb_looks.proofs.MapLoops.{mapped_on}
use Rattle.wb_looks.proofs.visibility.visible_each.Goals as goal

pub loop-place-preserved : goal.loop-place-preserved
loop-place-preserved c = λ clear tell block.
    let keys = c.args.keys.now in
    let place = c.loop-place.place in
    let key = c.index-keys-place.result in
    let at = slice_get_read keys _ place key refl c.loop-place-test.true c.index-keys-place.is in
    let value = c.in_ok-flag.ensures ∙ shown clear keys c.args.blocked.now.keys block c.requires c.args.conditions.now tell place key at in
    mapped_on (is_visible_by clear) keys place key key _ _ _ c.loop-place-test.true c.index-keys-place.is (c.loop-place.invariant clear tell block) value c.in_ok-push.ensures.items
