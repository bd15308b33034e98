use Rattle.std.proofs.Common.{◌∙◌, List, ap, refl}
use Rattle.std.specs.List.{list_any}
use Rattle.std.proofs.lemmas.List.{take_all}
use Rattle.std.proofs.lemmas.Option.{slice_get_read}
use Rattle.wb_diagram.specs.declared.keys.AnyKey.{AnyKey}
use Rattle.wb_looks.specs.Conditions.{is_blocked_by}
use Rattle.wb_looks.proofs.BlockLaws.{one_more_block}
use Rattle.wb_looks.proofs.visibility.blocked.Goals as goal

pub loop-place-preserved : goal.loop-place-preserved
loop-place-preserved c = λ clear tell it.
    let keys = c.args.keys.now in
    let place = c.loop-place.place in
    let key = c.index-keys-place.result in
    let at = slice_get_read keys _ place key refl c.loop-place-test.true c.index-keys-place.is in
    one_more_block c.args.conditions.now keys clear tell place key key at it c.loop-place.set.keys c.block.new.set.keys (c.in_ok-block.ensures it) (c.loop-place.invariant clear tell it)

pub returns : goal.returns
returns c = λ clear tell it. c.loop-place.invariant clear tell it ∙ ap (λ (keys : List AnyKey). list_any (is_blocked_by clear it) keys) (take_all c.loop-place.place c.args.keys.now c.loop-place-test.false)
