use Rattle.std.proofs.Common.{◌∙◌, sym, ap, arith}
use Rattle.std.proofs.lemmas.List.{take_all}
use Rattle.wb_layout.specs.Grid.{arranged, parent_of}
use Rattle.wb_layout.specs.Orders.{same_key}
use Rattle.wb_layout.proofs.Counts.{few}
use Rattle.wb_layout.proofs.Laid.{arranged-none, laid_more, seen_more}
use Rattle.wb_layout.proofs.arranging.lay.Goals as goal

pub loop-key-init : goal.loop-key-init
loop-key-init c = (sym (arranged-none c.args.layout.now), c.new-siblings.ensures)

pub lay_one-requires : goal.lay_one-requires
lay_one-requires c =
    let at_most = few (λ key. same_key (parent_of key) (parent_of c.key-item.result)) c.args.placeable.now c.loop-key.key-index in
    omega (arith, c.loop-key.invariant.1 (parent_of c.key-item.result), at_most, c.requires)

pub loop-key-preserved : goal.loop-key-preserved
loop-key-preserved c =
    let ks = c.args.placeable.now in
    let k = c.key-item.result in
    let i = c.loop-key.key-index in (
      laid_more c.args.layout.now c.lay_one.new.layout ks i k _ c.loop-key.layout (omega arith) c.key-item.is c.loop-key.invariant.0 (c.loop-key.invariant.1 (parent_of k)) c.in_ok-lay_one.ensures.laid,
      λ parent. seen_more ks i k parent _ _ (omega arith) c.key-item.is (c.loop-key.invariant.1 parent) (c.in_ok-lay_one.ensures.counted parent),
    )

pub returns : goal.returns
returns c = c.loop-key.invariant.0 ∙ ap (arranged c.args.layout.now) (take_all c.loop-key.key-index c.args.placeable.now (omega arith))
