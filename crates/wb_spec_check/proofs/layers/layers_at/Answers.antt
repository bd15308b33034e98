use Rattle.std.proofs.Common.{map, take, length, sym, ap, arith}
use Rattle.std.proofs.lemmas.List.{take-map}
use Rattle.wb_viewpoint.specs.declared.layers.Layer.{Layer}
use Rattle.wb_spec_check.specs.Checked.{layers_at}
use Rattle.wb_spec_check.proofs.Joined.{all_none, all_on, all_done}
use Rattle.wb_spec_check.proofs.Steps.{place_item}
use Rattle.wb_spec_check.proofs.layers.layers_at.Goals as goal

pub loop-number-init : goal.loop-number-init
loop-number-init c = all_none _ _ _

pub loop-number-preserved : goal.loop-number-preserved
loop-number-preserved c =
    let layers = c.args.names.now.1.layers in
    let i = c.loop-number.number in
    let same = rw c.content.ensures at c.as_slice-layer-items.ensures.same in
    let titled = rw c.as_str.ensures.same at c.in_ok-own.ensures in
    let told = titled (map (λ (it : Layer). it.name) layers) (map (λ (it : Layer). it.name) (take i layers)) c.layer_places.ensures (sym (take-map (λ (it : Layer). it.name) i layers)) in
    all_on c.layer-item.result _ c.loop-number.invariant (omega (arith, ap length same)) (rw same at c.layer-item.is) (rw (place_item, c.requires) at told) c.also-all.ensures

pub returns : goal.returns
unfolding layers_at
returns c =
    let same = rw c.content.ensures at c.as_slice-layer-items.ensures.same in
    all_done c.loop-number.invariant (omega (arith, ap length same))
