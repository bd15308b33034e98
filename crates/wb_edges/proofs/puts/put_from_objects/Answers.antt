use Rattle.std.proofs.Common.{◌∙◌, ◌<◌, List, ap, sym, subst, length}
use Rattle.std.specs.List.{flat_map}
use Rattle.wb_diagram.specs.declared.keys.Key.{Key}
use Rattle.wb_edges.specs.Puts.{edges_from, edges_from_object, put_all}
use Rattle.wb_edges.proofs.Putting.{put_goes_on, put_none, puts_refused}
use Rattle.wb_edges.proofs.puts.put_from_objects.Goals as goal

pub loop-object-init : goal.loop-object-init
loop-object-init c = record { put = sym (put_none c.args.edges.now.keys); few = c.requires }

pub loop-object-preserved : goal.loop-object-preserved
loop-object-preserved c =
    let puts = c.in_ok-put_from_each.ensures in
    record {
      put = put_goes_on (edges_from_object c.args.pair.now c.args.targets.now c.args.sources.now) c.args.objects.now c.loop-object.object-index c.object-item.result c.object-item.result c.args.edges.now.keys c.loop-object.edges.keys c.loop-object-test.true c.object-item.is c.loop-object.invariant.put _
          (puts.0 ∙ ap (λ (own : List Key). put_all c.loop-object.edges.keys (flat_map (edges_from c.args.pair.now c.args.targets.now) own)) c.elements_for-own.ensures);
      few = puts.1;
    }

pub returns-in_err-put_from_each : goal.returns-in_err-put_from_each
returns-in_err-put_from_each c =
    puts_refused (edges_from_object c.args.pair.now c.args.targets.now c.args.sources.now) c.args.objects.now c.loop-object.object-index c.object-item.result c.object-item.result c.args.edges.now.keys c.loop-object.edges.keys c.loop-object-test.true c.object-item.is c.loop-object.invariant.put
    c.args.grounds.now.room _ _ _ c.from_residual.ensures
    (λ same. subst (λ (own : List Key). c.args.grounds.now.room < length (put_all c.loop-object.edges.keys (flat_map (edges_from c.args.pair.now c.args.targets.now) own))) c.elements_for-own.ensures (c.in_err-put_from_each.ensures same))
