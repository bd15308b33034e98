use Rattle.std.proofs.Common.{◌∙◌, ◌<◌, ◌∷◌, [], ap, sym, subst, length}
use Rattle.wb_diagram.specs.declared.keys.EdgeKey.{EdgeKey}
use Rattle.wb_diagram.specs.declared.keys.Key.{Key}
use Rattle.wb_edges.specs.Edges.{edge_between}
use Rattle.wb_edges.specs.Puts.{put_all}
use Rattle.wb_edges.proofs.Putting.{put_goes_on, put_none, puts_refused}
use Rattle.wb_edges.proofs.puts.put_from.Goals as goal

pub loop-target-init : goal.loop-target-init
loop-target-init c = record { put = sym (put_none c.args.edges.now.keys); few = c.requires }

pub loop-target-preserved : goal.loop-target-preserved
loop-target-preserved c =
    let h = λ (target : Key). edge_between c.args.pair.now c.args.source.now target ∷ [] in
    let copied = ap (λ (a : Key). edge_between c.args.pair.now a c.in_ok-copy-2.field-0) c.in_ok-copy.ensures ∙ ap (λ (b : Key). edge_between c.args.pair.now c.args.source.now b) c.in_ok-copy-2.ensures in
    let puts = c.in_ok-put.ensures in
    record {
      put = put_goes_on h c.args.targets.now c.loop-target.target-index c.target-item.result c.target-item.result c.args.edges.now.keys c.loop-target.edges.keys c.loop-target-test.true c.target-item.is c.loop-target.invariant.put _
          (puts.0 ∙ ap (λ (e : EdgeKey). put_all c.loop-target.edges.keys (e ∷ [])) copied);
      few = puts.1;
    }

pub returns-in_err-put : goal.returns-in_err-put
returns-in_err-put c =
    let h = λ (target : Key). edge_between c.args.pair.now c.args.source.now target ∷ [] in
    let copied = ap (λ (a : Key). edge_between c.args.pair.now a c.in_ok-copy-2.field-0) c.in_ok-copy.ensures ∙ ap (λ (b : Key). edge_between c.args.pair.now c.args.source.now b) c.in_ok-copy-2.ensures in
    puts_refused h c.args.targets.now c.loop-target.target-index c.target-item.result c.target-item.result c.args.edges.now.keys c.loop-target.edges.keys c.loop-target-test.true c.target-item.is c.loop-target.invariant.put
    c.args.grounds.now.room _ _ _ c.from_residual-in_err-put.ensures
    (λ same. subst (λ (e : EdgeKey). c.args.grounds.now.room < length (put_all c.loop-target.edges.keys (e ∷ []))) copied (c.in_err-put.ensures same))
