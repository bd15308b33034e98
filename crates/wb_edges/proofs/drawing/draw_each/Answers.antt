use Rattle.std.proofs.Common.{ℕ, sym}
use Rattle.wb_answers.specs.Seen.{Told}
use Rattle.wb_answers.proofs.SeenLaws.{after_none}
use Rattle.wb_answers.proofs.SeenLoops.{not_over}
use Rattle.wb_edges.specs.Edges.{edges_at, pair_of, units_at}
use Rattle.wb_edges.specs.Grounds.{scene}
use Rattle.wb_edges.proofs.Putting.{put_none}
use Rattle.wb_edges.proofs.Draws.{drawn_on, undrawn_at}
use Rattle.wb_edges.proofs.drawing.draw_each.Goals as goal

pub loop-object-init : goal.loop-object-init
loop-object-init g c = record { asked = sym (after_none (g.A.Answers.seen c.args.answers.now)); put = sym (put_none c.args.edges.now.keys); few = c.requires.few }

pub draw-requires-clause-fine : goal.draw-requires-clause-fine
draw-requires-clause-fine g c = not_over _ _ _ c.loop-object.invariant.asked c.requires.fine

pub returns-in_err-draw : goal.returns-in_err-draw
returns-in_err-draw g c =
    let f = λ (t : Told) (o : ℕ). units_at (scene c.args.grounds.now) t c.args.edge.now (pair_of c.args.number o) in
    let h = λ (t : Told) (o : ℕ). edges_at (scene c.args.grounds.now) t c.args.edge.now (pair_of c.args.number o) in
    undrawn_at f h c.args.objects.now c.loop-object.object-index c.object-item.result c.object-item.result (g.A.Answers.seen c.args.answers.now) (g.A.Answers.seen c.loop-object.answers) _ c.args.edges.now.keys c.loop-object.edges.keys c.args.grounds.now.room c.loop-object-test.true c.object-item.is c.loop-object.invariant.asked c.loop-object.invariant.put _ _ _ c.from_residual.ensures c.in_err-draw.ensures

pub loop-object-preserved : goal.loop-object-preserved
loop-object-preserved g c =
    let f = λ (t : Told) (o : ℕ). units_at (scene c.args.grounds.now) t c.args.edge.now (pair_of c.args.number o) in
    let h = λ (t : Told) (o : ℕ). edges_at (scene c.args.grounds.now) t c.args.edge.now (pair_of c.args.number o) in
    drawn_on f h c.args.objects.now c.loop-object.object-index c.object-item.result c.object-item.result (g.A.Answers.seen c.args.answers.now) (g.A.Answers.seen c.loop-object.answers) _ c.args.edges.now.keys c.loop-object.edges.keys c.args.grounds.now.room c.loop-object-test.true c.object-item.is c.loop-object.invariant.asked c.loop-object.invariant.put _ c.in_ok-draw.ensures
