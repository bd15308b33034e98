use Rattle.std.proofs.Common.{◌∙◌, List, true, false, ap, sym, refl, subst, append-nil}
use Rattle.wb_diagram.specs.declared.keys.EdgeKey.{EdgeKey}
use Rattle.wb_answers.specs.Seen.{Told, after}
use Rattle.wb_answers.proofs.SeenLoops.{not_over, refused_first, told_of}
use Rattle.wb_edges.specs.Draws.{Draws}
use Rattle.wb_edges.specs.Edges.{edges_between, finders, found_sources, found_targets, precondition_at}
use Rattle.wb_edges.specs.Grounds.{scene}
use Rattle.wb_edges.specs.Puts.{put_all}
use Rattle.wb_edges.proofs.Putting.{put_none}
use Rattle.wb_edges.proofs.Between.{edges_where, units_where}
use Rattle.wb_edges.proofs.Draws.{by_asking, draws_then}
use Rattle.wb_edges.proofs.drawing.draw.Goals as goal

pub returns-in_err-passed : goal.returns-in_err-passed
returns-in_err-passed g c =
    let s = g.A.Answers.seen c.args.answers.now in
    by_asking _ _ _ _ _ _ _ _ _ c.from_residual.ensures
    (refused_first _ _ (precondition_at (scene c.args.grounds.now) c.args.pair.now) _ _ _ _ c.from_residual.ensures (units_where (scene c.args.grounds.now) s.told c.args.edge.now c.args.pair.now _ refl) c.in_err-passed.ensures.asks)

pub draw_found-requires-clause-fine : goal.draw_found-requires-clause-fine
draw_found-requires-clause-fine g c = not_over _ _ _ c.in_ok-passed.ensures.asks c.requires.fine

pub returns-then-passed : goal.returns-then-passed
returns-then-passed g c =
    let s = g.A.Answers.seen c.args.answers.now in
    let mid = g.A.Answers.seen c.passes.new.answers in
    let here = scene c.args.grounds.now in
    let edge = c.args.edge.now in
    let pair = c.args.pair.now in
    let passed = sym c.in_ok-passed.ensures.value ∙ c.if-passed.true in
    let told = told_of s mid _ c.in_ok-passed.ensures.asks in
    let more = ap (λ (t : Told). edges_between here edge pair (found_sources t edge pair) (found_targets t pair)) told ∙ edges_where here s.told edge pair true passed in
    let draws = subst (λ (es : List EdgeKey). Draws mid (finders edge pair) c.args.edges.now.keys es c.args.grounds.now.room c.draw_found.result (g.A.Answers.seen c.draw_found.new.answers) c.draw_found.new.edges.keys) more c.draw_found.ensures in
    draws_then s mid _ (precondition_at here pair) _ _ _ _ _ _ _ c.in_ok-passed.ensures.asks (units_where here s.told edge pair true passed) draws

pub returns-else-passed : goal.returns-else-passed
returns-else-passed g c =
    let s = g.A.Answers.seen c.args.answers.now in
    let here = scene c.args.grounds.now in
    let edge = c.args.edge.now in
    let pair = c.args.pair.now in
    let failed = sym c.in_ok-passed.ensures.value ∙ c.if-passed.false in
    record {
      asked = c.in_ok-passed.ensures.asks ∙ ap (after s) (sym (append-nil (precondition_at here pair)) ∙ units_where here s.told edge pair false failed);
      put = sym (put_none c.args.edges.now.keys) ∙ ap (put_all c.args.edges.now.keys) (edges_where here s.told edge pair false failed);
      few = c.requires.few;
    }
