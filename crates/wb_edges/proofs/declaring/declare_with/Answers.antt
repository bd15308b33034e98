use Rattle.std.proofs.Common.{◌∙◌, ℕ, List, refl, subst}
use Rattle.std.specs.List.{flat_map}
use Rattle.wb_answers.specs.Seen.{Told}
use Rattle.wb_answers.proofs.SeenLoops.{not_over, refused_first, told_of}
use Rattle.wb_edges.specs.Draws.{Draws}
use Rattle.wb_edges.specs.Edges.{candidates_at, edges_at, pair_of, semantic, units_at}
use Rattle.wb_edges.specs.Grounds.{scene}
use Rattle.wb_edges.proofs.Draws.{by_asking, draws_then}
use Rattle.wb_edges.proofs.declaring.declare_with.Goals as goal

pub returns-in_err-objects : goal.returns-in_err-objects
returns-in_err-objects g c =
    by_asking _ _ _ _ _ _ _ _ _ c.from_residual-in_err-objects.ensures
    (refused_first _ _ (candidates_at c.args.number c.args.edge.now) _ _ _ _ c.from_residual-in_err-objects.ensures refl c.in_err-objects.ensures.asks)

pub draw_each-requires-clause-fine : goal.draw_each-requires-clause-fine
draw_each-requires-clause-fine g c = not_over _ _ _ c.in_ok-objects.ensures.asks c.requires.fine

pub returns : goal.returns
returns g c =
    let s = g.A.Answers.seen c.args.answers.now in
    let mid = g.A.Answers.seen c.semantic.new.answers in
    let here = scene c.args.grounds.now in
    let edge = c.args.edge.now in
    let n = c.args.number in
    let told = told_of s mid _ c.in_ok-objects.ensures.asks in
    let objects = c.as_slice.ensures.value ∙ c.in_ok-objects.ensures.objects in
    let P = λ (t : Told) (os : List ℕ). Draws mid (flat_map (λ (o : ℕ). units_at here t edge (pair_of n o)) os) c.args.edges.now.keys (flat_map (λ (o : ℕ). edges_at here t edge (pair_of n o)) os) c.args.grounds.now.room c.draw_each.result (g.A.Answers.seen c.draw_each.new.answers) c.draw_each.new.edges.keys in
    let draws = subst (λ (t : Told). P t (semantic here s.told n edge)) told (subst (P mid.told) objects c.draw_each.ensures) in
    draws_then s mid _ (candidates_at n edge) _ _ _ _ _ _ _ c.in_ok-objects.ensures.asks refl draws
