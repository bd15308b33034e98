use Rattle.std.proofs.Common.{◌∙◌, ◌∷◌, ℕ, List, [], ap, refl, subst}
use Rattle.wb_diagram.specs.declared.keys.EdgeKey.{EdgeKey}
use Rattle.wb_diagram.specs.declared.units.Unit.TheVariants.{Target}
use Rattle.wb_answers.specs.Seen.{Told}
use Rattle.wb_answers.proofs.SeenLaws.{passed_on}
use Rattle.wb_answers.proofs.SeenLoops.{asked_both, not_over, refused_first, told_of}
use Rattle.wb_edges.specs.Edges.{edges_between, found_sources, found_targets, source_finder}
use Rattle.wb_edges.specs.Grounds.{scene}
use Rattle.wb_edges.specs.Puts.{Puts}
use Rattle.wb_edges.proofs.Between.{by_ends}
use Rattle.wb_edges.proofs.Draws.{by_asking, draws_puts}
use Rattle.wb_edges.proofs.drawing.draw_found.Goals as goal

pub returns-in_err-sources : goal.returns-in_err-sources
returns-in_err-sources g c =
    by_asking _ _ _ _ _ _ _ _ _ c.from_residual.ensures
    (refused_first _ _ (source_finder c.args.edge.now c.args.pair.now) (Target c.args.pair.now ∷ []) _ _ _ c.from_residual.ensures refl c.in_err-sources.ensures.asks)

pub found_targets-requires : goal.found_targets-requires
found_targets-requires g c = not_over _ _ _ c.in_ok-sources.ensures.asks c.requires.fine

pub returns-in_err-targets : goal.returns-in_err-targets
returns-in_err-targets g c =
    by_asking _ _ _ _ _ _ _ _ _ c.from_residual-in_err-targets.ensures
    (passed_on (g.A.Answers.seen c.args.answers.now) _ _ (source_finder c.args.edge.now c.args.pair.now) (Target c.args.pair.now ∷ []) [] _ _ _ c.from_residual-in_err-targets.ensures c.in_ok-sources.ensures.asks refl c.in_err-targets.ensures.asks)

pub returns : goal.returns
returns g c =
    let s = g.A.Answers.seen c.args.answers.now in
    let edge = c.args.edge.now in
    let pair = c.args.pair.now in
    let told = told_of s _ _ c.in_ok-sources.ensures.asks in
    let from = c.as_slice.ensures.keys ∙ c.in_ok-sources.ensures.objects in
    let to = c.as_slice-2.ensures.keys ∙ (c.in_ok-targets.ensures.objects ∙ ap (λ (t : Told). found_targets t pair) told) in
    let P = λ (sources targets : List ℕ). Puts c.args.edges.now.keys (edges_between (scene c.args.grounds.now) edge pair sources targets) c.args.grounds.now.room c.put_between.result c.put_between.new.edges.keys in
    let same = by_ends (scene c.args.grounds.now) edge pair c.args.ends.now c.as_slice.result.now c.as_slice-2.result.now c.requires.ends in
    let put = subst (λ (more : List EdgeKey). Puts c.args.edges.now.keys more c.args.grounds.now.room c.put_between.result c.put_between.new.edges.keys) same c.put_between.ensures in
    let puts = subst (P (found_sources s.told edge pair)) to (subst (λ (sources : List ℕ). P sources c.as_slice-2.result.now) from put) in
    draws_puts s _ _ _ _ _ _ _ (asked_both s _ _ (source_finder edge pair) (Target pair ∷ []) c.in_ok-sources.ensures.asks c.in_ok-targets.ensures.asks) puts
