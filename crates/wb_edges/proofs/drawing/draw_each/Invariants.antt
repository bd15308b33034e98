use Rattle.std.proofs.Common.{ℕ, take}
use Rattle.std.specs.List.{flat_map}
use Rattle.wb_edges.specs.Draws.{Drawn}
use Rattle.wb_edges.specs.Edges.{edges_at, pair_of, units_at}
use Rattle.wb_edges.specs.Grounds.{scene}
use Rattle.wb_edges.proofs.drawing.draw_each.Given as goal

abbrev pub invariant-loop-object : goal.invariant-loop-object
invariant-loop-object g l =
    let s = g.A.Answers.seen l.fn.answers in
    Drawn s (flat_map (λ (o : ℕ). units_at (scene l.grounds) s.told l.edge (pair_of l.number o)) (take l.object-index l.objects))
    l.fn.edges.keys (flat_map (λ (o : ℕ). edges_at (scene l.grounds) s.told l.edge (pair_of l.number o)) (take l.object-index l.objects)) l.grounds.room (g.A.Answers.seen l.answers) l.edges.keys
