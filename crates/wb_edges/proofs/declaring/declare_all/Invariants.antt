use Rattle.std.proofs.Common.{take, length}
use Rattle.std.specs.List.{flat_map}
use Rattle.wb_base.specs.Lists.{numbers}
use Rattle.wb_edges.specs.Draws.{Drawn}
use Rattle.wb_edges.specs.Edges.{edges_by, units_by}
use Rattle.wb_edges.specs.Grounds.{scene}
use Rattle.wb_edges.proofs.declaring.declare_all.Given as goal

abbrev pub invariant-loop-number : goal.invariant-loop-number
invariant-loop-number g l =
    let s = g.A.Answers.seen l.fn.answers in
    let all = numbers (length l.grounds.spec.now.1.mappings) in
    Drawn s (flat_map (units_by (scene l.grounds) s.told) (take l.number all)) l.fn.edges.keys (flat_map (edges_by (scene l.grounds) s.told) (take l.number all)) l.grounds.room (g.A.Answers.seen l.answers) l.edges.keys
