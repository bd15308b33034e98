use Rattle.std.proofs.Common.{◌≡◌, ◌++◌, take}
use Rattle.std.specs.List.{flat_map}
use Rattle.wb_nodes.specs.Nodes.{precondition_at}
use Rattle.wb_nodes.specs.Grounds.{scene, kept}
use Rattle.wb_answers.specs.Seen.{after}
use Rattle.wb_nodes.proofs.children.declare_among.Given as goal

abbrev pub invariant-loop-key : goal.invariant-loop-key
invariant-loop-key g l = record {
  found : l.found.items ≡ l.fn.found.items ++ flat_map (kept (scene l.grounds) (g.A.Answers.seen l.fn.answers).told l.number l.node) (take l.key-index l.candidates);
  asked : g.A.Answers.seen l.answers ≡ after (g.A.Answers.seen l.fn.answers) (flat_map (precondition_at (scene l.grounds) l.number) (take l.key-index l.candidates));
}
