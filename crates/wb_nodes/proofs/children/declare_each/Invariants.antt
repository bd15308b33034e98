use Rattle.std.proofs.Common.{◌≡◌, ◌++◌, take}
use Rattle.std.specs.List.{flat_map}
use Rattle.wb_nodes.specs.Nodes.{children_by, units_by}
use Rattle.wb_nodes.specs.Grounds.{scene}
use Rattle.wb_answers.specs.Seen.{after}
use Rattle.wb_nodes.proofs.children.declare_each.Given as goal

abbrev pub invariant-loop-number : goal.invariant-loop-number
invariant-loop-number g l = record {
  found : l.found.items ≡ l.fn.found.items ++ flat_map (children_by (scene l.grounds) (g.A.Answers.seen l.fn.answers).told l.path) (take l.number-index l.numbers);
  asked : g.A.Answers.seen l.answers ≡ after (g.A.Answers.seen l.fn.answers) (flat_map (units_by (scene l.grounds) (g.A.Answers.seen l.fn.answers).told l.path) (take l.number-index l.numbers));
}
