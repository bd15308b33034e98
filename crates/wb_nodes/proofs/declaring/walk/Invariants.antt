use Rattle.std.proofs.Common.{◌≡◌, ◌≤◌, ◌-◌, length}
use Rattle.wb_answers.specs.Seen.{after}
use Rattle.wb_nodes.specs.Grounds.{scene}
use Rattle.wb_nodes.proofs.Walks.{Whole, units_so_far}
use Rattle.wb_nodes.proofs.declaring.walk.Given as goal

abbrev pub invariant-loop-key : goal.invariant-loop-key
invariant-loop-key g l = record {
  whole : Whole (scene l.grounds) (g.A.Answers.seen l.fn.answers).told l.nodes.items l.waiting.items;
  asked : g.A.Answers.seen l.answers ≡ after (g.A.Answers.seen l.fn.answers) (units_so_far (scene l.grounds) (g.A.Answers.seen l.fn.answers).told l.nodes.items);
  few : length l.nodes.items ≤ 100000;
}

abbrev pub decreases-loop-key : goal.decreases-loop-key
decreases-loop-key g l = 100000 - length l.nodes.items
