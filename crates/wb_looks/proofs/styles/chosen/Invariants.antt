use Rattle.std.proofs.Common.{◌≡◌}
use Rattle.wb_answers.specs.Seen.{after}
use Rattle.wb_looks.proofs.Tries.{Tried, tried}
use Rattle.wb_looks.proofs.styles.chosen.Given as goal

abbrev pub invariant-loop-index : goal.invariant-loop-index
invariant-loop-index g l = record {
  asked : g.A.Answers.seen l.answers ≡ after (g.A.Answers.seen l.fn.answers) (tried l.key l.index);
  tries : Tried (g.A.Answers.seen l.fn.answers).told l.key l.count l.index;
}
