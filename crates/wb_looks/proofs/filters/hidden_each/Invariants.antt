use Rattle.std.proofs.Common.{◌≡◌, take, map}
use Rattle.std.specs.List.{flat_map}
use Rattle.wb_answers.specs.Seen.{after}
use Rattle.wb_looks.specs.Filters.{filter_unit, hides}
use Rattle.wb_looks.proofs.filters.hidden_each.Given as goal

abbrev pub invariant-loop-key : goal.invariant-loop-key
invariant-loop-key g l = record {
  flags : l.flags.items ≡ map (hides l.spec (g.A.Answers.seen l.fn.answers).told l.filter) (take l.key-index l.keys);
  asked : g.A.Answers.seen l.answers ≡ after (g.A.Answers.seen l.fn.answers) (flat_map (filter_unit l.spec l.filter) (take l.key-index l.keys));
}
