use Rattle.std.proofs.Common.{◌≡◌, ℕ, take, map}
use Rattle.std.specs.List.{flat_map}
use Rattle.wb_answers.specs.Seen.{after}
use Rattle.wb_looks.specs.Filters.{filter_numbers, filter_unit, hides}
use Rattle.wb_looks.proofs.filters.filtered.Given as goal

abbrev pub invariant-loop-filter : goal.invariant-loop-filter
invariant-loop-filter g l = record {
  found : l.found.items ≡ map (λ (f : ℕ). map (hides l.spec (g.A.Answers.seen l.fn.answers).told f) l.keys) (take l.filter (filter_numbers l.spec));
  asked : g.A.Answers.seen l.answers ≡ after (g.A.Answers.seen l.fn.answers) (flat_map (λ (f : ℕ). flat_map (filter_unit l.spec f) l.keys) (take l.filter (filter_numbers l.spec)));
}
