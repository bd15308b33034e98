use Rattle.std.proofs.Common.{◌≡◌, take}
use Rattle.std.specs.List.{flat_map}
use Rattle.wb_answers.specs.Seen.{after}
use Rattle.wb_looks.specs.Looks.{look_units}
use Rattle.wb_refresh.specs.Diagrams.{looks_at}
use Rattle.wb_refresh.proofs.declaring.looks.Given as goal

abbrev pub invariant-loop-key : goal.invariant-loop-key
invariant-loop-key g l = record {
  looks : l.looks.items ≡ looks_at l.spec l.metamodel (g.A.Answers.seen l.fn.answers).told (take l.key-index l.keys);
  asked : g.A.Answers.seen l.answers ≡ after (g.A.Answers.seen l.fn.answers) (flat_map (look_units l.spec (g.A.Answers.seen l.fn.answers).told) (take l.key-index l.keys));
}
