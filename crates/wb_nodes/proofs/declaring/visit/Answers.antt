use Rattle.std.proofs.Common.{◌∙◌, [], List, ap, append-nil}
use Rattle.wb_diagram.specs.declared.keys.Pair.{Pair}
use Rattle.wb_answers.proofs.SeenLaws.{short}
use Rattle.wb_nodes.specs.Nodes.{units_under}
use Rattle.wb_nodes.specs.Grounds.{scene}
use Rattle.wb_nodes.proofs.declaring.visit.Goals as goal

pub returns-in_err-append-clause-asks : goal.returns-in_err-append-clause-asks
returns-in_err-append-clause-asks g c = short _ _ _ [] _ _ c.from_residual-in_err-append.ensures c.in_ok-inner.ensures.asks (append-nil _ ∙ ap (λ (path : List Pair). units_under (scene c.args.grounds.now) (g.A.Answers.seen c.args.answers.now).told path) c.as_slice.ensures)

pub returns-in_err-push-clause-asks : goal.returns-in_err-push-clause-asks
returns-in_err-push-clause-asks g c = short _ _ _ [] _ _ c.from_residual-in_err-push.ensures c.in_ok-inner.ensures.asks (append-nil _ ∙ ap (λ (path : List Pair). units_under (scene c.args.grounds.now) (g.A.Answers.seen c.args.answers.now).told path) c.as_slice.ensures)
