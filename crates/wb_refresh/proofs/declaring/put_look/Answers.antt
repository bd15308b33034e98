use Rattle.std.proofs.Common.{[], append-nil}
use Rattle.wb_answers.proofs.SeenLaws.{short}
use Rattle.wb_refresh.proofs.declaring.put_look.Goals as goal

pub returns-in_err-push-clause-asks : goal.returns-in_err-push-clause-asks
returns-in_err-push-clause-asks g c = short _ _ _ [] _ _ c.from_residual-in_err-push.ensures c.in_ok-look.ensures.asks (append-nil _)
