use Rattle.std.proofs.Common.{[], refl}
use Rattle.wb_answers.proofs.SeenLaws.{short}
use Rattle.wb_edges.proofs.found.objects_at.Goals as goal

pub returns-in_err-objects_of-clause-asks : goal.returns-in_err-objects_of-clause-asks
returns-in_err-objects_of-clause-asks g c = short _ _ _ [] _ _ c.from_residual-in_err-objects_of.ensures c.in_ok-answer.ensures.asks refl
