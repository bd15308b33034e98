use Rattle.std.proofs.Common.{[], refl}
use Rattle.wb_answers.proofs.SeenLaws.{short}
use Rattle.wb_edges.proofs.semantic.candidates_by.Goals as goal

pub returns-in_err-of_class-clause-asks : goal.returns-in_err-of_class-clause-asks
returns-in_err-of_class-clause-asks g c = short _ _ _ [] _ _ c.from_residual-in_err-of_class.ensures c.in_ok-objects.ensures.asks refl
