use Rattle.wb_aql_eval.specs.Operators.{unary}
use Rattle.wb_aql_eval.proofs.BoundedOperators.{bounded_answer, of_unary}
use Rattle.wb_aql_eval.proofs.operators.unary.Goals as goal

pub returns-clause-bounded : goal.returns-clause-bounded
returns-clause-bounded c = λ mm. bounded_answer mm (unary c.args.operator c.args.value.now) c.applied.result (of_unary mm c.args.operator c.args.value.now) c.applied.ensures
