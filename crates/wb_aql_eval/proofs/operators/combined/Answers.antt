use Rattle.wb_aql_eval.specs.Operators.{combined}
use Rattle.wb_aql_eval.proofs.BoundedOperators.{bounded_answer, of_combined}
use Rattle.wb_aql_eval.proofs.operators.combined.Goals as goal

pub returns-clause-bounded : goal.returns-clause-bounded
returns-clause-bounded c = bounded_answer c.args.metamodel.now (combined c.args.metamodel.now c.args.operator c.args.left.now c.args.right.now) c.operated.result (of_combined c.args.metamodel.now c.args.operator c.args.left.now c.args.right.now) c.operated.ensures
