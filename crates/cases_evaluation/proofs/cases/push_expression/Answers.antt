use Rattle.std.proofs.Common.{rules}
use Rattle.wb_aql_eval.specs.Outcomes.{Binds}
use Rattle.cases_evaluation.proofs.cases.push_expression.Goals as goal

pub push_outcome-requires-clause-scope : goal.push_outcome-requires-clause-scope
push_outcome-requires-clause-scope g c =
    let bound : Binds c.args.model.now.metamodel c.args.env.now.names c.args.env.now = c.requires c.args.model.now.metamodel in
    search rules
