use Rattle.std.proofs.Common.{rules, sym, subst, ◌∙◌}
use Rattle.wb_aql_check.specs.Checked.{KnownTo}
use Rattle.wb_aql_values.specs.Readings.{contents}
use Rattle.wb_aql_values.specs.Runs.{Gives, run}
use Rattle.wb_aql_eval.specs.Outcomes.{sense}
use Rattle.wb_aql_eval.proofs.Scopes.{values_outer, outer_within}
use Rattle.wb_aql_eval.proofs.evaluation.eval_checked.Goals as goal

pub eval_node-requires : goal.eval_node-requires
eval_node-requires c = search (rules, outer_within)

pub eval_objects-requires : goal.eval_objects-requires
eval_objects-requires c = subst (λ o. KnownTo c.args.model.now.metamodel o c.args.e.now.1) (sym c.origin.ensures.is ∙ c.in-Extent.is) c.requires.checked

pub returns-in-Expr-clause-value : goal.returns-in-Expr-clause-value
unfolding sense
returns-in-Expr-clause-value c =
    subst (λ o. Gives (run (sense c.args.model.now.metamodel o c.args.env.now) (contents c.args.model.now) c.args.reads.now) c.eval_node.result c.eval_node.new.reads) (sym (sym c.origin.ensures.is ∙ c.in-Expr.is))
    (rw (values_outer, c.node.ensures.tree) at c.eval_node.ensures.value)

pub returns-in-Extent-clause-value : goal.returns-in-Extent-clause-value
unfolding sense
returns-in-Extent-clause-value c =
    subst (λ o. Gives (run (sense c.args.model.now.metamodel o c.args.env.now) (contents c.args.model.now) c.args.reads.now) c.eval_objects.result c.eval_objects.new.reads) (sym (sym c.origin.ensures.is ∙ c.in-Extent.is)) c.eval_objects.ensures.value
