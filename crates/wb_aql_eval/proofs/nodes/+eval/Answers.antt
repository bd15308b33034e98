use Rattle.std.proofs.Common.{rules, arith, ◌≡◌, ◌≤◌, ◌+◌, suc, true, false, [], ◌∷◌, ◌++◌, drop, take, is_some, not, Option, Ok, Err, refl, sym, ap, ◌∙◌, subst}
use Rattle.std.proofs.lemmas.List.{drop_more, drop_all, take_more, take_all}
use Rattle.wb_aql_grammar.specs.View.{tree_of, trees_in, arguments_in}
use Rattle.wb_aql_grammar.proofs.Nodes.{tree_collection, tree_unary, tree_binary, tree_conditional, tree_let_in, tree_feature, tree_call}
use Rattle.wb_aql_grammar.proofs.Weights.{weight, elements_weight, arguments_weight, next_element}
use Rattle.wb_aql_services.specs.declared.arguments.Argument.TheVariants.{Of}
use Rattle.wb_aql_values.specs.declared.values.Value.TheVariants.{Null, One}
use Rattle.wb_store.specs.declared.scalars.Scalar.{Scalar}
use Rattle.wb_aql_values.specs.Bounds.{IsBounded}
use Rattle.wb_aql_values.specs.Values.{collection, members, sort_of, put, flag}
use Rattle.wb_aql_values.specs.Readings.{contents, done, given, each, gather, of_each}
use Rattle.wb_aql_values.specs.Runs.{run, Gives}
use Rattle.wb_aql_values.proofs.RunLemmas.{followed, stopped, gives_next, returned, nothing_left, left_returned, became_left, run_done, loop_next, loop_stopped, loop_done}
use Rattle.wb_aql_eval.specs.Operators.{unary, combined}
use Rattle.wb_aql_eval.specs.Iterations.{sift, sifted, first_that, iterated, kept, or_null}
use Rattle.wb_aql_eval.specs.Meaning.{meaning, continued, operated, collected, called, put_last, serviced, of_member, sort_named, service_called}
use Rattle.wb_aql_eval.specs.Features.{feature_of}
use Rattle.wb_aql_eval.specs.Scopes.{values_of, bound}
use Rattle.wb_aql_eval.proofs.Meanings.{means_integer, means_text, means_constant, means_literal, means_collection, means_unary, means_binary, means_if, means_let, means_feature, means_call, means_variable, no_elements, more_elements, a_type, a_value, a_lambda, called_alone, called_at_length, one_item}
use Rattle.wb_aql_values.proofs.Putting.{became_bounded, empty_bounded}
use Rattle.wb_aql_eval.proofs.Running.{given_gives, gives_equal, not_decided, decided_early, goes_right, condition_stopped, not_true_or_false, chose, test_stopped, test_gives, sift_stopped, sift_gives, first_stopped, first_found, first_passed_over, first_none, kept_more, kept_same, searched}
use Rattle.wb_aql_eval.proofs.Scopes.{values_inner, inner_within}
use Rattle.wb_aql_values.proofs.Sublists.{IsSublist, none, one_kept, one_left_out, bounded_kept}
use Rattle.wb_aql_eval.proofs.nodes.+eval.Goals as goal
use Rattle.wb_aql_eval.proofs.nodes.+eval.Goals.{eval_sifted-then-branch-wanted+in_ok-copy+in_ok-push, eval_sifted-else-branch-wanted}

-- ---- parts are smaller

pub eval_node-eval_elements-requires : goal.eval_node-eval_elements-requires
eval_node-eval_elements-requires t c =
    let e : weight (tree_of c.args.node.now) ≡ suc (elements_weight (trees_in c.in-Collection.elements)) =
    ap (λ n. weight (tree_of n)) c.in-Collection.is ∙ ap weight (tree_collection _ _) in
    search rules

pub eval_node-eval_unary-requires : goal.eval_node-eval_unary-requires
eval_node-eval_unary-requires t c =
    let e : weight (tree_of c.args.node.now) ≡ suc (weight (tree_of c.get.result.now)) =
    ap (λ n. weight (tree_of n)) c.in-Unary.is ∙ (ap weight (tree_unary _ _) ∙ ap (λ n. suc (weight (tree_of n))) (sym c.get.ensures)) in
    search rules

pub eval_node-eval_binary-requires : goal.eval_node-eval_binary-requires
eval_node-eval_binary-requires t c =
    let e : weight (tree_of c.args.node.now) ≡ suc (weight (tree_of c.get-in-Binary.result.now) + weight (tree_of c.get-in-Binary-2.result.now)) =
    ap (λ n. weight (tree_of n)) c.in-Binary.is ∙ (ap weight (tree_binary _ _ _) ∙ rw (c.get-in-Binary.ensures, c.get-in-Binary-2.ensures) refl) in
    search rules

pub eval_node-eval_if-requires : goal.eval_node-eval_if-requires
eval_node-eval_if-requires t c =
    let e : weight (tree_of c.args.node.now) ≡ suc (weight (tree_of c.get-in-If.result.now) + (weight (tree_of c.get-in-If-2.result.now) + weight (tree_of c.get-in-If-3.result.now))) =
    ap (λ n. weight (tree_of n)) c.in-If.is ∙ (ap weight (tree_conditional _ _ _) ∙ rw (c.get-in-If.ensures, c.get-in-If-2.ensures, c.get-in-If-3.ensures) refl) in
    search rules

pub eval_node-eval_let-requires : goal.eval_node-eval_let-requires
eval_node-eval_let-requires t c =
    let e : weight (tree_of c.args.node.now) ≡ suc (weight (tree_of c.get-in-Let.result.now) + weight (tree_of c.get-in-Let-2.result.now)) =
    ap (λ n. weight (tree_of n)) c.in-Let.is ∙ (ap weight (tree_let_in _ _ _) ∙ rw (c.get-in-Let.ensures, c.get-in-Let-2.ensures) refl) in
    search rules

pub eval_node-eval_feature-requires : goal.eval_node-eval_feature-requires
eval_node-eval_feature-requires t c =
    let e : weight (tree_of c.args.node.now) ≡ suc (weight (tree_of c.get-in-Feature.result.now)) =
    ap (λ n. weight (tree_of n)) c.in-Feature.is ∙ (ap weight (tree_feature _ _) ∙ ap (λ n. suc (weight (tree_of n))) (sym c.get-in-Feature.ensures)) in
    search rules

pub eval_node-eval_call-requires : goal.eval_node-eval_call-requires
eval_node-eval_call-requires t c =
    let e : weight (tree_of c.args.node.now) ≡ suc (weight (tree_of c.get-in-Call.result.now) + arguments_weight (arguments_in c.in-Call.arguments)) =
    ap (λ n. weight (tree_of n)) c.in-Call.is ∙ (ap weight (tree_call _ _ _ _) ∙ ap (λ n. suc (weight (tree_of n) + arguments_weight (arguments_in c.in-Call.arguments))) (sym c.get-in-Call.ensures)) in
    search rules

pub eval_let-eval_node-requires-2 : goal.eval_let-eval_node-requires-2
eval_let-eval_node-requires-2 t c =
    let b : IsBounded c.args.context.now.model.now.metamodel c.in_ok-value.value = c.in_ok-value.ensures.bounded in
    search (rules, inner_within)

pub eval_member-eval_node-requires : goal.eval_member-eval_node-requires
eval_member-eval_node-requires t c =
    let b : IsBounded c.args.context.now.model.now.metamodel (One c.in_ok-copy.field-0) = rw c.in_ok-copy.ensures c.requires.bounded in
    search (rules, inner_within)

-- ---- a node

pub eval_node-returns-in_ok-value_of-in-Variable-clause-value : goal.eval_node-returns-in_ok-value_of-in-Variable-clause-value
eval_node-returns-in_ok-value_of-in-Variable-clause-value t c =
    rw (c.in-Variable.is, means_variable, c.in_ok-value_of-in-Variable.ensures) (run_done (contents c.args.context.now.model.now) _ c.args.reads.now)

pub eval_node-returns-in-Collection-clause-value : goal.eval_node-returns-in-Collection-clause-value
eval_node-returns-in-Collection-clause-value t c =
    rw (c.in-Collection.is, means_collection) c.eval_elements.ensures.value

pub eval_node-returns-in-Unary-clause-value : goal.eval_node-returns-in-Unary-clause-value
eval_node-returns-in-Unary-clause-value t c =
    rw (c.in-Unary.is, means_unary, sym c.get.ensures) c.eval_unary.ensures.value

pub eval_node-returns-in-Binary-clause-value : goal.eval_node-returns-in-Binary-clause-value
eval_node-returns-in-Binary-clause-value t c =
    rw (c.in-Binary.is, means_binary, sym c.get-in-Binary.ensures, sym c.get-in-Binary-2.ensures) c.eval_binary.ensures.value

pub eval_node-returns-in-If-clause-value : goal.eval_node-returns-in-If-clause-value
eval_node-returns-in-If-clause-value t c =
    rw (c.in-If.is, means_if, sym c.get-in-If.ensures, sym c.get-in-If-2.ensures, sym c.get-in-If-3.ensures) c.eval_if.ensures.value

pub eval_node-returns-in-Let-clause-value : goal.eval_node-returns-in-Let-clause-value
eval_node-returns-in-Let-clause-value t c =
    rw (c.in-Let.is, means_let, sym c.get-in-Let.ensures, sym c.get-in-Let-2.ensures) c.eval_let.ensures.value

pub eval_node-returns-in-Feature-clause-value : goal.eval_node-returns-in-Feature-clause-value
eval_node-returns-in-Feature-clause-value t c =
    rw (c.in-Feature.is, means_feature, sym c.get-in-Feature.ensures) c.eval_feature.ensures.value

pub eval_node-returns-in-Call-clause-value : goal.eval_node-returns-in-Call-clause-value
eval_node-returns-in-Call-clause-value t c =
    rw (c.in-Call.is, means_call, sym c.get-in-Call.ensures) c.eval_call.ensures.value

-- ---- operators

pub eval_unary-returns-in_err-value-clause-value : goal.eval_unary-returns-in_err-value-clause-value
eval_unary-returns-in_err-value-clause-value t c =
    returned _ c.from_residual.result c.in_err-value.field-0.0 c.eval_node.new.reads c.from_residual.ensures.1
    (stopped (λ v. given (unary c.args.operator v)) (contents c.args.context.now.model.now) (meaning c.args.context.now.model.now.metamodel (tree_of c.args.operand.now) (values_of c.args.context.now.scope)) c.args.reads.now c.in_err-value.field-0.0 c.eval_node.new.reads c.in_err-value.ensures.value)

pub eval_unary-returns-clause-value : goal.eval_unary-returns-clause-value
eval_unary-returns-clause-value t c =
    gives_next (λ v. given (unary c.args.operator v)) (contents c.args.context.now.model.now) (meaning c.args.context.now.model.now.metamodel (tree_of c.args.operand.now) (values_of c.args.context.now.scope)) c.args.reads.now c.in_ok-value.value c.eval_node.new.reads c.unary.result c.eval_node.new.reads c.in_ok-value.ensures.value
    (given_gives (contents c.args.context.now.model.now) c.eval_node.new.reads _ c.unary.result c.unary.ensures.value)

pub eval_binary-returns-in_err-left-clause-value : goal.eval_binary-returns-in_err-left-clause-value
unfolding operated
eval_binary-returns-in_err-left-clause-value t c =
    returned _ c.from_residual.result c.in_err-left.field-0.0 c.eval_node.new.reads c.from_residual.ensures.1
    (stopped (continued c.args.context.now.model.now.metamodel c.args.operator (meaning c.args.context.now.model.now.metamodel (tree_of c.args.right.now) (values_of c.args.context.now.scope))) (contents c.args.context.now.model.now) (meaning c.args.context.now.model.now.metamodel (tree_of c.args.left.now) (values_of c.args.context.now.scope)) c.args.reads.now c.in_err-left.field-0.0 c.eval_node.new.reads c.in_err-left.ensures.value)

pub eval_binary-returns-clause-value : goal.eval_binary-returns-clause-value
unfolding operated
eval_binary-returns-clause-value t c =
    gives_next (continued c.args.context.now.model.now.metamodel c.args.operator (meaning c.args.context.now.model.now.metamodel (tree_of c.args.right.now) (values_of c.args.context.now.scope))) (contents c.args.context.now.model.now) (meaning c.args.context.now.model.now.metamodel (tree_of c.args.left.now) (values_of c.args.context.now.scope)) c.args.reads.now c.in_ok-left.left c.eval_node.new.reads c.eval_right.result c.eval_right.new.reads c.in_ok-left.ensures.value c.eval_right.ensures.value

pub eval_right-returns-in_err-value-clause-value : goal.eval_right-returns-in_err-value-clause-value
eval_right-returns-in_err-value-clause-value t c =
    returned _ c.from_residual.result c.in_err-value.field-0.0 c.args.reads.now c.from_residual.ensures.1
    (not_decided c.args.context.now.model.now.metamodel c.args.operator (meaning c.args.context.now.model.now.metamodel (tree_of c.args.right.now) (values_of c.args.context.now.scope)) (contents c.args.context.now.model.now) c.args.left.now c.args.reads.now c.in_err-value.field-0.0 c.in_err-value.ensures)

pub eval_right-returns-in-Some-clause-value : goal.eval_right-returns-in-Some-clause-value
eval_right-returns-in-Some-clause-value t c =
    decided_early c.args.context.now.model.now.metamodel c.args.operator (meaning c.args.context.now.model.now.metamodel (tree_of c.args.right.now) (values_of c.args.context.now.scope)) (contents c.args.context.now.model.now) c.args.left.now c.args.reads.now c.in-Some.value (c.in_ok-value.ensures ∙ ap Ok c.in-Some.is)

pub eval_right-returns-in_err-right-clause-value : goal.eval_right-returns-in_err-right-clause-value
eval_right-returns-in_err-right-clause-value t c =
    returned _ c.from_residual-in_err-right.result c.in_err-right.field-0.0 c.eval_node.new.reads c.from_residual-in_err-right.ensures.1
    (gives_equal (Err c.in_err-right.field-0.0) c.eval_node.new.reads _ _ (goes_right c.args.context.now.model.now.metamodel c.args.operator (meaning c.args.context.now.model.now.metamodel (tree_of c.args.right.now) (values_of c.args.context.now.scope)) (contents c.args.context.now.model.now) c.args.left.now c.args.reads.now (c.in_ok-value.ensures ∙ ap Ok c.in_default.is))
    (stopped (λ w. given (combined c.args.context.now.model.now.metamodel c.args.operator c.args.left.now w)) (contents c.args.context.now.model.now) (meaning c.args.context.now.model.now.metamodel (tree_of c.args.right.now) (values_of c.args.context.now.scope)) c.args.reads.now c.in_err-right.field-0.0 c.eval_node.new.reads c.in_err-right.ensures.value))

pub eval_right-returns-clause-value : goal.eval_right-returns-clause-value
eval_right-returns-clause-value t c =
    gives_equal c.combined.result c.eval_node.new.reads _ _ (goes_right c.args.context.now.model.now.metamodel c.args.operator (meaning c.args.context.now.model.now.metamodel (tree_of c.args.right.now) (values_of c.args.context.now.scope)) (contents c.args.context.now.model.now) c.args.left.now c.args.reads.now (c.in_ok-value.ensures ∙ ap Ok c.in_default.is))
    (gives_next (λ w. given (combined c.args.context.now.model.now.metamodel c.args.operator c.args.left.now w)) (contents c.args.context.now.model.now) (meaning c.args.context.now.model.now.metamodel (tree_of c.args.right.now) (values_of c.args.context.now.scope)) c.args.reads.now c.in_ok-right.right c.eval_node.new.reads c.combined.result c.eval_node.new.reads c.in_ok-right.ensures.value
    (given_gives (contents c.args.context.now.model.now) c.eval_node.new.reads _ c.combined.result (rw c.metamodel.ensures at c.combined.ensures.value)))

pub eval_if-returns-in_err-condition-clause-value : goal.eval_if-returns-in_err-condition-clause-value
eval_if-returns-in_err-condition-clause-value t c =
    returned _ c.from_residual.result c.in_err-condition.field-0.0 c.eval_node.new.reads c.from_residual.ensures.1
    (condition_stopped (meaning c.args.context.now.model.now.metamodel (tree_of c.args.condition.now) (values_of c.args.context.now.scope)) (meaning c.args.context.now.model.now.metamodel (tree_of c.args.yes.now) (values_of c.args.context.now.scope)) (meaning c.args.context.now.model.now.metamodel (tree_of c.args.no.now) (values_of c.args.context.now.scope)) (contents c.args.context.now.model.now) c.args.reads.now c.in_err-condition.field-0.0 c.eval_node.new.reads c.in_err-condition.ensures.value)

pub eval_if-returns-in_err-truth-clause-value : goal.eval_if-returns-in_err-truth-clause-value
eval_if-returns-in_err-truth-clause-value t c =
    returned _ c.from_residual-in_err-truth.result c.in_err-truth.field-0.0 c.eval_node.new.reads c.from_residual-in_err-truth.ensures.1
    (not_true_or_false (meaning c.args.context.now.model.now.metamodel (tree_of c.args.condition.now) (values_of c.args.context.now.scope)) (meaning c.args.context.now.model.now.metamodel (tree_of c.args.yes.now) (values_of c.args.context.now.scope)) (meaning c.args.context.now.model.now.metamodel (tree_of c.args.no.now) (values_of c.args.context.now.scope)) (contents c.args.context.now.model.now) c.args.reads.now c.in_ok-condition.condition c.eval_node.new.reads c.in_ok-condition.ensures.value c.in_err-truth.field-0.0 c.in_err-truth.ensures)

pub eval_if-returns-then-branch-clause-value : goal.eval_if-returns-then-branch-clause-value
eval_if-returns-then-branch-clause-value t c =
    gives_equal c.eval_node-then-branch.result c.eval_node-then-branch.new.reads _ _ (chose (meaning c.args.context.now.model.now.metamodel (tree_of c.args.condition.now) (values_of c.args.context.now.scope)) (meaning c.args.context.now.model.now.metamodel (tree_of c.args.yes.now) (values_of c.args.context.now.scope)) (meaning c.args.context.now.model.now.metamodel (tree_of c.args.no.now) (values_of c.args.context.now.scope)) (contents c.args.context.now.model.now) c.args.reads.now c.in_ok-condition.condition c.eval_node.new.reads c.in_ok-condition.ensures.value true (c.in_ok-truth.ensures ∙ ap Ok c.if-branch.true)) c.eval_node-then-branch.ensures.value

pub eval_if-returns-clause-value : goal.eval_if-returns-clause-value
eval_if-returns-clause-value t c =
    gives_equal c.eval_node-else-branch.result c.eval_node-else-branch.new.reads _ _ (chose (meaning c.args.context.now.model.now.metamodel (tree_of c.args.condition.now) (values_of c.args.context.now.scope)) (meaning c.args.context.now.model.now.metamodel (tree_of c.args.yes.now) (values_of c.args.context.now.scope)) (meaning c.args.context.now.model.now.metamodel (tree_of c.args.no.now) (values_of c.args.context.now.scope)) (contents c.args.context.now.model.now) c.args.reads.now c.in_ok-condition.condition c.eval_node.new.reads c.in_ok-condition.ensures.value false (c.in_ok-truth.ensures ∙ ap Ok c.if-branch.false)) c.eval_node-else-branch.ensures.value

pub eval_let-returns-in_err-value-clause-value : goal.eval_let-returns-in_err-value-clause-value
eval_let-returns-in_err-value-clause-value t c =
    returned _ c.from_residual.result c.in_err-value.field-0.0 c.eval_node.new.reads c.from_residual.ensures.1
    (stopped (λ v. meaning c.args.context.now.model.now.metamodel (tree_of c.args.body.now) (bound c.args.name.now v (values_of c.args.context.now.scope))) (contents c.args.context.now.model.now) (meaning c.args.context.now.model.now.metamodel (tree_of c.args.value.now) (values_of c.args.context.now.scope)) c.args.reads.now c.in_err-value.field-0.0 c.eval_node.new.reads c.in_err-value.ensures.value)

pub eval_let-returns-clause-value : goal.eval_let-returns-clause-value
eval_let-returns-clause-value t c =
    gives_next (λ v. meaning c.args.context.now.model.now.metamodel (tree_of c.args.body.now) (bound c.args.name.now v (values_of c.args.context.now.scope))) (contents c.args.context.now.model.now) (meaning c.args.context.now.model.now.metamodel (tree_of c.args.value.now) (values_of c.args.context.now.scope)) c.args.reads.now c.in_ok-value.value c.eval_node.new.reads c.eval_node-2.result c.eval_node-2.new.reads c.in_ok-value.ensures.value (rw values_inner at c.eval_node-2.ensures.value)

pub eval_feature-returns-in_err-receiver-clause-value : goal.eval_feature-returns-in_err-receiver-clause-value
eval_feature-returns-in_err-receiver-clause-value t c =
    returned _ c.from_residual.result c.in_err-receiver.field-0.0 c.eval_node.new.reads c.from_residual.ensures.1
    (stopped (feature_of c.args.context.now.model.now.metamodel c.args.name.now) (contents c.args.context.now.model.now) (meaning c.args.context.now.model.now.metamodel (tree_of c.args.receiver.now) (values_of c.args.context.now.scope)) c.args.reads.now c.in_err-receiver.field-0.0 c.eval_node.new.reads c.in_err-receiver.ensures.value)

pub eval_feature-returns-clause-value : goal.eval_feature-returns-clause-value
eval_feature-returns-clause-value t c =
    gives_next (feature_of c.args.context.now.model.now.metamodel c.args.name.now) (contents c.args.context.now.model.now) (meaning c.args.context.now.model.now.metamodel (tree_of c.args.receiver.now) (values_of c.args.context.now.scope)) c.args.reads.now c.in_ok-receiver.receiver c.eval_node.new.reads c.feature_of.result c.feature_of.new.reads c.in_ok-receiver.ensures.value c.feature_of.ensures.value

-- ---- elements

pub put_element-returns-in_err-value-clause-members : goal.put_element-returns-in_err-value-clause-members
unfolding put_last
put_element-returns-in_err-value-clause-members t c =
    left_returned _ Unit c.from_residual.result c.in_err-value.field-0.0 c.args.gathered.now.1 c.eval_node.new.reads c.from_residual.ensures.1
    (stopped (λ v. given (put c.args.gathered.now.0 c.args.gathered.now.1 v)) (contents c.args.context.now.model.now) (meaning c.args.context.now.model.now.metamodel (tree_of c.args.element.now) (values_of c.args.context.now.scope)) c.args.reads.now c.in_err-value.field-0.0 c.eval_node.new.reads c.in_err-value.ensures.value)

pub put_element-returns-clause-members : goal.put_element-returns-clause-members
unfolding put_last
put_element-returns-clause-members t c =
    became_left (contents c.args.context.now.model.now) (put c.args.gathered.now.0 c.args.gathered.now.1 c.in_ok-value.value) c.put.result c.put.new.self.1 _ c.eval_node.new.reads c.put.ensures.put
    (followed (λ v. given (put c.args.gathered.now.0 c.args.gathered.now.1 v)) (contents c.args.context.now.model.now) (meaning c.args.context.now.model.now.metamodel (tree_of c.args.element.now) (values_of c.args.context.now.scope)) c.args.reads.now c.in_ok-value.value c.eval_node.new.reads c.in_ok-value.ensures.value)

pub put_element-returns-clause-bounded : goal.put_element-returns-clause-bounded
put_element-returns-clause-bounded t c =
    became_bounded c.args.context.now.model.now.metamodel c.args.gathered.now.0 c.put.new.self.0 c.args.gathered.now.1 c.put.new.self.1 c.in_ok-value.value c.put.result c.requires.gathered c.in_ok-value.ensures.bounded c.put.ensures.put c.put.ensures.sort

pub put_member-returns-clause-bounded : goal.put_member-returns-clause-bounded
put_member-returns-clause-bounded t c =
    became_bounded c.args.context.now.model.now.metamodel c.args.gathered.now.0 c.put.new.self.0 c.args.gathered.now.1 c.put.new.self.1 c.in_ok-value.value c.put.result c.requires.gathered c.in_ok-value.ensures.bounded c.put.ensures.put c.put.ensures.sort

pub eval_elements-loop-element-init : goal.eval_elements-loop-element-init
eval_elements-loop-element-init t c =
    rw (c.new-gathered.ensures, c.sort_named.ensures) (record { sort = refl; same = refl; bounded = empty_bounded c.args.context.now.model.now.metamodel (sort_named c.args.kind) })

pub eval_elements-put_element-requires : goal.eval_elements-put_element-requires
eval_elements-put_element-requires t c =
    let l = c.loop-element in
    let xs = c.as_slice-element-items.result.now in
    let x = c.element-item.result in
    let here : drop l.element-index xs ≡ x ∷ drop (l.element-index + 1) xs = drop_more xs l.element-index x (omega arith) ∙ ap (λ y. y ∷ drop (l.element-index + 1) xs) (sym c.element-item.is) in
    let smaller : weight (tree_of x) ≤ elements_weight (trees_in c.args.elements.now) =
    subst (λ ys. weight (tree_of x) ≤ elements_weight (trees_in ys)) c.as_slice-element-items.ensures (next_element l.element-index xs x _ here) in
    search rules

pub eval_elements-loop-element-preserved : goal.eval_elements-loop-element-preserved
eval_elements-loop-element-preserved t c =
    let l = c.loop-element in
    let xs = c.as_slice-element-items.result.now in
    let x = c.element-item.result in
    let here : drop l.element-index xs ≡ x ∷ drop (l.element-index + 1) xs = drop_more xs l.element-index x (omega arith) ∙ ap (λ y. y ∷ drop (l.element-index + 1) xs) (sym c.element-item.is) in
    let k = c.in_ok-put_element.ensures.sort in
    let step = ap (λ ys. run (collected c.args.context.now.model.now.metamodel l.gathered.0 l.gathered.1 (trees_in ys) (values_of c.args.context.now.scope)) (contents c.args.context.now.model.now) l.reads) here ∙ ap (λ r. run r (contents c.args.context.now.model.now) l.reads) (more_elements c.args.context.now.model.now.metamodel (values_of c.args.context.now.scope) l.gathered.0 l.gathered.1 x (drop (l.element-index + 1) xs)) in
    let on = followed (λ more. collected c.args.context.now.model.now.metamodel l.gathered.0 more (trees_in (drop (l.element-index + 1) xs)) (values_of c.args.context.now.scope)) (contents c.args.context.now.model.now) (put_last l.gathered.0 l.gathered.1 (meaning c.args.context.now.model.now.metamodel (tree_of x) (values_of c.args.context.now.scope))) l.reads c.put_element.new.gathered.1 c.put_element.new.reads c.in_ok-put_element.ensures.members in
    record {
      sort = k ∙ l.invariant.sort;
      same = ap (λ kind. run (collected c.args.context.now.model.now.metamodel kind c.put_element.new.gathered.1 (trees_in (drop (l.element-index + 1) xs)) (values_of c.args.context.now.scope)) (contents c.args.context.now.model.now) c.put_element.new.reads) k ∙ (sym on ∙ (sym step ∙ l.invariant.same));
      bounded = c.in_ok-put_element.ensures.bounded;
    }

pub eval_elements-returns-in_err-put_element-clause-value : goal.eval_elements-returns-in_err-put_element-clause-value
eval_elements-returns-in_err-put_element-clause-value t c =
    let l = c.loop-element in
    let xs = c.as_slice-element-items.result.now in
    let x = c.element-item.result in
    let here : drop l.element-index xs ≡ x ∷ drop (l.element-index + 1) xs = drop_more xs l.element-index x (omega arith) ∙ ap (λ y. y ∷ drop (l.element-index + 1) xs) (sym c.element-item.is) in
    let step = ap (λ ys. run (collected c.args.context.now.model.now.metamodel l.gathered.0 l.gathered.1 (trees_in ys) (values_of c.args.context.now.scope)) (contents c.args.context.now.model.now) l.reads) here ∙ ap (λ r. run r (contents c.args.context.now.model.now) l.reads) (more_elements c.args.context.now.model.now.metamodel (values_of c.args.context.now.scope) l.gathered.0 l.gathered.1 x (drop (l.element-index + 1) xs)) in
    let stop = stopped (λ more. collected c.args.context.now.model.now.metamodel l.gathered.0 more (trees_in (drop (l.element-index + 1) xs)) (values_of c.args.context.now.scope)) (contents c.args.context.now.model.now) (put_last l.gathered.0 l.gathered.1 (meaning c.args.context.now.model.now.metamodel (tree_of x) (values_of c.args.context.now.scope))) l.reads c.in_err-put_element.field-0.0 c.put_element.new.reads (nothing_left _ Unit c.in_err-put_element.field-0.0 c.put_element.new.gathered.1 c.put_element.new.reads c.in_err-put_element.ensures.members) in
    returned _ c.from_residual.result c.in_err-put_element.field-0.0 c.put_element.new.reads c.from_residual.ensures.1
    (gives_equal (Err c.in_err-put_element.field-0.0) c.put_element.new.reads _ _ (sym (l.invariant.same ∙ (ap (λ g. run (collected c.args.context.now.model.now.metamodel g.0 g.1 (trees_in xs) (values_of c.args.context.now.scope)) (contents c.args.context.now.model.now) c.args.reads.now) (c.new-gathered.ensures ∙ ap (λ k. (k, [])) c.sort_named.ensures) ∙ ap (λ ys. run (collected c.args.context.now.model.now.metamodel (sort_named c.args.kind) [] (trees_in ys) (values_of c.args.context.now.scope)) (contents c.args.context.now.model.now) c.args.reads.now) c.as_slice-element-items.ensures)) ∙ step) stop)

pub eval_elements-returns-clause-value : goal.eval_elements-returns-clause-value
eval_elements-returns-clause-value t c =
    let l = c.loop-element in
    let xs = c.as_slice-element-items.result.now in
    let none : drop l.element-index xs ≡ [] = drop_all l.element-index xs (omega arith) in
    sym (l.invariant.same ∙ (ap (λ g. run (collected c.args.context.now.model.now.metamodel g.0 g.1 (trees_in xs) (values_of c.args.context.now.scope)) (contents c.args.context.now.model.now) c.args.reads.now) (c.new-gathered.ensures ∙ ap (λ k. (k, [])) c.sort_named.ensures) ∙ ap (λ ys. run (collected c.args.context.now.model.now.metamodel (sort_named c.args.kind) [] (trees_in ys) (values_of c.args.context.now.scope)) (contents c.args.context.now.model.now) c.args.reads.now) c.as_slice-element-items.ensures)) ∙ (ap (λ ys. run (collected c.args.context.now.model.now.metamodel l.gathered.0 l.gathered.1 (trees_in ys) (values_of c.args.context.now.scope)) (contents c.args.context.now.model.now) l.reads) none ∙ (ap (λ r. run r (contents c.args.context.now.model.now) l.reads) (no_elements c.args.context.now.model.now.metamodel (values_of c.args.context.now.scope) l.gathered.0 l.gathered.1)
    ∙ (run_done (contents c.args.context.now.model.now) (collection l.gathered.0 l.gathered.1) l.reads ∙ ap (λ v. record { gave = Ok v; reads = l.reads }) (sym c.in_ok-into_value.ensures))))

pub eval_elements-returns-clause-bounded : goal.eval_elements-returns-clause-bounded
eval_elements-returns-clause-bounded t c =
    rw c.in_ok-into_value.ensures c.loop-element.invariant.bounded

-- ---- calls

pub eval_call-returns-in_err-receiver-clause-value : goal.eval_call-returns-in_err-receiver-clause-value
eval_call-returns-in_err-receiver-clause-value t c =
    returned _ c.from_residual.result c.in_err-receiver.field-0.0 c.eval_node.new.reads c.from_residual.ensures.1
    (stopped (λ v. called c.args.context.now.model.now.metamodel c.args.kind c.args.name.now v (arguments_in c.args.arguments.now) (values_of c.args.context.now.scope)) (contents c.args.context.now.model.now) (meaning c.args.context.now.model.now.metamodel (tree_of c.args.receiver.now) (values_of c.args.context.now.scope)) c.args.reads.now c.in_err-receiver.field-0.0 c.eval_node.new.reads c.in_err-receiver.ensures.value)

pub eval_call-returns-in-empty-clause-value : goal.eval_call-returns-in-empty-clause-value
eval_call-returns-in-empty-clause-value t c =
    let alone = ap (λ xs. called c.args.context.now.model.now.metamodel c.args.kind c.args.name.now c.in_ok-receiver.receiver (arguments_in xs) (values_of c.args.context.now.scope)) (sym c.as_slice.ensures) ∙ called_alone c.args.context.now.model.now.metamodel (values_of c.args.context.now.scope) c.args.kind c.args.name.now c.in_ok-receiver.receiver c.as_slice.result.now (omega arith) in
    gives_next (λ v. called c.args.context.now.model.now.metamodel c.args.kind c.args.name.now v (arguments_in c.args.arguments.now) (values_of c.args.context.now.scope)) (contents c.args.context.now.model.now) (meaning c.args.context.now.model.now.metamodel (tree_of c.args.receiver.now) (values_of c.args.context.now.scope)) c.args.reads.now c.in_ok-receiver.receiver c.eval_node.new.reads c.call.result c.call.new.reads c.in_ok-receiver.ensures.value
    (gives_equal c.call.result c.call.new.reads _ _ (ap (λ r. run r (contents c.args.context.now.model.now) c.eval_node.new.reads) alone) (rw (c.service_called.ensures, c.as_slice-in-empty.ensures.same) at c.call.ensures.value))

pub eval_call-returns-in-len1-clause-value : goal.eval_call-returns-in-len1-clause-value
eval_call-returns-in-len1-clause-value t c =
    let one = sym (one_item c.as_slice.result.now c.argument-item.result (omega arith) (omega arith) c.argument-item.is) ∙ c.as_slice.ensures in
    gives_next (λ v. called c.args.context.now.model.now.metamodel c.args.kind c.args.name.now v (arguments_in c.args.arguments.now) (values_of c.args.context.now.scope)) (contents c.args.context.now.model.now) (meaning c.args.context.now.model.now.metamodel (tree_of c.args.receiver.now) (values_of c.args.context.now.scope)) c.args.reads.now c.in_ok-receiver.receiver c.eval_node.new.reads c.eval_argument.result c.eval_argument.new.reads c.in_ok-receiver.ensures.value
    (subst (λ xs. Gives (run (called c.args.context.now.model.now.metamodel c.args.kind c.args.name.now c.in_ok-receiver.receiver (arguments_in xs) (values_of c.args.context.now.scope)) (contents c.args.context.now.model.now) c.eval_node.new.reads) c.eval_argument.result c.eval_argument.new.reads) one c.eval_argument.ensures.value)

pub eval_call-returns-clause-value : goal.eval_call-returns-clause-value
eval_call-returns-clause-value t c =
    let several = ap (λ xs. called c.args.context.now.model.now.metamodel c.args.kind c.args.name.now c.in_ok-receiver.receiver (arguments_in xs) (values_of c.args.context.now.scope)) (sym c.as_slice.ensures) ∙ called_at_length c.args.context.now.model.now.metamodel (values_of c.args.context.now.scope) c.args.kind c.args.name.now c.in_ok-receiver.receiver c.as_slice.result.now c.in_default.len_at_least in
    followed (λ v. called c.args.context.now.model.now.metamodel c.args.kind c.args.name.now v (arguments_in c.args.arguments.now) (values_of c.args.context.now.scope)) (contents c.args.context.now.model.now) (meaning c.args.context.now.model.now.metamodel (tree_of c.args.receiver.now) (values_of c.args.context.now.scope)) c.args.reads.now c.in_ok-receiver.receiver c.eval_node.new.reads c.in_ok-receiver.ensures.value ∙ (ap (λ r. run r (contents c.args.context.now.model.now) c.eval_node.new.reads) several ∙ run_done (contents c.args.context.now.model.now) Null c.eval_node.new.reads)

pub eval_argument-returns-in-Some-clause-value : goal.eval_argument-returns-in-Some-clause-value
eval_argument-returns-in-Some-clause-value t c =
    rw (c.in-Lambda.is, a_lambda, sym c.get-body.ensures, sym c.as_slice.ensures.same, sym c.iteration_called.ensures, c.in-Some.is) c.eval_lambda.ensures.value

pub eval_argument-returns-in-None-clause-value : goal.eval_argument-returns-in-None-clause-value
eval_argument-returns-in-None-clause-value t c =
    rw (c.in-Lambda.is, a_lambda, sym c.as_slice.ensures.same, sym c.iteration_called.ensures, c.in-None.is) (run_done (contents c.args.context.now.model.now) Null c.args.reads.now)

pub eval_argument-returns-in-Type-clause-value : goal.eval_argument-returns-in-Type-clause-value
eval_argument-returns-in-Type-clause-value t c =
    rw (c.in-Type.is, a_type, sym c.as_slice-in-Type.ensures.same, sym c.service_called-service.ensures) c.call_with_class.ensures.value

pub eval_argument-returns-in_err-value-in-Expression-clause-value : goal.eval_argument-returns-in_err-value-in-Expression-clause-value
eval_argument-returns-in_err-value-in-Expression-clause-value t c =
    rw (c.in-Expression.is, a_value)
    (returned _ c.from_residual.result c.in_err-value-in-Expression.field-0.0 c.eval_node.new.reads c.from_residual.ensures.1
    (stopped (λ w. serviced c.args.context.now.model.now.metamodel (service_called c.args.kind c.args.name.now) c.args.receiver.now (Of w ∷ [])) (contents c.args.context.now.model.now) (meaning c.args.context.now.model.now.metamodel (tree_of c.in-Expression.value) (values_of c.args.context.now.scope)) c.args.reads.now c.in_err-value-in-Expression.field-0.0 c.eval_node.new.reads (subst (λ x. Gives (run (meaning c.args.context.now.model.now.metamodel (tree_of x) (values_of c.args.context.now.scope)) (contents c.args.context.now.model.now) c.args.reads.now) (Err c.in_err-value-in-Expression.field-0.0) c.eval_node.new.reads) c.get.ensures c.in_err-value-in-Expression.ensures.value)))

pub eval_argument-returns-in_ok-value-in-Expression-clause-value : goal.eval_argument-returns-in_ok-value-in-Expression-clause-value
eval_argument-returns-in_ok-value-in-Expression-clause-value t c =
    rw (c.in-Expression.is, a_value)
    (gives_next (λ w. serviced c.args.context.now.model.now.metamodel (service_called c.args.kind c.args.name.now) c.args.receiver.now (Of w ∷ [])) (contents c.args.context.now.model.now) (meaning c.args.context.now.model.now.metamodel (tree_of c.in-Expression.value) (values_of c.args.context.now.scope)) c.args.reads.now c.in_ok-value-in-Expression.value c.eval_node.new.reads c.call_with_value.result c.call_with_value.new.reads (rw c.get.ensures at c.in_ok-value-in-Expression.ensures.value)
    (rw (c.service_called.ensures, c.as_slice-in-Expression.ensures.same) at c.call_with_value.ensures.value))

-- ---- services with a lambda

pub eval_lambda-returns-in-Select-clause-value : goal.eval_lambda-returns-in-Select-clause-value
unfolding iterated
eval_lambda-returns-in-Select-clause-value t c =
    rw c.in-Select.is c.eval_sifted.ensures.value

pub eval_lambda-returns-in-Reject-clause-value : goal.eval_lambda-returns-in-Reject-clause-value
unfolding iterated
eval_lambda-returns-in-Reject-clause-value t c =
    rw c.in-Reject.is c.eval_sifted-in-Reject.ensures.value

pub eval_lambda-returns-in-Collect-clause-value : goal.eval_lambda-returns-in-Collect-clause-value
unfolding iterated
eval_lambda-returns-in-Collect-clause-value t c =
    rw c.in-Collect.is c.eval_collected.ensures.value

pub eval_lambda-returns-in_err-found-in-Exists-clause-value : goal.eval_lambda-returns-in_err-found-in-Exists-clause-value
unfolding iterated
eval_lambda-returns-in_err-found-in-Exists-clause-value t c =
    rw c.in-Exists.is
    (returned _ c.from_residual.result c.in_err-found-in-Exists.field-0.0 c.eval_first.new.reads c.from_residual.ensures.1
    (stopped (λ found. done ((λ (found : Option Scalar). flag (is_some found)) found)) (contents c.args.context.now.model.now) (first_that (of_member c.args.context.now.model.now.metamodel (tree_of c.args.body.now) c.args.variable.now (values_of c.args.context.now.scope)) true (members c.args.receiver.now)) c.args.reads.now c.in_err-found-in-Exists.field-0.0 c.eval_first.new.reads c.in_err-found-in-Exists.ensures.value))

pub eval_lambda-returns-in_ok-found-in-Exists-clause-value : goal.eval_lambda-returns-in_ok-found-in-Exists-clause-value
unfolding iterated
eval_lambda-returns-in_ok-found-in-Exists-clause-value t c =
    rw c.in-Exists.is
    (searched (first_that (of_member c.args.context.now.model.now.metamodel (tree_of c.args.body.now) c.args.variable.now (values_of c.args.context.now.scope)) true (members c.args.receiver.now)) (λ (found : Option Scalar). flag (is_some found)) (contents c.args.context.now.model.now) c.args.reads.now c.in_ok-found-in-Exists.found c.eval_first.new.reads c.in_ok-found-in-Exists.ensures.value ∙ ap (λ v. record { gave = Ok v; reads = c.eval_first.new.reads }) (sym (c.flag.ensures ∙ ap flag c.is_some.ensures)))

pub eval_lambda-returns-in_err-found-in-ForAll-clause-value : goal.eval_lambda-returns-in_err-found-in-ForAll-clause-value
unfolding iterated
eval_lambda-returns-in_err-found-in-ForAll-clause-value t c =
    rw c.in-ForAll.is
    (returned _ c.from_residual-in_err-found-in-ForAll.result c.in_err-found-in-ForAll.field-0.0 c.eval_first-in-ForAll.new.reads c.from_residual-in_err-found-in-ForAll.ensures.1
    (stopped (λ found. done ((λ (found : Option Scalar). flag (not (is_some found))) found)) (contents c.args.context.now.model.now) (first_that (of_member c.args.context.now.model.now.metamodel (tree_of c.args.body.now) c.args.variable.now (values_of c.args.context.now.scope)) false (members c.args.receiver.now)) c.args.reads.now c.in_err-found-in-ForAll.field-0.0 c.eval_first-in-ForAll.new.reads c.in_err-found-in-ForAll.ensures.value))

pub eval_lambda-returns-in_ok-found-in-ForAll-clause-value : goal.eval_lambda-returns-in_ok-found-in-ForAll-clause-value
unfolding iterated
eval_lambda-returns-in_ok-found-in-ForAll-clause-value t c =
    rw c.in-ForAll.is
    (searched (first_that (of_member c.args.context.now.model.now.metamodel (tree_of c.args.body.now) c.args.variable.now (values_of c.args.context.now.scope)) false (members c.args.receiver.now)) (λ (found : Option Scalar). flag (not (is_some found))) (contents c.args.context.now.model.now) c.args.reads.now c.in_ok-found-in-ForAll.found c.eval_first-in-ForAll.new.reads c.in_ok-found-in-ForAll.ensures.value ∙ ap (λ v. record { gave = Ok v; reads = c.eval_first-in-ForAll.new.reads }) (sym (c.flag-in-ForAll.ensures ∙ ap (λ b. flag (not b)) c.is_some-in-ForAll.ensures)))

pub eval_lambda-returns-in_err-found-in-Any-clause-value : goal.eval_lambda-returns-in_err-found-in-Any-clause-value
unfolding iterated
eval_lambda-returns-in_err-found-in-Any-clause-value t c =
    rw c.in-Any.is
    (returned _ c.from_residual-in_err-found-in-Any.result c.in_err-found-in-Any.field-0.0 c.eval_first-in-Any.new.reads c.from_residual-in_err-found-in-Any.ensures.1
    (stopped (λ found. done (or_null found)) (contents c.args.context.now.model.now) (first_that (of_member c.args.context.now.model.now.metamodel (tree_of c.args.body.now) c.args.variable.now (values_of c.args.context.now.scope)) true (members c.args.receiver.now)) c.args.reads.now c.in_err-found-in-Any.field-0.0 c.eval_first-in-Any.new.reads c.in_err-found-in-Any.ensures.value))

pub eval_lambda-returns-in_ok-found-in-Any-clause-value : goal.eval_lambda-returns-in_ok-found-in-Any-clause-value
unfolding iterated
eval_lambda-returns-in_ok-found-in-Any-clause-value t c =
    rw c.in-Any.is
    (searched (first_that (of_member c.args.context.now.model.now.metamodel (tree_of c.args.body.now) c.args.variable.now (values_of c.args.context.now.scope)) true (members c.args.receiver.now)) or_null (contents c.args.context.now.model.now) c.args.reads.now c.in_ok-found-in-Any.found c.eval_first-in-Any.new.reads c.in_ok-found-in-Any.ensures.value ∙ ap (λ v. record { gave = Ok v; reads = c.eval_first-in-Any.new.reads }) (sym c.or_null.ensures))

pub eval_sifted-loop-member-init : goal.eval_sifted-loop-member-init
eval_sifted-loop-member-init t c =
    rw c.new-kept.ensures (record { same = refl; among = none })

pub eval_sifted-returns-in_err-eval_test-clause-value : goal.eval_sifted-returns-in_err-eval_test-clause-value
unfolding sifted
eval_sifted-returns-in_err-eval_test-clause-value t c =
    let l = c.loop-member in
    let xs = c.members-member-items.result.now in
    let x = c.member-item.result in
    let here : drop l.member-index xs ≡ x ∷ drop (l.member-index + 1) xs = drop_more xs l.member-index x (omega arith) ∙ ap (λ y. y ∷ drop (l.member-index + 1) xs) (sym c.member-item.is) in
    let one = sift_stopped (of_member c.args.context.now.model.now.metamodel (tree_of c.args.body.now) c.args.variable.now (values_of c.args.context.now.scope)) (contents c.args.context.now.model.now) l.reads x c.args.wanted l.kept c.in_err-eval_test.field-0.0 c.eval_test.new.reads c.in_err-eval_test.ensures.value in
    returned _ c.from_residual.result c.in_err-eval_test.field-0.0 c.eval_test.new.reads c.from_residual.ensures.1
    (stopped (λ ys. done (collection (sort_of c.args.receiver.now) ys)) (contents c.args.context.now.model.now) (each (sift (of_member c.args.context.now.model.now.metamodel (tree_of c.args.body.now) c.args.variable.now (values_of c.args.context.now.scope)) c.args.wanted) [] (members c.args.receiver.now)) c.args.reads.now c.in_err-eval_test.field-0.0 c.eval_test.new.reads
    (loop_stopped (sift (of_member c.args.context.now.model.now.metamodel (tree_of c.args.body.now) c.args.variable.now (values_of c.args.context.now.scope)) c.args.wanted) (contents c.args.context.now.model.now) l.kept (drop l.member-index xs) x (drop (l.member-index + 1) xs) l.reads c.in_err-eval_test.field-0.0 c.eval_test.new.reads _ here one (l.invariant.same ∙ ap (λ ys. run (each (sift (of_member c.args.context.now.model.now.metamodel (tree_of c.args.body.now) c.args.variable.now (values_of c.args.context.now.scope)) c.args.wanted) [] ys) (contents c.args.context.now.model.now) c.args.reads.now) c.members-member-items.ensures)))

pub eval_sifted-loop-member-preserved : goal.eval_sifted-loop-member-preserved
eval_sifted-loop-member-preserved t c =
    let l = c.loop-member in
    let xs = c.members-member-items.result.now in
    let x = c.member-item.result in
    let here : drop l.member-index xs ≡ x ∷ drop (l.member-index + 1) xs = drop_more xs l.member-index x (omega arith) ∙ ap (λ y. y ∷ drop (l.member-index + 1) xs) (sym c.member-item.is) in
    let more : take (l.member-index + 1) xs ≡ take l.member-index xs ++ x ∷ [] = take_more xs l.member-index x (omega arith) ∙ ap (λ y. take l.member-index xs ++ y ∷ []) (sym c.member-item.is) in
    let b = c.in_ok-eval_test.field-0 in
    let reads = c.eval_test.new.reads in
    let one = sift_gives (of_member c.args.context.now.model.now.metamodel (tree_of c.args.body.now) c.args.variable.now (values_of c.args.context.now.scope)) (contents c.args.context.now.model.now) l.reads x c.args.wanted l.kept b reads c.in_ok-eval_test.ensures.value in
    elim c.if-branch-wanted.branch [
      | eval_sifted-then-branch-wanted+in_ok-copy+in_ok-push w ↦
          let k : c.if-branch-wanted.kept ≡ l.kept ++ x ∷ [] = cc (w.in_ok-push.ensures.ok, w.in_ok-copy.ensures) in
          let step = one ∙ ap (λ ys. record { gave = Ok ys; reads = reads }) (kept_more c.args.wanted b l.kept x w.if-branch-wanted.true ∙ sym k) in
          record {
            same = loop_next (sift (of_member c.args.context.now.model.now.metamodel (tree_of c.args.body.now) c.args.variable.now (values_of c.args.context.now.scope)) c.args.wanted) (contents c.args.context.now.model.now) l.kept (drop l.member-index xs) x (drop (l.member-index + 1) xs) l.reads c.if-branch-wanted.kept reads _ here step l.invariant.same;
            among = rw (k, more) (one_kept l.invariant.among x);
          }
      | eval_sifted-else-branch-wanted w ↦
          let k : c.if-branch-wanted.kept ≡ l.kept = cc in
          let step = one ∙ ap (λ ys. record { gave = Ok ys; reads = reads }) (kept_same c.args.wanted b l.kept x w.if-branch-wanted.false ∙ sym k) in
          record {
            same = loop_next (sift (of_member c.args.context.now.model.now.metamodel (tree_of c.args.body.now) c.args.variable.now (values_of c.args.context.now.scope)) c.args.wanted) (contents c.args.context.now.model.now) l.kept (drop l.member-index xs) x (drop (l.member-index + 1) xs) l.reads c.if-branch-wanted.kept reads _ here step l.invariant.same;
            among = rw (k, more) (one_left_out l.invariant.among x);
          }
    ]

pub eval_sifted-returns-clause-value : goal.eval_sifted-returns-clause-value
unfolding sifted
eval_sifted-returns-clause-value t c =
    let l = c.loop-member in
    let xs = c.members-member-items.result.now in
    let none : drop l.member-index xs ≡ [] = drop_all l.member-index xs (omega arith) in
    let all = loop_done (sift (of_member c.args.context.now.model.now.metamodel (tree_of c.args.body.now) c.args.variable.now (values_of c.args.context.now.scope)) c.args.wanted) (contents c.args.context.now.model.now) l.kept (drop l.member-index xs) l.reads _ none (l.invariant.same ∙ ap (λ ys. run (each (sift (of_member c.args.context.now.model.now.metamodel (tree_of c.args.body.now) c.args.variable.now (values_of c.args.context.now.scope)) c.args.wanted) [] ys) (contents c.args.context.now.model.now) c.args.reads.now) c.members-member-items.ensures) in
    rw (c.collection.ensures, c.sort.ensures) (searched (each (sift (of_member c.args.context.now.model.now.metamodel (tree_of c.args.body.now) c.args.variable.now (values_of c.args.context.now.scope)) c.args.wanted) [] (members c.args.receiver.now)) (collection (sort_of c.args.receiver.now)) (contents c.args.context.now.model.now) c.args.reads.now l.kept l.reads all)

pub eval_sifted-returns-clause-bounded : goal.eval_sifted-returns-clause-bounded
eval_sifted-returns-clause-bounded t c =
    let l = c.loop-member in
    let xs = c.members-member-items.result.now in
    let among = subst (λ ys. IsSublist l.kept ys) (take_all l.member-index xs (omega arith) ∙ c.members-member-items.ensures) l.invariant.among in
    rw (c.collection.ensures, c.sort.ensures) (bounded_kept c.args.context.now.model.now.metamodel c.args.receiver.now l.kept among c.requires.bounded)

pub eval_collected-returns-in_err-put_member-clause-value : goal.eval_collected-returns-in_err-put_member-clause-value
unfolding of_each
eval_collected-returns-in_err-put_member-clause-value t c =
    let l = c.loop-member in
    let xs = c.members-member-items.result.now in
    let x = c.member-item.result in
    let here : drop l.member-index xs ≡ x ∷ drop (l.member-index + 1) xs = drop_more xs l.member-index x (omega arith) ∙ ap (λ y. y ∷ drop (l.member-index + 1) xs) (sym c.member-item.is) in
    let one = subst (λ k. Gives (run (gather k (of_member c.args.context.now.model.now.metamodel (tree_of c.args.body.now) c.args.variable.now (values_of c.args.context.now.scope)) l.gathered.1 x) (contents c.args.context.now.model.now) l.reads) (Err c.in_err-put_member.field-0.0) c.put_member.new.reads) l.invariant.sort (nothing_left _ Unit c.in_err-put_member.field-0.0 c.put_member.new.gathered.1 c.put_member.new.reads c.in_err-put_member.ensures.members) in
    returned _ c.from_residual.result c.in_err-put_member.field-0.0 c.put_member.new.reads c.from_residual.ensures.1
    (stopped (λ ys. done (collection (sort_of c.args.receiver.now) ys)) (contents c.args.context.now.model.now) (each (gather (sort_of c.args.receiver.now) (of_member c.args.context.now.model.now.metamodel (tree_of c.args.body.now) c.args.variable.now (values_of c.args.context.now.scope))) [] (members c.args.receiver.now)) c.args.reads.now c.in_err-put_member.field-0.0 c.put_member.new.reads
    (loop_stopped (gather (sort_of c.args.receiver.now) (of_member c.args.context.now.model.now.metamodel (tree_of c.args.body.now) c.args.variable.now (values_of c.args.context.now.scope))) (contents c.args.context.now.model.now) l.gathered.1 (drop l.member-index xs) x (drop (l.member-index + 1) xs) l.reads c.in_err-put_member.field-0.0 c.put_member.new.reads _ here one (ap (λ k. run (each (gather k (of_member c.args.context.now.model.now.metamodel (tree_of c.args.body.now) c.args.variable.now (values_of c.args.context.now.scope))) l.gathered.1 (drop l.member-index xs)) (contents c.args.context.now.model.now) l.reads) (sym l.invariant.sort) ∙ (l.invariant.same ∙ (ap (λ g. run (each (gather g.0 (of_member c.args.context.now.model.now.metamodel (tree_of c.args.body.now) c.args.variable.now (values_of c.args.context.now.scope))) g.1 xs) (contents c.args.context.now.model.now) c.args.reads.now) (c.new-gathered.ensures ∙ ap (λ k. (k, [])) c.sort.ensures) ∙ ap (λ ys. run (each (gather (sort_of c.args.receiver.now) (of_member c.args.context.now.model.now.metamodel (tree_of c.args.body.now) c.args.variable.now (values_of c.args.context.now.scope))) [] ys) (contents c.args.context.now.model.now) c.args.reads.now) c.members-member-items.ensures)))))

pub eval_collected-loop-member-preserved : goal.eval_collected-loop-member-preserved
eval_collected-loop-member-preserved t c =
    let l = c.loop-member in
    let xs = c.members-member-items.result.now in
    let x = c.member-item.result in
    let here : drop l.member-index xs ≡ x ∷ drop (l.member-index + 1) xs = drop_more xs l.member-index x (omega arith) ∙ ap (λ y. y ∷ drop (l.member-index + 1) xs) (sym c.member-item.is) in
    let k = c.in_ok-put_member.ensures.sort in
    let on = loop_next (gather l.gathered.0 (of_member c.args.context.now.model.now.metamodel (tree_of c.args.body.now) c.args.variable.now (values_of c.args.context.now.scope))) (contents c.args.context.now.model.now) l.gathered.1 (drop l.member-index xs) x (drop (l.member-index + 1) xs) l.reads c.put_member.new.gathered.1 c.put_member.new.reads _ here c.in_ok-put_member.ensures.members l.invariant.same in
    record {
      sort = k ∙ l.invariant.sort;
      same = ap (λ kind. run (each (gather kind (of_member c.args.context.now.model.now.metamodel (tree_of c.args.body.now) c.args.variable.now (values_of c.args.context.now.scope))) c.put_member.new.gathered.1 (drop (l.member-index + 1) xs)) (contents c.args.context.now.model.now) c.put_member.new.reads) k ∙ on;
      bounded = c.in_ok-put_member.ensures.bounded;
    }

pub eval_collected-returns-clause-value : goal.eval_collected-returns-clause-value
unfolding of_each
eval_collected-returns-clause-value t c =
    let l = c.loop-member in
    let xs = c.members-member-items.result.now in
    let none : drop l.member-index xs ≡ [] = drop_all l.member-index xs (omega arith) in
    let all = loop_done (gather (sort_of c.args.receiver.now) (of_member c.args.context.now.model.now.metamodel (tree_of c.args.body.now) c.args.variable.now (values_of c.args.context.now.scope))) (contents c.args.context.now.model.now) l.gathered.1 (drop l.member-index xs) l.reads _ none (ap (λ k. run (each (gather k (of_member c.args.context.now.model.now.metamodel (tree_of c.args.body.now) c.args.variable.now (values_of c.args.context.now.scope))) l.gathered.1 (drop l.member-index xs)) (contents c.args.context.now.model.now) l.reads) (sym l.invariant.sort) ∙ (l.invariant.same ∙ (ap (λ g. run (each (gather g.0 (of_member c.args.context.now.model.now.metamodel (tree_of c.args.body.now) c.args.variable.now (values_of c.args.context.now.scope))) g.1 xs) (contents c.args.context.now.model.now) c.args.reads.now) (c.new-gathered.ensures ∙ ap (λ k. (k, [])) c.sort.ensures) ∙ ap (λ ys. run (each (gather (sort_of c.args.receiver.now) (of_member c.args.context.now.model.now.metamodel (tree_of c.args.body.now) c.args.variable.now (values_of c.args.context.now.scope))) [] ys) (contents c.args.context.now.model.now) c.args.reads.now) c.members-member-items.ensures))) in
    let value : collection (sort_of c.args.receiver.now) l.gathered.1 ≡ c.in_ok-into_value.field-0 = ap (λ k. collection k l.gathered.1) (sym l.invariant.sort) ∙ sym c.in_ok-into_value.ensures in
    searched (each (gather (sort_of c.args.receiver.now) (of_member c.args.context.now.model.now.metamodel (tree_of c.args.body.now) c.args.variable.now (values_of c.args.context.now.scope))) [] (members c.args.receiver.now)) (collection (sort_of c.args.receiver.now)) (contents c.args.context.now.model.now) c.args.reads.now l.gathered.1 l.reads all ∙ ap (λ v. record { gave = Ok v; reads = l.reads }) value

pub put_member-returns-in_err-value-clause-members : goal.put_member-returns-in_err-value-clause-members
unfolding gather
put_member-returns-in_err-value-clause-members t c =
    left_returned _ Unit c.from_residual.result c.in_err-value.field-0.0 c.args.gathered.now.1 c.eval_member.new.reads c.from_residual.ensures.1
    (stopped (λ value. given (put c.args.gathered.now.0 c.args.gathered.now.1 value)) (contents c.args.context.now.model.now) ((of_member c.args.context.now.model.now.metamodel (tree_of c.args.body.now) c.args.variable.now (values_of c.args.context.now.scope)) c.args.member.now) c.args.reads.now c.in_err-value.field-0.0 c.eval_member.new.reads c.in_err-value.ensures.value)

pub put_member-returns-clause-members : goal.put_member-returns-clause-members
unfolding gather
put_member-returns-clause-members t c =
    became_left (contents c.args.context.now.model.now) (put c.args.gathered.now.0 c.args.gathered.now.1 c.in_ok-value.value) c.put.result c.put.new.self.1 _ c.eval_member.new.reads c.put.ensures.put
    (followed (λ value. given (put c.args.gathered.now.0 c.args.gathered.now.1 value)) (contents c.args.context.now.model.now) ((of_member c.args.context.now.model.now.metamodel (tree_of c.args.body.now) c.args.variable.now (values_of c.args.context.now.scope)) c.args.member.now) c.args.reads.now c.in_ok-value.value c.eval_member.new.reads c.in_ok-value.ensures.value)

pub eval_first-returns-in_err-eval_test-clause-value : goal.eval_first-returns-in_err-eval_test-clause-value
eval_first-returns-in_err-eval_test-clause-value t c =
    let l = c.loop-member in
    let xs = c.members-member-items.result.now in
    let x = c.member-item.result in
    let here : drop l.member-index xs ≡ x ∷ drop (l.member-index + 1) xs = drop_more xs l.member-index x (omega arith) ∙ ap (λ y. y ∷ drop (l.member-index + 1) xs) (sym c.member-item.is) in
    let step = ap (λ ys. run (first_that (of_member c.args.context.now.model.now.metamodel (tree_of c.args.body.now) c.args.variable.now (values_of c.args.context.now.scope)) c.args.wanted ys) (contents c.args.context.now.model.now) l.reads) here in
    returned _ c.from_residual.result c.in_err-eval_test.field-0.0 c.eval_test.new.reads c.from_residual.ensures.1
    (gives_equal (Err c.in_err-eval_test.field-0.0) c.eval_test.new.reads _ _ (sym (l.invariant ∙ ap (λ ys. run (first_that (of_member c.args.context.now.model.now.metamodel (tree_of c.args.body.now) c.args.variable.now (values_of c.args.context.now.scope)) c.args.wanted ys) (contents c.args.context.now.model.now) c.args.reads.now) c.members-member-items.ensures) ∙ step)
    (first_stopped (of_member c.args.context.now.model.now.metamodel (tree_of c.args.body.now) c.args.variable.now (values_of c.args.context.now.scope)) (contents c.args.context.now.model.now) l.reads x c.args.wanted (drop (l.member-index + 1) xs) c.in_err-eval_test.field-0.0 c.eval_test.new.reads c.in_err-eval_test.ensures.value))

pub eval_first-returns-then-branch-wanted-clause-value : goal.eval_first-returns-then-branch-wanted-clause-value
eval_first-returns-then-branch-wanted-clause-value t c =
    let l = c.loop-member in
    let xs = c.members-member-items.result.now in
    let x = c.member-item.result in
    let here : drop l.member-index xs ≡ x ∷ drop (l.member-index + 1) xs = drop_more xs l.member-index x (omega arith) ∙ ap (λ y. y ∷ drop (l.member-index + 1) xs) (sym c.member-item.is) in
    let step = ap (λ ys. run (first_that (of_member c.args.context.now.model.now.metamodel (tree_of c.args.body.now) c.args.variable.now (values_of c.args.context.now.scope)) c.args.wanted ys) (contents c.args.context.now.model.now) l.reads) here in
    let b = c.in_ok-eval_test.field-0 in
    rw c.in_ok-copy.ensures (sym (l.invariant ∙ ap (λ ys. run (first_that (of_member c.args.context.now.model.now.metamodel (tree_of c.args.body.now) c.args.variable.now (values_of c.args.context.now.scope)) c.args.wanted ys) (contents c.args.context.now.model.now) c.args.reads.now) c.members-member-items.ensures) ∙ (step ∙ first_found (of_member c.args.context.now.model.now.metamodel (tree_of c.args.body.now) c.args.variable.now (values_of c.args.context.now.scope)) (contents c.args.context.now.model.now) l.reads x c.args.wanted (drop (l.member-index + 1) xs) b c.eval_test.new.reads c.in_ok-eval_test.ensures.value c.if-branch-wanted.true))

pub eval_first-loop-member-preserved : goal.eval_first-loop-member-preserved
eval_first-loop-member-preserved t c =
    let l = c.loop-member in
    let xs = c.members-member-items.result.now in
    let x = c.member-item.result in
    let here : drop l.member-index xs ≡ x ∷ drop (l.member-index + 1) xs = drop_more xs l.member-index x (omega arith) ∙ ap (λ y. y ∷ drop (l.member-index + 1) xs) (sym c.member-item.is) in
    let step = ap (λ ys. run (first_that (of_member c.args.context.now.model.now.metamodel (tree_of c.args.body.now) c.args.variable.now (values_of c.args.context.now.scope)) c.args.wanted ys) (contents c.args.context.now.model.now) l.reads) here in
    let b = c.in_ok-eval_test.field-0 in
    sym (first_passed_over (of_member c.args.context.now.model.now.metamodel (tree_of c.args.body.now) c.args.variable.now (values_of c.args.context.now.scope)) (contents c.args.context.now.model.now) l.reads x c.args.wanted (drop (l.member-index + 1) xs) b c.eval_test.new.reads c.in_ok-eval_test.ensures.value c.if-branch-wanted.false) ∙ (sym step ∙ l.invariant)

pub eval_first-returns-clause-value : goal.eval_first-returns-clause-value
eval_first-returns-clause-value t c =
    let l = c.loop-member in
    let xs = c.members-member-items.result.now in
    let none : drop l.member-index xs ≡ [] = drop_all l.member-index xs (omega arith) in
    sym (l.invariant ∙ ap (λ ys. run (first_that (of_member c.args.context.now.model.now.metamodel (tree_of c.args.body.now) c.args.variable.now (values_of c.args.context.now.scope)) c.args.wanted ys) (contents c.args.context.now.model.now) c.args.reads.now) c.members-member-items.ensures) ∙ (ap (λ ys. run (first_that (of_member c.args.context.now.model.now.metamodel (tree_of c.args.body.now) c.args.variable.now (values_of c.args.context.now.scope)) c.args.wanted ys) (contents c.args.context.now.model.now) l.reads) none ∙ first_none (of_member c.args.context.now.model.now.metamodel (tree_of c.args.body.now) c.args.variable.now (values_of c.args.context.now.scope)) (contents c.args.context.now.model.now) l.reads c.args.wanted)

pub eval_test-returns-in_err-eval_member : goal.eval_test-returns-in_err-eval_member
eval_test-returns-in_err-eval_member t c =
    record {
      value = returned _ c.from_residual.result c.in_err-eval_member.field-0.0 c.eval_member.new.reads c.from_residual.ensures.1
          (test_stopped (of_member c.args.context.now.model.now.metamodel (tree_of c.args.body.now) c.args.variable.now (values_of c.args.context.now.scope)) (contents c.args.context.now.model.now) c.args.reads.now c.args.member.now c.in_err-eval_member.field-0.0 c.eval_member.new.reads c.in_err-eval_member.ensures.value);
    }

pub eval_test-returns : goal.eval_test-returns
eval_test-returns t c =
    record { value = test_gives (of_member c.args.context.now.model.now.metamodel (tree_of c.args.body.now) c.args.variable.now (values_of c.args.context.now.scope)) (contents c.args.context.now.model.now) c.args.reads.now c.args.member.now c.in_ok-eval_member.field-0 c.eval_member.new.reads c.truth.result c.in_ok-eval_member.ensures.value c.truth.ensures }

pub eval_member-returns-clause-value : goal.eval_member-returns-clause-value
eval_member-returns-clause-value t c =
    rw (sym c.in_ok-copy.ensures) (rw values_inner at c.eval_node.ensures.value)

pub eval_node-returns-in-Integer-clause-value : goal.eval_node-returns-in-Integer-clause-value
eval_node-returns-in-Integer-clause-value t c =
    rw (c.in-Integer.is, means_integer) (given_gives (contents c.args.context.now.model.now) c.args.reads.now _ c.integer.result c.integer.ensures.value)

pub eval_node-returns-in-Text-clause-value : goal.eval_node-returns-in-Text-clause-value
eval_node-returns-in-Text-clause-value t c =
    rw (c.in-Text.is, means_text) (given_gives (contents c.args.context.now.model.now) c.args.reads.now _ c.text.result c.text.ensures.value)

pub eval_node-returns-in-Constant-clause-value : goal.eval_node-returns-in-Constant-clause-value
eval_node-returns-in-Constant-clause-value t c =
    rw (c.in-Constant.is, means_constant, c.constant.ensures.value) (run_done (contents c.args.context.now.model.now) _ c.args.reads.now)

pub eval_node-returns-in-Literal-clause-value : goal.eval_node-returns-in-Literal-clause-value
eval_node-returns-in-Literal-clause-value t c =
    rw (c.in-Literal.is, means_literal, c.literal.ensures.value, c.metamodel.ensures) (run_done (contents c.args.context.now.model.now) _ c.args.reads.now)

pub eval_node-returns-in-Literal-clause-bounded : goal.eval_node-returns-in-Literal-clause-bounded
eval_node-returns-in-Literal-clause-bounded t c =
    rw c.metamodel.ensures at c.literal.ensures.bounded
