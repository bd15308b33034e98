-- The nodes below a call are fewer; a call that passes them on unchanged stands above the one that takes them.
use Rattle.std.proofs.Common.{◌≡◌, ◌∷◌, [], ◌+◌, ◌*◌, drop, take}
use Rattle.wb_aql_grammar.specs.View.{tree_of, trees_in, arguments_in}
use Rattle.wb_aql_grammar.proofs.Weights.{weight, elements_weight, arguments_weight}
use Rattle.wb_aql_values.specs.Bounds.{IsBounded}
use Rattle.wb_aql_values.specs.Values.{collection, sort_of}
use Rattle.wb_aql_values.specs.Readings.{contents, each, gather}
use Rattle.wb_aql_values.specs.Runs.{run}
use Rattle.wb_aql_eval.specs.Iterations.{sift, first_that}
use Rattle.wb_aql_eval.specs.Meaning.{collected, of_member, sort_named}
use Rattle.wb_aql_eval.specs.Scopes.{values_of}
use Rattle.wb_aql_values.proofs.Sublists.{IsSublist}
use Rattle.wb_aql_eval.proofs.nodes.+eval.Given as goal

abbrev pub decreases-eval_node : goal.decreases-eval_node
decreases-eval_node l = 16 * weight (tree_of l.node.now)

abbrev pub decreases-eval_unary : goal.decreases-eval_unary
decreases-eval_unary l = 16 * weight (tree_of l.operand.now) + 1

abbrev pub decreases-eval_binary : goal.decreases-eval_binary
decreases-eval_binary l = 16 * (weight (tree_of l.left.now) + weight (tree_of l.right.now)) + 2

abbrev pub decreases-eval_right : goal.decreases-eval_right
decreases-eval_right l = 16 * weight (tree_of l.right.now) + 1

abbrev pub decreases-eval_if : goal.decreases-eval_if
decreases-eval_if l = 16 * (weight (tree_of l.condition.now) + (weight (tree_of l.yes.now) + weight (tree_of l.no.now))) + 1

abbrev pub decreases-eval_let : goal.decreases-eval_let
decreases-eval_let l = 16 * (weight (tree_of l.value.now) + weight (tree_of l.body.now)) + 1

abbrev pub decreases-eval_feature : goal.decreases-eval_feature
decreases-eval_feature l = 16 * weight (tree_of l.receiver.now) + 1

abbrev pub decreases-eval_elements : goal.decreases-eval_elements
decreases-eval_elements l = 16 * elements_weight (trees_in l.elements.now) + 2

abbrev pub decreases-put_element : goal.decreases-put_element
decreases-put_element l = 16 * weight (tree_of l.element.now) + 1

abbrev pub decreases-eval_call : goal.decreases-eval_call
decreases-eval_call l = 16 * (weight (tree_of l.receiver.now) + arguments_weight (arguments_in l.arguments.now)) + 8

abbrev pub decreases-eval_argument : goal.decreases-eval_argument
decreases-eval_argument l = 16 * arguments_weight (arguments_in (l.argument.now ∷ [])) + 7

abbrev pub decreases-eval_lambda : goal.decreases-eval_lambda
decreases-eval_lambda l = 16 * weight (tree_of l.body.now) + 6

abbrev pub decreases-eval_sifted : goal.decreases-eval_sifted
decreases-eval_sifted l = 16 * weight (tree_of l.body.now) + 5

abbrev pub decreases-eval_collected : goal.decreases-eval_collected
decreases-eval_collected l = 16 * weight (tree_of l.body.now) + 5

abbrev pub decreases-put_member : goal.decreases-put_member
decreases-put_member l = 16 * weight (tree_of l.body.now) + 3

abbrev pub decreases-eval_first : goal.decreases-eval_first
decreases-eval_first l = 16 * weight (tree_of l.body.now) + 5

abbrev pub decreases-eval_test : goal.decreases-eval_test
decreases-eval_test l = 16 * weight (tree_of l.body.now) + 3

abbrev pub decreases-eval_member : goal.decreases-eval_member
decreases-eval_member l = 16 * weight (tree_of l.body.now) + 1

-- the run over what is left, from the reads so far, is the run over all; what was put together is within its bounds
abbrev pub invariant-eval_elements-loop-element : goal.invariant-eval_elements-loop-element
invariant-eval_elements-loop-element l = record {
  sort : l.gathered.0 ≡ sort_named l.fn.kind;
  same : run (collected l.context.model.now.metamodel l.gathered.0 l.gathered.1 (trees_in (drop l.element-index l.element-items)) (values_of l.context.scope)) (contents l.context.model.now) l.reads
      ≡ run (collected l.context.model.now.metamodel l.initial.gathered.0 l.initial.gathered.1 (trees_in l.element-items) (values_of l.context.scope)) (contents l.context.model.now) l.initial.reads;
  bounded : IsBounded l.context.model.now.metamodel (collection l.gathered.0 l.gathered.1);
}

abbrev pub invariant-eval_collected-loop-member : goal.invariant-eval_collected-loop-member
invariant-eval_collected-loop-member l = record {
  sort : l.gathered.0 ≡ sort_of l.receiver;
  same : run (each (gather l.gathered.0 (of_member l.context.model.now.metamodel (tree_of l.body) l.variable (values_of l.context.scope))) l.gathered.1 (drop l.member-index l.member-items)) (contents l.context.model.now) l.reads
      ≡ run (each (gather l.initial.gathered.0 (of_member l.context.model.now.metamodel (tree_of l.body) l.variable (values_of l.context.scope))) l.initial.gathered.1 l.member-items) (contents l.context.model.now) l.initial.reads;
  bounded : IsBounded l.context.model.now.metamodel (collection l.gathered.0 l.gathered.1);
}

abbrev pub invariant-eval_sifted-loop-member : goal.invariant-eval_sifted-loop-member
invariant-eval_sifted-loop-member l = record {
  same : run (each (sift (of_member l.context.model.now.metamodel (tree_of l.body) l.variable (values_of l.context.scope)) l.wanted) l.kept (drop l.member-index l.member-items)) (contents l.context.model.now) l.reads
      ≡ run (each (sift (of_member l.context.model.now.metamodel (tree_of l.body) l.variable (values_of l.context.scope)) l.wanted) [] l.member-items) (contents l.context.model.now) l.initial.reads;
  among : IsSublist l.kept (take l.member-index l.member-items);
}

abbrev pub invariant-eval_first-loop-member : goal.invariant-eval_first-loop-member
invariant-eval_first-loop-member l =
    run (first_that (of_member l.context.model.now.metamodel (tree_of l.body) l.variable (values_of l.context.scope)) l.wanted (drop l.member-index l.member-items)) (contents l.context.model.now) l.reads
    ≡ run (first_that (of_member l.context.model.now.metamodel (tree_of l.body) l.variable (values_of l.context.scope)) l.wanted l.member-items) (contents l.context.model.now) l.initial.reads
