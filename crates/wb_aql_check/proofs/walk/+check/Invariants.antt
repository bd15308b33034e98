-- The nodes below a call are fewer; a call that passes them on unchanged stands above the one that takes them.
use Rattle.std.proofs.Common.{◌≡◌, ◌∷◌, [], ◌+◌, ◌*◌, drop}
use Rattle.wb_aql_grammar.specs.View.{tree_of, trees_in, arguments_in}
use Rattle.wb_aql_grammar.proofs.Weights.{weight, elements_weight, arguments_weight}
use Rattle.wb_aql_check.specs.Names.{first_wrong_element, first_wrong_argument}
use Rattle.wb_aql_check.specs.Scopes.{names_of}
use Rattle.wb_aql_check.proofs.walk.+check.Given as goal

abbrev pub decreases-check_node : goal.decreases-check_node
decreases-check_node l = 4 * weight (tree_of l.node.now)

abbrev pub decreases-check_elements : goal.decreases-check_elements
decreases-check_elements l = 4 * elements_weight (trees_in l.elements.now) + 2

abbrev pub decreases-check_arguments : goal.decreases-check_arguments
decreases-check_arguments l = 4 * arguments_weight (arguments_in l.arguments.now) + 2

abbrev pub decreases-check_argument : goal.decreases-check_argument
decreases-check_argument l = 4 * arguments_weight (arguments_in (l.argument.now ∷ [])) + 1

-- what is first wrong among those that are left is first wrong among all
abbrev pub invariant-check_elements-loop-element : goal.invariant-check_elements-loop-element
invariant-check_elements-loop-element l =
    first_wrong_element l.metamodel (names_of l.scope) (trees_in (drop l.element-index l.element-items))
    ≡ first_wrong_element l.metamodel (names_of l.scope) (trees_in l.element-items)

abbrev pub invariant-check_arguments-loop-argument : goal.invariant-check_arguments-loop-argument
invariant-check_arguments-loop-argument l =
    first_wrong_argument l.metamodel (names_of l.scope) (arguments_in (drop l.argument-index l.argument-items))
    ≡ first_wrong_argument l.metamodel (names_of l.scope) (arguments_in l.argument-items)
