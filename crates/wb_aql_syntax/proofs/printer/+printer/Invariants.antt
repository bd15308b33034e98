-- The nodes below a call are fewer; a call that passes them on unchanged stands above the one that takes them.
use Rattle.std.proofs.Common.{◌≡◌, ◌++◌, ◌∷◌, [], false, string_bytes, ◌+◌, ◌*◌, drop}
use Rattle.wb_aql_grammar.specs.View.{tree_of, trees_in, arguments_in}
use Rattle.wb_aql_syntax.specs.Canonical.{element_pieces, argument_pieces}
use Rattle.wb_aql_syntax.specs.Printed.{bytes_in}
use Rattle.wb_aql_grammar.proofs.Weights.{weight, elements_weight, arguments_weight}
use Rattle.wb_aql_syntax.proofs.printer.+printer.Given as goal

abbrev pub decreases-write_bare : goal.decreases-write_bare
decreases-write_bare l = 4 * weight (tree_of l.e.now)

abbrev pub decreases-write_at : goal.decreases-write_at
decreases-write_at l = 4 * weight (tree_of l.e.now) + 1

abbrev pub decreases-write_binary : goal.decreases-write_binary
decreases-write_binary l = 4 * (weight (tree_of l.left.now) + weight (tree_of l.right.now)) + 2

abbrev pub decreases-write_if : goal.decreases-write_if
decreases-write_if l = 4 * (weight (tree_of l.condition.now) + (weight (tree_of l.yes.now) + weight (tree_of l.no.now))) + 2

abbrev pub decreases-write_let : goal.decreases-write_let
decreases-write_let l = 4 * (weight (tree_of l.value.now) + weight (tree_of l.body.now)) + 2

abbrev pub decreases-write_collection : goal.decreases-write_collection
decreases-write_collection l = 4 * elements_weight (trees_in l.elements.now) + 2

abbrev pub decreases-write_arguments : goal.decreases-write_arguments
decreases-write_arguments l = 4 * arguments_weight (arguments_in l.arguments.now) + 2

abbrev pub decreases-write_argument : goal.decreases-write_argument
decreases-write_argument l = 4 * arguments_weight (arguments_in (l.argument.now ∷ [])) + 1

-- what is written, with the pieces of the elements that are left, is as much as all of them
abbrev pub invariant-write_collection-loop-element : goal.invariant-write_collection-loop-element
invariant-write_collection-loop-element l =
    string_bytes l.out ++ bytes_in (element_pieces l.later (trees_in (drop l.element-index l.element-items)))
    ≡ string_bytes l.initial.out ++ bytes_in (element_pieces false (trees_in l.element-items))

abbrev pub invariant-write_arguments-loop-argument : goal.invariant-write_arguments-loop-argument
invariant-write_arguments-loop-argument l =
    string_bytes l.out ++ bytes_in (argument_pieces l.later (arguments_in (drop l.argument-index l.argument-items)))
    ≡ string_bytes l.initial.out ++ bytes_in (argument_pieces false (arguments_in l.argument-items))
