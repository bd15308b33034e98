use Rattle.std.proofs.Common.{ℕ, List, ◌+◌, ◌*◌, length}
use Rattle.wb_aql_grammar.specs.View.{tree_of, trees_in, arguments_in}
use Rattle.wb_aql_grammar.specs.Tree.{Tree}
use Rattle.wb_aql_grammar.specs.Grammar.{Post, PostMore, CallArguments, Argument, Elements, Element, last}
use Rattle.wb_aql_grammar.specs.invariants.Runs.{Outcome, Runs}
use Rattle.wb_aql_grammar.specs.invariants.Reading.{whole, more}
use Rattle.wb_aql_grammar.specs.declared.expr.CallKind.{CallKind}
use Rattle.wb_aql_grammar.specs.declared.expr.CollectionKind.{CollectionKind}
use Rattle.wb_aql_grammar.proofs.Measures.{operand_rank, level_rank}
use Rattle.wb_aql_grammar.proofs.+parser.Given as goal

abbrev pub decreases-atom::parse_collection : goal.decreases-atom::parse_collection
decreases-atom::parse_collection l = 32 * l.room.openings

abbrev pub decreases-atom::parse_marked : goal.decreases-atom::parse_marked
decreases-atom::parse_marked l = 32 * l.room.openings + 1

abbrev pub decreases-atom::parse_atom : goal.decreases-atom::parse_atom
decreases-atom::parse_atom l = 32 * l.room.openings + 2

abbrev pub decreases-postfix::parse_call : goal.decreases-postfix::parse_call
decreases-postfix::parse_call l = 32 * l.room.openings

abbrev pub decreases-postfix::parse_link : goal.decreases-postfix::parse_link
decreases-postfix::parse_link l = 32 * l.room.openings + 1

abbrev pub decreases-postfix::parse_postfix : goal.decreases-postfix::parse_postfix
decreases-postfix::parse_postfix l = 32 * l.room.openings + 3

abbrev pub decreases-parser::parse_unary : goal.decreases-parser::parse_unary
decreases-parser::parse_unary l = 32 * l.room.openings + 4

abbrev pub decreases-parser::parse_operand : goal.decreases-parser::parse_operand
decreases-parser::parse_operand l = 32 * l.room.openings + operand_rank l.level

abbrev pub decreases-parser::parse_level : goal.decreases-parser::parse_level
decreases-parser::parse_level l = 32 * l.room.openings + level_rank l.level

abbrev pub decreases-parser::parse_comparison : goal.decreases-parser::parse_comparison
decreases-parser::parse_comparison l = 32 * l.room.openings + 9

abbrev pub decreases-parser::parse_negation : goal.decreases-parser::parse_negation
decreases-parser::parse_negation l = 32 * l.room.openings + 10

abbrev pub decreases-parser::parse_expression : goal.decreases-parser::parse_expression
decreases-parser::parse_expression l = 32 * l.room.openings + 19

abbrev pub decreases-parser::parse_ended : goal.decreases-parser::parse_ended
decreases-parser::parse_ended l = 32 * l.room.openings + 20

abbrev pub decreases-parser::parse_binding : goal.decreases-parser::parse_binding
decreases-parser::parse_binding l = 32 * l.room.openings + 21

abbrev pub decreases-atom::parse_branches : goal.decreases-atom::parse_branches
decreases-atom::parse_branches l = 32 * l.room.openings + 21

abbrev pub decreases-atom::parse_elements : goal.decreases-atom::parse_elements
decreases-atom::parse_elements l = 32 * l.room.openings + 20

abbrev pub decreases-postfix::parse_lambda : goal.decreases-postfix::parse_lambda
decreases-postfix::parse_lambda l = 32 * l.room.openings + 20

abbrev pub decreases-postfix::parse_argument : goal.decreases-postfix::parse_argument
decreases-postfix::parse_argument l = 32 * l.room.openings + 21

abbrev pub decreases-postfix::parse_arguments : goal.decreases-postfix::parse_arguments
decreases-postfix::parse_arguments l = 32 * l.room.openings + 22

-- in each loop, what comes of the rest comes of the whole

abbrev pub invariant-parser::parse_level-chain : goal.invariant-parser::parse_level-chain
invariant-parser::parse_level-chain l = (o : Outcome) →
    Runs l.fn.room.openings l.fn.room.lambdas (last (more l.fn.level (tree_of l.left))) l.rest o →
    Runs l.fn.room.openings l.fn.room.lambdas (last (whole l.fn.level)) l.fn.tokens o

abbrev pub decreases-parser::parse_level-chain : goal.decreases-parser::parse_level-chain
decreases-parser::parse_level-chain l = length l.rest

abbrev pub invariant-postfix::parse_postfix-chain : goal.invariant-postfix::parse_postfix-chain
invariant-postfix::parse_postfix-chain l = (o : Outcome) →
    Runs l.fn.room.openings l.fn.room.lambdas (last (PostMore (tree_of l.receiver))) l.rest o →
    Runs l.fn.room.openings l.fn.room.lambdas (last Post) l.fn.tokens o

abbrev pub decreases-postfix::parse_postfix-chain : goal.decreases-postfix::parse_postfix-chain
decreases-postfix::parse_postfix-chain l = length l.rest

abbrev pub invariant-postfix::parse_arguments-arguments : goal.invariant-postfix::parse_arguments-arguments
invariant-postfix::parse_arguments-arguments l = (k : CallKind) (x : Tree) (v : List ℕ) (o : Outcome) →
    Runs l.fn.room.openings l.fn.room.lambdas (last (Argument k x v (arguments_in l.arguments))) l.rest o →
    Runs l.fn.room.openings l.fn.room.lambdas (last (CallArguments k x v)) l.fn.tokens o

abbrev pub decreases-postfix::parse_arguments-arguments : goal.decreases-postfix::parse_arguments-arguments
decreases-postfix::parse_arguments-arguments l = length l.rest

abbrev pub invariant-atom::parse_elements-elements : goal.invariant-atom::parse_elements-elements
invariant-atom::parse_elements-elements l = (k : CollectionKind) (o : Outcome) →
    Runs l.fn.room.openings l.fn.room.lambdas (last (Element k (trees_in l.elements))) l.rest o →
    Runs l.fn.room.openings l.fn.room.lambdas (last (Elements k)) l.fn.tokens o

abbrev pub decreases-atom::parse_elements-elements : goal.decreases-atom::parse_elements-elements
decreases-atom::parse_elements-elements l = length l.rest
