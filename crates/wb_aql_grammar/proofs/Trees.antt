-- The tree of each node, for a search.
use Rattle.wb_aql_grammar.proofs.Nodes.{tree_integer, tree_text, tree_constant, tree_variable, tree_literal, tree_collection, tree_unary, tree_binary, tree_conditional, tree_let_in, tree_feature, tree_call}

pub ruleset trees = (tree_integer, tree_text, tree_constant, tree_variable, tree_literal, tree_collection, tree_unary, tree_binary, tree_conditional, tree_let_in, tree_feature, tree_call)
