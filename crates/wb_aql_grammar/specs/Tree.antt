-- The tree of an expression, as plain data.
use Rattle.std.specs.Prelude.{ℕ, List}
use Rattle.wb_aql_grammar.specs.declared.expr.Constant.{Constant}
use Rattle.wb_aql_grammar.specs.declared.expr.CollectionKind.{CollectionKind}
use Rattle.wb_aql_grammar.specs.declared.expr.Unary.{Unary as UnaryOperator}
use Rattle.wb_aql_grammar.specs.declared.expr.Binary.{Binary as BinaryOperator}
use Rattle.wb_aql_grammar.specs.declared.expr.CallKind.{CallKind}

mutual
  pub data Tree : Type 0 where
    Integer : ℕ → Tree
    Text : List ℕ → Tree
    Const : Constant → Tree
    Variable : List ℕ → Tree
    Literal : List ℕ → List ℕ → List ℕ → Tree
    Collection : CollectionKind → Trees → Tree
    Unary : UnaryOperator → Tree → Tree
    Binary : BinaryOperator → Tree → Tree → Tree
    If : (condition yes no : Tree) → Tree
    Let : List ℕ → (value body : Tree) → Tree
    Feature : Tree → List ℕ → Tree
    Call : CallKind → Tree → List ℕ → Arguments → Tree

  pub data Trees : Type 0 where
    no_trees : Trees
    trees : Tree → Trees → Trees

  pub data Arguments : Type 0 where
    no_arguments : Arguments
    lambda : List ℕ → Tree → Arguments → Arguments
    type_named : List ℕ → List ℕ → Arguments → Arguments
    expression : Tree → Arguments → Arguments

-- one more at the end
abbrev pub with_tree : Trees → Tree → Trees
with_tree no_trees x = trees x no_trees
with_tree (trees y ys) x = trees y (with_tree ys x)

abbrev pub with_lambda : Arguments → List ℕ → Tree → Arguments
with_lambda no_arguments v x = lambda v x no_arguments
with_lambda (lambda w y ys) v x = lambda w y (with_lambda ys v x)
with_lambda (type_named p c ys) v x = type_named p c (with_lambda ys v x)
with_lambda (expression y ys) v x = expression y (with_lambda ys v x)

abbrev pub with_type : Arguments → List ℕ → List ℕ → Arguments
with_type no_arguments p c = type_named p c no_arguments
with_type (lambda w y ys) p c = lambda w y (with_type ys p c)
with_type (type_named q d ys) p c = type_named q d (with_type ys p c)
with_type (expression y ys) p c = expression y (with_type ys p c)

abbrev pub with_expression : Arguments → Tree → Arguments
with_expression no_arguments x = expression x no_arguments
with_expression (lambda w y ys) x = lambda w y (with_expression ys x)
with_expression (type_named p c ys) x = type_named p c (with_expression ys x)
with_expression (expression y ys) x = expression y (with_expression ys x)
