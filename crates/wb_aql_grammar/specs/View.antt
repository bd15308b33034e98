-- The tree that an expression in memory stands for.
use Rattle.std.specs.Prelude.{List, [], ◌∷◌}
use Rattle.wb_aql_grammar.specs.Tree as t
use Rattle.wb_aql_grammar.specs.Tree.{Tree, Trees, Arguments}
use Rattle.wb_aql_grammar.specs.declared.expr.Node.{Node}
use Rattle.wb_aql_grammar.specs.declared.expr.Node.TheOpen.{Node-F}
use Rattle.wb_aql_grammar.specs.declared.expr.Node.TheOpen as n
use Rattle.wb_aql_grammar.specs.declared.expr.Node.TheFolds.{fold-Node}
use Rattle.wb_aql_grammar.specs.declared.expr.Argument.{Argument}
use Rattle.wb_aql_grammar.specs.declared.expr.Argument.TheVariants as a

abbrev pub trees_of : List Tree → Trees
trees_of [] = t.no_trees
trees_of (x ∷ xs) = t.trees x (trees_of xs)

abbrev pub arguments_of : List (Argument Tree) → Arguments
arguments_of [] = t.no_arguments
arguments_of (a.Lambda v x ∷ xs) = t.lambda v x (arguments_of xs)
arguments_of (a.Type p c ∷ xs) = t.type_named p c (arguments_of xs)
arguments_of (a.Expression x ∷ xs) = t.expression x (arguments_of xs)

abbrev pub layer : Node-F Tree → Tree
layer (n.Integer i) = t.Integer i
layer (n.Text v) = t.Text v
layer (n.Constant c) = t.Const c
layer (n.Variable v) = t.Variable v
layer (n.Literal p e l) = t.Literal p e l
layer (n.Collection k xs) = t.Collection k (trees_of xs)
layer (n.Unary o x) = t.Unary o x
layer (n.Binary o x y) = t.Binary o x y
layer (n.If x y z) = t.If x y z
layer (n.Let v x y) = t.Let v x y
layer (n.Feature x v) = t.Feature x v
layer (n.Call k x v xs) = t.Call k x v (arguments_of xs)

unfoldable pub tree_of : Node → Tree
tree_of = fold-Node Tree layer

abbrev pub trees_in : List Node → Trees
trees_in [] = t.no_trees
trees_in (x ∷ xs) = t.trees (tree_of x) (trees_in xs)

abbrev pub arguments_in : List (Argument Node) → Arguments
arguments_in [] = t.no_arguments
arguments_in (a.Lambda v x ∷ xs) = t.lambda v (tree_of x) (arguments_in xs)
arguments_in (a.Type p c ∷ xs) = t.type_named p c (arguments_in xs)
arguments_in (a.Expression x ∷ xs) = t.expression (tree_of x) (arguments_in xs)
