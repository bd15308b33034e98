-- One more element, or one more argument, in memory and in the tree.
use Rattle.std.proofs.Common.{◌≡◌, List, [], ◌∷◌, ◌++◌, refl, ap}
use Rattle.wb_aql_grammar.specs.Tree.{with_tree}
use Rattle.wb_aql_grammar.specs.Tree as t
use Rattle.wb_aql_grammar.specs.View.{tree_of, trees_in, arguments_in}
use Rattle.wb_aql_grammar.specs.invariants.Reading.{with_argument}
use Rattle.wb_aql_grammar.specs.declared.expr.Node.{Node}
use Rattle.wb_aql_grammar.specs.declared.expr.Argument.{Argument}
use Rattle.wb_aql_grammar.specs.declared.expr.Argument.TheVariants as a

pub trees_in-push : (xs : List Node) (x : Node) → trees_in (xs ++ (x ∷ [])) ≡ with_tree (trees_in xs) (tree_of x)
trees_in-push [] x = refl
trees_in-push (y ∷ xs) x = ap (t.trees (tree_of y)) (trees_in-push xs x)

pub arguments_in-push : (xs : List (Argument Node)) (x : Argument Node) → arguments_in (xs ++ (x ∷ [])) ≡ with_argument (arguments_in xs) x
arguments_in-push [] (a.Lambda v x) = refl
arguments_in-push [] (a.Type p c) = refl
arguments_in-push [] (a.Expression x) = refl
arguments_in-push (a.Lambda w y ∷ xs) (a.Lambda v x) = ap (t.lambda w (tree_of y)) (arguments_in-push xs (a.Lambda v x))
arguments_in-push (a.Lambda w y ∷ xs) (a.Type p c) = ap (t.lambda w (tree_of y)) (arguments_in-push xs (a.Type p c))
arguments_in-push (a.Lambda w y ∷ xs) (a.Expression x) = ap (t.lambda w (tree_of y)) (arguments_in-push xs (a.Expression x))
arguments_in-push (a.Type q d ∷ xs) (a.Lambda v x) = ap (t.type_named q d) (arguments_in-push xs (a.Lambda v x))
arguments_in-push (a.Type q d ∷ xs) (a.Type p c) = ap (t.type_named q d) (arguments_in-push xs (a.Type p c))
arguments_in-push (a.Type q d ∷ xs) (a.Expression x) = ap (t.type_named q d) (arguments_in-push xs (a.Expression x))
arguments_in-push (a.Expression y ∷ xs) (a.Lambda v x) = ap (t.expression (tree_of y)) (arguments_in-push xs (a.Lambda v x))
arguments_in-push (a.Expression y ∷ xs) (a.Type p c) = ap (t.expression (tree_of y)) (arguments_in-push xs (a.Type p c))
arguments_in-push (a.Expression y ∷ xs) (a.Expression x) = ap (t.expression (tree_of y)) (arguments_in-push xs (a.Expression x))
