-- How many nodes a tree has: each part of it has fewer.
use Rattle.std.proofs.Common.{◌≡◌, ℕ, zero, suc, ◌+◌, ◌≤◌, List, [], ◌∷◌, ap, arith, drop}
use Rattle.wb_aql_grammar.specs.Tree.{Tree, Trees, Arguments}
use Rattle.wb_aql_grammar.specs.Tree as t
use Rattle.wb_aql_grammar.specs.View.{tree_of, trees_in, arguments_in}
use Rattle.wb_aql_grammar.specs.declared.expr.Node.{Node}
use Rattle.wb_aql_grammar.specs.declared.expr.Argument.{Argument}
use Rattle.wb_aql_grammar.specs.declared.expr.Argument.TheVariants as a

abbrev mutual
  pub weight : Tree → ℕ
  weight (t.Collection k xs) = suc (elements_weight xs)
  weight (t.Unary o x) = suc (weight x)
  weight (t.Binary o x y) = suc (weight x + weight y)
  weight (t.If x y z) = suc (weight x + (weight y + weight z))
  weight (t.Let v x y) = suc (weight x + weight y)
  weight (t.Feature x v) = suc (weight x)
  weight (t.Call k x v xs) = suc (weight x + arguments_weight xs)
  weight _ = 1

  pub elements_weight : Trees → ℕ
  elements_weight t.no_trees = 0
  elements_weight (t.trees x xs) = weight x + elements_weight xs

  pub arguments_weight : Arguments → ℕ
  arguments_weight t.no_arguments = 0
  arguments_weight (t.lambda v x xs) = weight x + arguments_weight xs
  arguments_weight (t.type_named p c xs) = arguments_weight xs
  arguments_weight (t.expression x xs) = weight x + arguments_weight xs

-- the elements that are left are not more
pub drop_elements : (i : ℕ) (xs : List Node) → elements_weight (trees_in (drop i xs)) ≤ elements_weight (trees_in xs)
drop_elements zero xs = omega arith
drop_elements (suc i) [] = omega arith
drop_elements (suc i) (x ∷ xs) = omega (arith, drop_elements i xs)

weight_behind : (e : Argument Node) (es : List (Argument Node)) → arguments_weight (arguments_in (e ∷ es)) ≡ arguments_weight (arguments_in (e ∷ [])) + arguments_weight (arguments_in es)
weight_behind (a.Lambda v x) es = omega arith
weight_behind (a.Type p c) es = omega arith
weight_behind (a.Expression x) es = omega arith

drop_arguments : (i : ℕ) (xs : List (Argument Node)) → arguments_weight (arguments_in (drop i xs)) ≤ arguments_weight (arguments_in xs)
drop_arguments zero xs = omega arith
drop_arguments (suc i) [] = omega arith
drop_arguments (suc i) (x ∷ xs) = omega (arith, drop_arguments i xs, weight_behind x xs)

-- what is next is among them
pub next_element : (i : ℕ) (xs : List Node) (x : Node) (left : List Node) → drop i xs ≡ x ∷ left → weight (tree_of x) ≤ elements_weight (trees_in xs)
next_element i xs x left e = omega (arith, drop_elements i xs, ap (λ ys. elements_weight (trees_in ys)) e)

pub next_argument : (i : ℕ) (xs : List (Argument Node)) (x : Argument Node) (left : List (Argument Node)) → drop i xs ≡ x ∷ left → arguments_weight (arguments_in (x ∷ [])) ≤ arguments_weight (arguments_in xs)
next_argument i xs x left e = omega (arith, drop_arguments i xs, ap (λ ys. arguments_weight (arguments_in ys)) e, weight_behind x left)
