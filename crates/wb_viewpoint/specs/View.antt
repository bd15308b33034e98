-- The plain data that operations in memory stand for.
use Rattle.std.specs.Prelude.{List, [], ◌∷◌}
use Rattle.wb_viewpoint.specs.OperationTrees.{Tree, Trees, operation, no_trees, trees}
use Rattle.wb_viewpoint.specs.declared.operations.Operation.{Operation}
use Rattle.wb_viewpoint.specs.declared.operations.Operation.TheOpen.{Operation-F}
use Rattle.wb_viewpoint.specs.declared.operations.Operation.TheFolds.{fold-Operation}

-- the trees of a list, in order
abbrev pub trees_in : List Tree → Trees
trees_in [] = no_trees
trees_in (x ∷ xs) = trees x (trees_in xs)

-- one operation, with the trees of those inside
abbrev pub layer : Operation-F Tree → Tree
layer o = operation o.number o.action (trees_in o.inside)

unfoldable pub tree_of : Operation → Tree
tree_of = fold-Operation Tree layer

abbrev pub trees_of : List Operation → Trees
trees_of [] = no_trees
trees_of (o ∷ os) = trees (tree_of o) (trees_of os)
