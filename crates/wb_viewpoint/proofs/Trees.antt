-- The tree of each operation.
use Rattle.std.proofs.Common.{◌≡◌, ℕ, List, [], ◌∷◌, map, ◌+◌, refl, sym, ap, add-one, ◌∙◌}
use Rattle.wb_viewpoint.specs.OperationTrees.{Tree, operation, trees, count, count_all, nesting, nesting_all}
use Rattle.wb_viewpoint.specs.View.{tree_of, trees_of, trees_in, layer}
use Rattle.wb_viewpoint.specs.declared.operations.Action.{Action}
use Rattle.wb_viewpoint.specs.declared.operations.Operation.{Operation, out-Operation, roll-Operation}
use Rattle.wb_viewpoint.specs.declared.operations.Operation.TheFolds.{fold-Operation, fold-roll-Operation, fold_out-Operation}

trees_in_map : (os : List Operation) → trees_in (map (fold-Operation Tree layer) os) ≡ trees_of os
unfolding tree_of
trees_in_map [] = refl
trees_in_map (o ∷ os) = ap (trees (fold-Operation Tree layer o)) (trees_in_map os)

-- the tree of an operation, by its fields
pub tree_out : (o : Operation) → tree_of o ≡ operation (out-Operation o).number (out-Operation o).action (trees_of (out-Operation o).inside)
unfolding tree_of
tree_out o = fold_out-Operation Tree layer o ∙ ap (operation (out-Operation o).number (out-Operation o).action) (trees_in_map (out-Operation o).inside)

-- the tree of an operation that is made of these
pub tree_made : (n : ℕ) (a : Action) (os : List Operation) → tree_of (roll-Operation (record { number = n; action = a; inside = os })) ≡ operation n a (trees_of os)
unfolding tree_of
tree_made n a os = fold-roll-Operation Tree layer (record { number = n; action = a; inside = os }) ∙ ap (operation n a) (trees_in_map os)

pub count_out : (o : Operation) → count (tree_of o) ≡ count_all (trees_of (out-Operation o).inside) + 1
count_out o = ap count (tree_out o) ∙ sym (add-one _)

pub nesting_out : (o : Operation) → nesting (tree_of o) ≡ nesting_all (trees_of (out-Operation o).inside) + 1
nesting_out o = ap nesting (tree_out o) ∙ sym (add-one _)
