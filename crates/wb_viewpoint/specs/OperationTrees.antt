-- The operations of a tool, as plain data.
use Rattle.std.specs.Prelude.{ℕ, suc, ◌+◌, max}
use Rattle.wb_viewpoint.specs.declared.operations.Action.{Action}

mutual
  -- an operation: its number, what it does, and the operations inside it
  pub data Tree : Type 0 where
    operation : (number : ℕ) → (action : Action) → (inside : Trees) → Tree

  pub data Trees : Type 0 where
    no_trees : Trees
    trees : Tree → Trees → Trees

-- how many operations there are, those inside included
abbrev mutual
  pub count : Tree → ℕ
  count (operation number action inside) = suc (count_all inside)

  pub count_all : Trees → ℕ
  count_all no_trees = 0
  count_all (trees x xs) = count x + count_all xs

-- how deep operations nest; those of the tool itself are at nesting 1
abbrev mutual
  pub nesting : Tree → ℕ
  nesting (operation number action inside) = suc (nesting_all inside)

  pub nesting_all : Trees → ℕ
  nesting_all no_trees = 0
  nesting_all (trees x xs) = max (nesting x) (nesting_all xs)
