use Rattle.std.proofs.Common.{◌≡◌, ◌++◌, length, reverse, ◌∷◌}
use Rattle.std.specs.List.{flat_map}
use Rattle.wb_store.specs.Cells.{tree}
use Rattle.wb_validity.proofs.walks.tree.Given as goal

abbrev pub invariant-loop-p : goal.invariant-loop-p
invariant-loop-p l = l.tree.items ++ flat_map (λ p. p ∷ tree l.store p) (reverse l.to_come.items) ≡ tree l.store l.fn.o

abbrev pub decreases-loop-p : goal.decreases-loop-p
decreases-loop-p l = length (flat_map (λ p. p ∷ tree l.store p) (reverse l.to_come.items))
