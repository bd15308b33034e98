use Rattle.wb_validity.proofs.Trees.{tree-content}
use Rattle.wb_validity.proofs.validity.trees_are_in_order.Goals as goal

pub returns : goal.returns
returns c = tree-content
