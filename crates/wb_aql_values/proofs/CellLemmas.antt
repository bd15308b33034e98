-- Two cells are equal exactly where they are the same.
use Rattle.std.proofs.Common.{◌≡◌, rules}
use Rattle.wb_store.specs.declared.scalars.Cell.{Cell}
use Rattle.wb_store.specs.declared.scalars.Cell.TheVariants.{Kind, Slot, Holder, Tree, Inverse, Extent, Roots}
use Rattle.wb_store.specs.contracts.scalars.CellPartialEq.TheImpl.{eq-value}
use Rattle.wb_aql_values.specs.Cells.{same_cell}

pub same_cells : (x y : Cell) → eq-value.it x y ≡ same_cell x y
same_cells (Kind o) (Kind p) = search rules
same_cells (Slot o f) (Slot p g) = search rules
same_cells (Holder o) (Holder p) = search rules
same_cells (Tree o) (Tree p) = search rules
same_cells (Inverse o) (Inverse p) = search rules
same_cells (Extent c) (Extent d) = search rules
same_cells Roots Roots = search rules
same_cells x y = search rules
