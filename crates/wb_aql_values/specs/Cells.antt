-- Two cells are the same where they are of one sort and of the same object, feature or class.
use Rattle.std.specs.Prelude.{Bool, true, false, nat_eq, ◌&&◌}
use Rattle.wb_store.specs.declared.scalars.Cell.{Cell}
use Rattle.wb_store.specs.declared.scalars.Cell.TheVariants.{Kind, Slot, Holder, Tree, Inverse, Extent, Roots}

abbrev pub same_cell : Cell → Cell → Bool
same_cell (Kind o) (Kind p) = nat_eq o p
same_cell (Slot o f) (Slot p g) = nat_eq o p && nat_eq f g
same_cell (Holder o) (Holder p) = nat_eq o p
same_cell (Tree o) (Tree p) = nat_eq o p
same_cell (Inverse o) (Inverse p) = nat_eq o p
same_cell (Extent c) (Extent d) = nat_eq c d
same_cell Roots Roots = true
same_cell _ _ = false
