-- The entries of a layout: ascending by key, and in range.
use Rattle.std.specs.Prelude.{T, List, IfSome}
use Rattle.std.specs.FinMap.{is_sorted, find}
use Rattle.wb_diagram.specs.declared.keys.Key.{Key}
use Rattle.wb_layout.specs.Orders.{key_cmp}
use Rattle.wb_layout.specs.Positions.{Position, IsInRange}

abbrev pub Ascend : List (Key × Position) → Type 0
Ascend entries = T (is_sorted key_cmp entries)

abbrev pub AreInRange : List (Key × Position) → Type 0
AreInRange entries = (key : Key) → IfSome (find key_cmp key entries) IsInRange
