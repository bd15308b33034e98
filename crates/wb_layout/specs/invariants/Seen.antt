-- How many children of each parent were seen.
use Rattle.std.specs.Prelude.{ℕ}
use Rattle.std.specs.BTreeMap.{get}
use Rattle.std.specs.Map.{count_at}
use Rattle.wb_diagram.specs.declared.keys.Key.{Key}
use Rattle.wb_layout.specs.declared.siblings.Siblings.{Siblings}
use Rattle.wb_layout.specs.Orders.{key_cmp}

-- the number for a parent, 0 where none was seen
abbrev pub seen_of : Siblings → Key → ℕ
seen_of siblings parent = count_at (get key_cmp siblings.seen) parent
