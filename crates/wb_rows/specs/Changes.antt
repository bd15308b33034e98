-- What changes between the rows of two states.
use Rattle.std.specs.Prelude.{Bool, true, not, nat_eq, is_none, List, ◌++◌, map, filter}
use Rattle.std.specs.Option.{option_map_or}
use Rattle.std.specs.Cmp.Lexicographic.{pointwise}
use Rattle.wb_outer.specs.declared.keeper.Row.{Row}
use Rattle.wb_outer.specs.declared.keeper.RowChange.{RowChange}
use Rattle.wb_outer.specs.declared.keeper.RowChange.TheVariants.{Put, Erase}
use Rattle.wb_rows.specs.Texts.{text_at}

-- do the new rows have none of its key?
abbrev pub is_gone : (new : List Row) → Row → Bool
is_gone new r = is_none (text_at new r.key)

-- do the old rows have none of its key, or one of another text?
abbrev pub is_fresh : (old : List Row) → Row → Bool
is_fresh old r = option_map_or (λ text. not (pointwise nat_eq text r.text)) (text_at old r.key) true

abbrev pub erase : Row → RowChange
erase r = Erase r.key

-- the rows that are gone are erased, those that are fresh are put, and no other row is touched
abbrev pub changes_between : (old new : List Row) → List RowChange
changes_between old new = map erase (filter (is_gone new) old) ++ map Put (filter (is_fresh old) new)
