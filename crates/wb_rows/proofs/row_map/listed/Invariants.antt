use Rattle.std.proofs.Common.{◌≡◌, ◌++◌, map}
use Rattle.wb_rows.specs.Texts.{row_of}
use Rattle.wb_rows.proofs.row_map.listed.Given as goal

-- the rows so far, with those of the entries to come
abbrev pub invariant-loop-entry : goal.invariant-loop-entry
invariant-loop-entry l = l.rows.items ++ map row_of l.entry-iterator ≡ map row_of l.fn.texts.entries
