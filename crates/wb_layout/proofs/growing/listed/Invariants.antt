use Rattle.std.proofs.Common.{◌≡◌, ◌++◌}
use Rattle.wb_layout.proofs.growing.listed.Given as goal

-- the entries listed, with those to come
abbrev pub invariant-loop-entry : goal.invariant-loop-entry
invariant-loop-entry l = l.list.items ++ l.entry-iterator ≡ l.fn.positions.entries
