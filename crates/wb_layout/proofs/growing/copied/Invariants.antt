use Rattle.std.proofs.Common.{◌≡◌, take}
use Rattle.wb_layout.proofs.growing.copied.Given as goal

-- the entries so far are in the tree
abbrev pub invariant-loop-entry : goal.invariant-loop-entry
invariant-loop-entry l = l.copy.entries ≡ take l.entry-index l.entries
