use Rattle.std.proofs.Common.{◌≡◌, drop}
use Rattle.wb_store.specs.invariants.Marks.{first_marked}
use Rattle.wb_store.proofs.marks.first_marked.Given as goal

abbrev pub invariant-loop-i : goal.invariant-loop-i
invariant-loop-i l = first_marked (drop l.i l.records) (drop l.i l.marks) ≡ first_marked l.records l.marks
