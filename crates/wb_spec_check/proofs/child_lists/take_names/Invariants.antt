use Rattle.std.proofs.Common.{take}
use Rattle.wb_spec_check.specs.ChildLists.{names_elsewhere}
use Rattle.wb_spec_check.specs.invariants.Taken.{Takes}
use Rattle.wb_spec_check.proofs.child_lists.take_names.Given as goal

abbrev pub invariant-loop-name : goal.invariant-loop-name
invariant-loop-name l = Takes (names_elsewhere l.names.1 (record { role = l.role; names = take l.name-index l.list })) l.fn.taken l.taken
