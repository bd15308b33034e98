use Rattle.std.proofs.Common.{List, take}
use Rattle.wb_ecore.specs.invariants.NumberedNames.{Holds}
use Rattle.wb_spec_check.specs.ChildLists.{ChildList, child_found}
use Rattle.wb_spec_check.specs.Places.{◌!◌, place_of}
use Rattle.wb_spec_check.specs.Validated.{at}
use Rattle.wb_spec_check.specs.invariants.Reports.{Gathers}
use Rattle.wb_spec_check.specs.invariants.Taken.{TakenBy}
use Rattle.wb_spec_check.proofs.child_lists.children_found.Given as goal

abbrev pub invariant-loop-number : goal.invariant-loop-number
invariant-loop-number l =
    record {
      seen : Holds l.seen (take l.number l.list);
      told : (earlier : List ChildList) → TakenBy l.names.1 earlier l.taken
          → Gathers (λ i name. at (place_of l.path ! i) (child_found l.names.1 earlier (record { role = l.role; names = l.list }) i name)) l.list l.number l.fn.problems l.children l.problems;
    }
