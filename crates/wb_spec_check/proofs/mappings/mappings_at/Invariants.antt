use Rattle.wb_spec_check.specs.ChildLists.{lists_before}
use Rattle.wb_spec_check.specs.Mappings.{mapping_at}
use Rattle.wb_spec_check.specs.Places.{◌!◌, place_of}
use Rattle.wb_spec_check.specs.invariants.Reports.{Gathers}
use Rattle.wb_spec_check.specs.invariants.Taken.{TakenBy}
use Rattle.wb_spec_check.proofs.mappings.mappings_at.Given as goal

abbrev pub invariant-loop-number : goal.invariant-loop-number
invariant-loop-number l =
    record {
      taken : TakenBy l.names.1 (lists_before l.names.1 l.number) l.taken;
      told : Gathers (λ i mapping. mapping_at l.names.0 l.names.1 i (place_of l.path ! i) mapping) l.names.1.mappings l.number l.fn.problems l.checked l.problems;
    }
