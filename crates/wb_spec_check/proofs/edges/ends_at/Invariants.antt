use Rattle.wb_spec_check.specs.Findings.{end_found}
use Rattle.wb_spec_check.specs.Places.{◌!◌, place_of}
use Rattle.wb_spec_check.specs.Validated.{at}
use Rattle.wb_spec_check.specs.invariants.Reports.{Gathers}
use Rattle.wb_spec_check.proofs.edges.ends_at.Given as goal

abbrev pub invariant-loop-number : goal.invariant-loop-number
invariant-loop-number l = Gathers (λ i name. at (place_of l.path ! i) (end_found l.names.1 name)) l.list l.number l.fn.problems l.ends l.problems
