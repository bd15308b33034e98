use Rattle.wb_spec_check.specs.Findings.{mapping_found}
use Rattle.wb_spec_check.specs.Places.{place_of, ◌!◌}
use Rattle.wb_spec_check.specs.Validated.{at}
use Rattle.wb_spec_check.specs.invariants.Reports.{Gathers}
use Rattle.wb_spec_check.proofs.filters.named_at.Given as goal

-- what the names so far told
abbrev pub invariant-loop-number : goal.invariant-loop-number
invariant-loop-number l = Gathers (λ i name. at (place_of l.path ! i) (mapping_found l.names.1 name)) l.list l.number l.initial.problems l.found l.problems
