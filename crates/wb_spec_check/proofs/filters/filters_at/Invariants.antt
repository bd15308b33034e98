use Rattle.wb_spec_check.specs.Checked.{filter_at}
use Rattle.wb_spec_check.specs.Places.{place_of, ◌!◌}
use Rattle.wb_spec_check.specs.invariants.Reports.{Gathers}
use Rattle.wb_spec_check.proofs.filters.filters_at.Given as goal

-- what the filters so far told
abbrev pub invariant-loop-number : goal.invariant-loop-number
invariant-loop-number l = Gathers (λ i filter. filter_at l.names.0 l.names.1 i (place_of l.path ! i) filter) l.filters l.number l.initial.problems l.found l.problems
