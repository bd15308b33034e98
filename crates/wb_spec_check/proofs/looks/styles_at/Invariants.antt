use Rattle.wb_spec_check.specs.Mappings.{style_at}
use Rattle.wb_spec_check.specs.Places.{place_of, ◌!◌}
use Rattle.wb_spec_check.specs.invariants.Reports.{Gathers}
use Rattle.wb_spec_check.proofs.looks.styles_at.Given as goal

-- what the styles so far told
abbrev pub invariant-loop-number : goal.invariant-loop-number
invariant-loop-number l = Gathers (λ i style. style_at l.names.0 (place_of l.path ! i) style) l.styles l.number l.initial.problems l.found l.problems
