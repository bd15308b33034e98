use Rattle.wb_spec_check.specs.Places.{place_of, ◌!◌}
use Rattle.wb_spec_check.specs.Tools.{tool_at}
use Rattle.wb_spec_check.specs.invariants.Reports.{Gathers}
use Rattle.wb_spec_check.proofs.tools.each_tool_at.Given as goal

abbrev pub invariant-loop-number : goal.invariant-loop-number
invariant-loop-number l = Gathers (λ i tool. tool_at l.names.0 l.names.1 i (place_of l.path ! i) tool) l.tools l.number l.fn.problems l.checked l.problems
