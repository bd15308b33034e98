use Rattle.wb_spec_check.specs.Checked.{layer_at}
use Rattle.wb_spec_check.specs.invariants.Reports.{GathersAll}
use Rattle.wb_spec_check.proofs.layers.layers_at.Given as goal

-- what the layers so far told
abbrev pub invariant-loop-number : goal.invariant-loop-number
invariant-loop-number l = GathersAll (layer_at l.names.1) l.names.1.layers l.number l.initial.problems l.all l.problems
