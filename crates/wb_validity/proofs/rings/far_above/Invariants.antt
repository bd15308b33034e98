use Rattle.std.proofs.Common.{◌<◌, ◌-◌, length}
use Rattle.wb_validity.specs.invariants.Rings.{IsFarAbove}
use Rattle.wb_validity.proofs.rings.far_above.Given as goal

abbrev pub invariant-loop-steps : goal.invariant-loop-steps
invariant-loop-steps l = record { far : IsFarAbove l.store l.records l.steps l.above.items; some : 0 < l.steps }

abbrev pub decreases-loop-steps : goal.decreases-loop-steps
decreases-loop-steps l = length l.records - l.steps
