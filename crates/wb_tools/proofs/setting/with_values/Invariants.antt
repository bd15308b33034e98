use Rattle.std.proofs.Common.{◌≡◌, drop}
use Rattle.wb_tools.specs.FeatureEdits.{with_value}
use Rattle.wb_tools.specs.Doings.{each}
use Rattle.wb_tools.specs.Runs.{Outcomes, run, work}
use Rattle.wb_tools.proofs.setting.with_values.Given as goal

-- what is left, done on the work so far, ends as all of it does
abbrev pub invariant-loop-value : goal.invariant-loop-value
invariant-loop-value l = record {
  same : (out : Outcomes) → run out (each (with_value l.way l.place l.o l.f) (drop l.value-index l.values)) (work l.model l.tally) ≡ run out (each (with_value l.way l.place l.o l.f) l.values) (work l.fn.model l.fn.tally);
  counted : l.tally.expressions ≡ l.fn.tally.expressions;
  metamodel : l.model.metamodel ≡ l.fn.model.metamodel;
}
