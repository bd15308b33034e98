-- How many ticks a counter stands for.
use Rattle.std.specs.Prelude.{ℕ, ◌+◌}
use Rattle.wb_outer.specs.declared.steps.Tick.{Tick}
use Rattle.wb_outer.specs.declared.steps.Tick.TheVariants.{None, After}

abbrev pub ticks : Tick → ℕ
ticks None = 0
ticks (After earlier) = earlier.value + 1
