-- The connection stays at hand.
use Rattle.std.proofs.Common.{◌≡◌, Some}
use Rattle.wb_outer.specs.declared.door.Next.TheVariants.{Line}
use Rattle.cases_doors.proofs.scripts.push_line.Given as goal

abbrev pub invariant-loop-step : goal.invariant-loop-step
invariant-loop-step g l = (g.D.Door.told l.door).last ≡ Some Line
