-- The connection stays at hand.
use Rattle.std.proofs.Common.{◌≡◌, Some}
use Rattle.wb_outer.specs.declared.door.Next.TheVariants.{Line}
use Rattle.cases_base.proofs.doors.push_read.Given as goal

abbrev pub invariant-loop-case : goal.invariant-loop-case
invariant-loop-case g l = (g.D.Door.told l.door).last ≡ Some Line
