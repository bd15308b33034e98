-- The connection stays at hand.
use Rattle.std.proofs.Common.{◌≡◌, Some}
use Rattle.wb_outer.specs.declared.door.Next.TheVariants.{Line}
use Rattle.cases_doors.proofs.tcp.read_all.Given as goal

abbrev pub invariant-loop : goal.invariant-loop
invariant-loop g l = (g.D.Door.told l.door).last ≡ Some Line
