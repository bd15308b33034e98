-- A connection is at hand.
use Rattle.std.proofs.Common.{◌≡◌, Some}
use Rattle.wb_outer.specs.declared.door.Next.TheVariants.{Line}
use Rattle.cases_http.proofs.talks.push_turns.Given as goal

abbrev pub invariant-turns : goal.invariant-turns
invariant-turns g l = (g.D.Door.told l.door).last ≡ Some Line
