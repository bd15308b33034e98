-- Each turn so far left the connection open.
use Rattle.std.proofs.Common.{◌<◌}
use Rattle.wb_serving.specs.Machines.{Keeps}
use Rattle.wb_serving.specs.Turns.{turn_limit}
use Rattle.wb_serving.specs.Connections.{IsAtHand, IsGoing}
use Rattle.wb_serving.proofs.connection.serve_connection.Given as goal

abbrev pub invariant-turns : goal.invariant-turns
invariant-turns g l = record {
  going : IsGoing g.M.Machine.law (g.M.Machine.told l.initial.machine) (g.M.Machine.told l.machine) (g.D.Door.told l.initial.door) (g.D.Door.told l.door) l.held l.turn;
  within : l.turn < turn_limit;
  keeps : Keeps g.M.Machine.law (g.M.Machine.told l.initial.machine) (g.M.Machine.told l.machine);
  at_hand : IsAtHand (g.D.Door.told l.initial.door) (g.D.Door.told l.door);
}
