-- Nobody was taken yet.
use Rattle.std.proofs.Common.{◌≡◌, ◌+◌}
use Rattle.wb_doors.proofs.tcp_door.accept_one.Given as goal

abbrev pub invariant-calls : goal.invariant-calls
invariant-calls g l = record {
  peers : (g.S.Sockets.told l.sockets).peers ≡ (g.S.Sockets.told l.initial.sockets).peers;
  given : (g.S.Sockets.told l.sockets).given ≡ (g.S.Sockets.told l.initial.sockets).given;
  took : (g.S.Sockets.told l.sockets).took ≡ (g.S.Sockets.told l.initial.sockets).took;
  calls : (g.S.Sockets.told l.sockets).calls ≡ (g.S.Sockets.told l.initial.sockets).calls + l._round;
  failures : (g.S.Sockets.told l.sockets).failures ≡ (g.S.Sockets.told l.initial.sockets).failures;
}
