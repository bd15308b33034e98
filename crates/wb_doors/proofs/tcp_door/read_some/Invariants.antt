-- Nothing was read yet.
use Rattle.std.proofs.Common.{◌≡◌, ◌+◌}
use Rattle.wb_doors.proofs.tcp_door.read_some.Given as goal

abbrev pub invariant-calls : goal.invariant-calls
invariant-calls g l = record {
  given : (g.S.Sockets.told l.sockets).given ≡ (g.S.Sockets.told l.initial.sockets).given;
  peers : (g.S.Sockets.told l.sockets).peers ≡ (g.S.Sockets.told l.initial.sockets).peers;
  took : (g.S.Sockets.told l.sockets).took ≡ (g.S.Sockets.told l.initial.sockets).took;
  ends : (g.S.Sockets.told l.sockets).ends ≡ (g.S.Sockets.told l.initial.sockets).ends;
  calls : (g.S.Sockets.told l.sockets).calls ≡ (g.S.Sockets.told l.initial.sockets).calls + l._round;
  failures : (g.S.Sockets.told l.sockets).failures ≡ (g.S.Sockets.told l.initial.sockets).failures;
}
