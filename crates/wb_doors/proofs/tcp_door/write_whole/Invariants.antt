-- What was written so far is a front of the piece.
use Rattle.std.proofs.Common.{◌≡◌, ◌≤◌, ◌+◌, ◌++◌, take, length}
use Rattle.wb_outer.specs.Door.{after_write, change_at_hand}
use Rattle.wb_doors.proofs.tcp_door.write_whole.Given as goal

abbrev pub invariant-calls : goal.invariant-calls
invariant-calls g l = record {
  peers : (g.S.Sockets.told l.sockets).peers ≡ (g.S.Sockets.told l.initial.sockets).peers;
  given : (g.S.Sockets.told l.sockets).given ≡ (g.S.Sockets.told l.initial.sockets).given;
  took : (g.S.Sockets.told l.sockets).took ≡ (g.S.Sockets.told l.initial.sockets).took ++ take l.written l.piece;
  taken : l.taken ≡ change_at_hand (after_write (take l.written l.piece)) l.initial.taken;
  within : l.written ≤ length l.piece;
  calls : (g.S.Sockets.told l.sockets).calls ≡ (g.S.Sockets.told l.initial.sockets).calls + l._round;
  failures : (g.S.Sockets.told l.sockets).failures ≡ (g.S.Sockets.told l.initial.sockets).failures;
}
