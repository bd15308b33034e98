-- What was taken so far is a front of the piece.
use Rattle.std.proofs.Common.{◌≡◌, ◌≤◌, ◌+◌, ◌++◌, take, length}
use Rattle.wb_outer.proofs.stdout_sink.write_whole.Given as goal

abbrev pub invariant-writes : goal.invariant-writes
invariant-writes g l = record {
  took : (g.O.Output.told l.to).took ≡ (g.O.Output.told l.initial.to).took ++ take l.written l.piece;
  within : l.written ≤ length l.piece;
  writes : (g.O.Output.told l.to).writes ≡ (g.O.Output.told l.initial.to).writes + l._round;
  failures : (g.O.Output.told l.to).failures ≡ (g.O.Output.told l.initial.to).failures;
}
