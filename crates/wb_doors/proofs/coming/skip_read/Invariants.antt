-- What is left stays the same.
use Rattle.std.proofs.Common.{◌≡◌, vec_len}
use Rattle.wb_outer.specs.Pieces.{left_of}
use Rattle.wb_doors.proofs.coming.skip_read.Given as goal

abbrev pub invariant-loop-pieces : goal.invariant-loop-pieces
invariant-loop-pieces l = left_of l.read l.pieces.items ≡ left_of l.initial.read l.initial.pieces.items

abbrev pub decreases-loop-pieces : goal.decreases-loop-pieces
decreases-loop-pieces l = vec_len l.pieces
