-- The mark tells of the bytes that were seen.
use Rattle.std.proofs.Common.{◌≤◌, ◌-◌, length, take}
use Rattle.wb_http.specs.Ends.{Tells}
use Rattle.wb_http.proofs.ends.find_end.Given as goal

abbrev pub invariant-loop-progress : goal.invariant-loop-progress
invariant-loop-progress l = record {
  seen : l.progress.seen ≤ length l.bytes;
  tells : Tells l.progress.mark (take l.progress.seen l.bytes);
}

abbrev pub decreases-loop-progress : goal.decreases-loop-progress
decreases-loop-progress l = length l.bytes - l.progress.seen
