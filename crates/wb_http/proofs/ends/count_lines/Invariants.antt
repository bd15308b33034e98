-- The lines so far, and those to come, are the lines of the head.
use Rattle.std.proofs.Common.{◌≡◌, ◌≤◌, ◌+◌, ◌==◌, cond, drop}
use Rattle.std.specs.List.{count_by}
use Rattle.wb_http.specs.Ends.{lines_of}
use Rattle.wb_http.proofs.ends.count_lines.Given as goal

abbrev pub invariant-loop-byte : goal.invariant-loop-byte
invariant-loop-byte l = record {
  counted : l.lines + cond l.blank (lines_of (drop l.byte-index l.head)) (count_by (λ c. c == 10) (drop l.byte-index l.head)) ≡ lines_of l.head;
  within : l.lines ≤ l.byte-index;
}
