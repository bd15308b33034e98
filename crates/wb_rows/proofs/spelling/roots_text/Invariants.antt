use Rattle.std.proofs.Common.{◌≡◌, string_bytes, take}
use Rattle.wb_rows.specs.Rows.{roots_text}
use Rattle.wb_rows.proofs.spelling.roots_text.Given as goal

abbrev pub invariant-loop-place : goal.invariant-loop-place
invariant-loop-place l = string_bytes l.text ≡ roots_text (take l.place l.roots)
