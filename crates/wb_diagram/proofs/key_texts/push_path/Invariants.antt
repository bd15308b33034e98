use Rattle.std.proofs.Common.{◌≡◌, ◌++◌, string_bytes, take}
use Rattle.wb_diagram.specs.Keys.{path_text}
use Rattle.wb_diagram.proofs.key_texts.push_path.Given as goal

abbrev pub invariant-loop-place : goal.invariant-loop-place
invariant-loop-place l = string_bytes l.text ≡ string_bytes l.initial.text ++ path_text (take l.place l.path)
