use Rattle.std.proofs.Common.{◌≡◌, ◌++◌, string_bytes, encode_utf8_all}
use Rattle.std.specs.List.{flat_map}
use Rattle.wb_json.specs.Place.{escape}
use Rattle.wb_json.proofs.pointer.push_escaped.Given as goal

abbrev pub invariant-loop-character : goal.invariant-loop-character
invariant-loop-character l = string_bytes l.whole ≡ string_bytes l.initial.whole ++ flat_map escape (encode_utf8_all l.yielded)
