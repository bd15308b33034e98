use Rattle.std.proofs.Common.{◌≡◌, ◌++◌, flat_map, string_bytes}
use Rattle.std.specs.Char.{encode_utf8}
use Rattle.wb_aql_syntax.specs.Printed.{escaped}
use Rattle.wb_aql_syntax.proofs.writer.write_escaped.Given as goal

abbrev pub invariant-loop-c : goal.invariant-loop-c
invariant-loop-c l = string_bytes l.out ≡ string_bytes l.initial.out ++ flat_map (λ c. flat_map escaped (encode_utf8 c)) l.yielded
