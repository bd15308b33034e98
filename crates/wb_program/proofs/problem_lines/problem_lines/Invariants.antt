use Rattle.std.proofs.Common.{◌≡◌, take}
use Rattle.std.specs.List.{flat_map}
use Rattle.wb_program.specs.Checking.{problem_line}
use Rattle.wb_program.proofs.problem_lines.problem_lines.Given as goal

abbrev pub invariant-loop-problem : goal.invariant-loop-problem
invariant-loop-problem l = l.text.items ≡ flat_map problem_line (take l.problem-index l.problems)
