-- What a run makes of the check of a viewpoint.
use Rattle.std.specs.Prelude.{ℕ, List, [], ◌∷◌, ◌++◌, codes}
use Rattle.std.specs.List.{flat_map}
use Rattle.wb_expressions.specs.Codes.{code_name}
use Rattle.wb_viewpoint.specs.declared.content.Content.{Content}
use Rattle.wb_spec_check.specs.Checked.{Specification}
use Rattle.wb_spec_check.specs.Validated.{Validated, good, bad}
use Rattle.wb_spec_check.specs.declared.parts.Parts.{Parts}
use Rattle.wb_spec_check.specs.declared.problem.Problem.{Problem}
use Rattle.wb_program.specs.declared.status.Status.TheVariants.{Done, Problems}
use Rattle.wb_program.specs.declared.answer.Answer.{Answer}
use Rattle.wb_program.specs.Answers.{bad as bad_file, line}
use Rattle.wb_program.specs.Course.{Course, gives, stops}

-- the detail behind a space; nothing where there is none
abbrev pub spaced : List ℕ → List ℕ
spaced [] = []
spaced (b ∷ bytes) = codes " " ++ (b ∷ bytes)

-- place, code and, where there is one, detail, and LF
unfoldable pub problem_line : Problem → List ℕ
problem_line problem = problem.place ++ codes " " ++ code_name problem.code ++ spaced problem.detail ++ codes "\n"

-- `ok` for a viewpoint without problems, or else a line for each problem
abbrev pub check_answer : Validated Parts → Answer
check_answer (good parts) = line Done (codes "ok")
check_answer (bad problem problems) = record { status = Problems; text = flat_map problem_line (problem ∷ problems) }

-- the checked viewpoint, or else the answer for its file, with the first problem
abbrev pub or_bad : List ℕ → Content → Validated Parts → Course Specification
or_bad name content (good parts) = gives (content, parts)
or_bad name content (bad problem problems) = stops (bad_file name problem.place (code_name problem.code))
