-- A course over files, none of which fails to be given.
use Rattle.std.specs.Prelude.{ℕ, List, Option}
use Rattle.wb_outer.specs.Shelf.{taken_of}
use Rattle.wb_program.specs.declared.answer.Answer.{Answer}
use Rattle.wb_program.specs.Course.{Course, gives, stops, asks}

-- what the files hold under each name, if they hold it
abbrev pub Files : Type 0
Files = List ℕ → Option (List ℕ)

-- the answer of a course where each call gives what the files hold
abbrev pub answer_over : Files → Course Answer → Answer
answer_over files (gives answer) = answer
answer_over files (stops answer) = answer
answer_over files (asks name next) = answer_over files (next (taken_of (files name)))
