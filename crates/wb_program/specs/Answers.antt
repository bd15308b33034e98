-- What a run prints: one line for each way in which it may end before its work is done.
use Rattle.std.specs.Prelude.{ℕ, List, ◌++◌, codes, if◌then◌else◌}
use Rattle.wb_base.specs.Names.{same_name}
use Rattle.wb_json.specs.Place.{Place}
use Rattle.wb_program.specs.declared.status.Status.{Status}
use Rattle.wb_program.specs.declared.status.Status.TheVariants.{BadWords, ShelfFault, BadInput, TooLarge, NotBuilt}
use Rattle.wb_program.specs.declared.answer.Answer.{Answer}

-- a line that is printed, with its end
abbrev pub line : Status → List ℕ → Answer
line status text = record { status = status; text = text ++ codes "\n" }

unfoldable pub not_built : Answer
not_built = line NotBuilt (codes "not built")

unfoldable pub usage : Answer
usage = line BadWords (codes "usage: check META SPEC | draw META SPEC MODEL | serve META SPEC MODEL [--connections N] | big N")

unfoldable pub cannot_read : List ℕ → Answer
cannot_read name = line ShelfFault (codes "cannot read " ++ name)

unfoldable pub too_large : List ℕ → Answer
too_large name = line TooLarge (codes "too large " ++ name)

unfoldable pub diagram_too_large : Answer
diagram_too_large = line TooLarge (codes "diagram too large")

-- what is wrong in the file of a name, and where
unfoldable pub bad : List ℕ → Place → List ℕ → Answer
bad name place code = line BadInput (codes "bad " ++ name ++ codes " " ++ place ++ codes " " ++ code)

-- the answer for a file that is refused with a code at a place: what passes a limit is too large
unfoldable pub refused : List ℕ → Place → List ℕ → Answer
refused name place code = if same_name code (codes "TooMany") then too_large name else bad name place code

unfoldable pub no_root_element : List ℕ → Answer
no_root_element name = bad name (codes "#/roots") (codes "NoRootElement")
