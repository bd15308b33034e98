-- What a run makes of a file that it asks for.
use Rattle.std.specs.Prelude.{ℕ, List}
use Rattle.wb_outer.specs.declared.shelf.Taken.{Taken}
use Rattle.wb_outer.specs.declared.shelf.Taken.TheVariants.{Bytes, TooBig, Failed}
use Rattle.wb_program.specs.Answers.{cannot_read, too_large}
use Rattle.wb_program.specs.Course.{Course, gives, stops, asks}

-- the bytes of a file, or the answer where they are too many or were not given
abbrev pub used : List ℕ → Taken → Course (List ℕ)
used name (Bytes bytes) = gives bytes
used name TooBig = stops (too_large name)
used name Failed = stops (cannot_read name)

-- the bytes under a name
unfoldable pub taken : List ℕ → Course (List ℕ)
taken name = asks name (used name)
