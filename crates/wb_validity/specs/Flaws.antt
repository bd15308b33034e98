-- What a check finds.
use Rattle.std.specs.Prelude.{◌≡◌, Option, Some, None, Result, Ok, Err}
use Rattle.wb_validity.specs.declared.flaws.Flaw.{Flaw}
use Rattle.wb_validity.specs.declared.flaws.Flaw.TheVariants.{At, Whole, NoMemory}
use Rattle.wb_validity.specs.Broken.{Breach}

-- it answers the breach that there is, and passes where there is none, unless there was no memory
abbrev pub Finds : Result (Unit {0}) Flaw → Option Breach → Type 0
Finds (Ok x) breach = breach ≡ None
Finds (Err (At number o)) breach = breach ≡ Some (number, Some o)
Finds (Err (Whole number)) breach = breach ≡ Some (number, None)
Finds (Err NoMemory) breach = Unit {0}
