use Rattle.std.proofs.Common.{◌≡◌, ◌-◌, length, map, take}
use Rattle.std.specs.List.{find, range_with_len}
use Rattle.wb_ecore.specs.Naming.{numbers}
use Rattle.wb_ecore.specs.invariants.NumberedNames.{Holds}
use Rattle.wb_ecore.specs.Repeats.{repeats}
use Rattle.wb_ecore.proofs.repeats.first_repeated.Given as goal

abbrev pub invariant-loop-number : goal.invariant-loop-number
invariant-loop-number g l =
    Holds l.taken (map g.T.Named.name_of (take l.number l.items))
    × (find (repeats g.T.Named.name_of l.items) (numbers (length l.items)) ≡ find (repeats g.T.Named.name_of l.items) (range_with_len l.number (length l.items - l.number)))
