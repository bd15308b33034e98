use Rattle.std.proofs.Common.{◌≡◌, ◌++◌, take, drop}
use Rattle.wb_ecore.specs.invariants.NumberedNames.{Holds}
use Rattle.wb_ecore.specs.Repeats.{each_from, check_class_names, kind_names, enum_names, class_names}
use Rattle.wb_ecore.proofs.repeats.class_names.Given as goal

abbrev pub invariant-loop-number : goal.invariant-loop-number
invariant-loop-number l =
    Holds l.taken (kind_names ++ enum_names l.enums ++ class_names (take l.number l.parts))
    × (each_from (check_class_names l.enums l.parts) 0 l.parts ≡ each_from (check_class_names l.enums l.parts) l.number (drop l.number l.parts))
