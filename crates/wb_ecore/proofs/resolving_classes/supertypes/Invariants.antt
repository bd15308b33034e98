use Rattle.std.proofs.Common.{drop}
use Rattle.std.specs.List.{enumerate_from}
use Rattle.wb_json.specs.Form.{or_wrong}
use Rattle.wb_json.proofs.Turns.{Goes}
use Rattle.wb_ecore.specs.Resolving.{in_place, walked, class_number}
use Rattle.wb_ecore.proofs.resolving_classes.supertypes.Given as goal

abbrev pub invariant-loop-number : goal.invariant-loop-number
invariant-loop-number l =
    Goes (in_place (λ name. or_wrong (class_number l.document name))) l.supertypes.items (enumerate_from l.number (drop l.number l.names)) (walked (λ name. or_wrong (class_number l.document name)) l.names)
