use Rattle.std.proofs.Common.{drop}
use Rattle.std.specs.List.{enumerate_from}
use Rattle.wb_json.proofs.Turns.{Goes}
use Rattle.wb_ecore.specs.Resolving.{in_place, walked, class_resolved}
use Rattle.wb_ecore.proofs.resolving_classes.classes_resolved.Given as goal

abbrev pub invariant-loop-number : goal.invariant-loop-number
invariant-loop-number l =
    Goes (in_place (class_resolved l.document)) l.classes.items (enumerate_from l.number (enumerate_from l.number (drop l.number l.document.classes))) (walked (class_resolved l.document) (enumerate_from 0 l.document.classes))
