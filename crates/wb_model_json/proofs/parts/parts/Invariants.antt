use Rattle.std.proofs.Common.{drop}
use Rattle.std.specs.List.{enumerate_from}
use Rattle.wb_json.proofs.Turns.{Goes}
use Rattle.wb_ecore.specs.Resolving.{in_place, walked}
use Rattle.wb_model_json.specs.ModelFile.{part_for}
use Rattle.wb_model_json.proofs.parts.parts.Given as goal

abbrev pub invariant-loop-number : goal.invariant-loop-number
invariant-loop-number l = Goes (in_place (part_for l.metamodel)) l.parts.items (enumerate_from l.number (drop l.number l.texts)) (walked (part_for l.metamodel) l.texts)
