use Rattle.std.proofs.Common.{drop}
use Rattle.std.specs.List.{enumerate_from}
use Rattle.wb_json.proofs.Turns.{Goes}
use Rattle.wb_ecore.specs.Resolving.{in_place, walked}
use Rattle.wb_model_json.specs.ModelFile.{value_for}
use Rattle.wb_model_json.proofs.values.listed_values.Given as goal

abbrev pub invariant-loop-number : goal.invariant-loop-number
invariant-loop-number l = Goes (in_place (value_for l.metamodel l.kind)) l.values.items (enumerate_from l.number (drop l.number l.scalars)) (walked (value_for l.metamodel l.kind) l.scalars)
