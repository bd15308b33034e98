use Rattle.std.proofs.Common.{drop}
use Rattle.wb_json.proofs.Turns.{Goes}
use Rattle.wb_json.specs.Form.{in_turn}
use Rattle.wb_model_json.specs.ModelFile.{value_for}
use Rattle.wb_model_json.proofs.values.single_values.Given as goal

abbrev pub invariant-loop-scalar : goal.invariant-loop-scalar
invariant-loop-scalar l = Goes (value_for l.metamodel l.kind) l.values.items (drop l.scalar-index l.scalars) (in_turn (value_for l.metamodel l.kind) l.scalars)
