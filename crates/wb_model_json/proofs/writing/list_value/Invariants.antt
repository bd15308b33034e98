use Rattle.std.proofs.Common.{◌≡◌, map, take}
use Rattle.serde_json.specs.View.{view}
use Rattle.wb_model_json.specs.Written.{scalar_data}
use Rattle.wb_model_json.proofs.writing.list_value.Given as goal

abbrev pub invariant-loop-scalar : goal.invariant-loop-scalar
invariant-loop-scalar l = map view l.values.items ≡ map (scalar_data l.metamodel) (take l.scalar-index l.scalars)
