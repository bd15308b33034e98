use Rattle.std.proofs.Common.{◌≡◌, map, take}
use Rattle.serde_json.specs.View.{view}
use Rattle.wb_model_json.specs.Written.{object_data}
use Rattle.wb_model_json.proofs.writing.objects_value.Given as goal

abbrev pub invariant-loop-object : goal.invariant-loop-object
invariant-loop-object l = map view l.values.items ≡ map (object_data l.model) (take l.object-index l.object-items)
