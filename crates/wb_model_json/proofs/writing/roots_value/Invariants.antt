use Rattle.std.proofs.Common.{◌≡◌, map, take}
use Rattle.serde_json.specs.View.{view}
use Rattle.wb_model_json.specs.Written.{number_data}
use Rattle.wb_model_json.proofs.writing.roots_value.Given as goal

abbrev pub invariant-loop-root : goal.invariant-loop-root
invariant-loop-root l = map view l.values.items ≡ map number_data (take l.root-index l.roots)
