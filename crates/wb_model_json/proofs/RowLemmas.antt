-- What is written of a row has no float in it.
use Rattle.std.proofs.Common.{◌≡◌, false, map, ap}
use Rattle.std.specs.Prelude.{◌||◌}
use Rattle.serde_json.specs.Written.{has_float}
use Rattle.wb_json.specs.NoFloats.{members_no_float}
use Rattle.wb_metamodel.specs.Metamodel.{Metamodel}
use Rattle.wb_model_json.specs.declared.rows.ObjectRow.{ObjectRow}
use Rattle.wb_model_json.specs.Rows.{data_of_row, row_slot}
use Rattle.wb_model_json.specs.Written.{slot_data}
use Rattle.wb_model_json.proofs.WrittenLemmas.{slot_no_float}

pub row_has_no_float : (mm : Metamodel) (row : ObjectRow) → has_float (data_of_row mm row) ≡ false
unfolding data_of_row
row_has_no_float mm row = ap (λ b. b || false) (members_no_float (slot_data mm) (slot_no_float mm) (map (row_slot mm) row.slots))
