use Rattle.std.proofs.Common.{◌≡◌, drop, map}
use Rattle.serde_json.specs.Data.{no_members}
use Rattle.serde_json.specs.View.{members_view}
use Rattle.wb_json.specs.ToJson.{put_all}
use Rattle.wb_model_json.specs.Rows.{row_slot}
use Rattle.wb_model_json.specs.Written.{slot_data}
use Rattle.wb_model_json.proofs.row_writing.slots_value.Given as goal

abbrev pub invariant-loop-slot : goal.invariant-loop-slot
invariant-loop-slot l = put_all (slot_data l.metamodel) (map (row_slot l.metamodel) (drop l.slot-index l.slots)) (members_view l.members.entries) ≡ put_all (slot_data l.metamodel) (map (row_slot l.metamodel) l.slots) no_members
