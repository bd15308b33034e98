use Rattle.std.proofs.Common.{drop}
use Rattle.wb_json.proofs.Turns.{Goes}
use Rattle.wb_json.specs.Form.{in_turn}
use Rattle.wb_model_json.specs.RowText.{row_slot_for}
use Rattle.wb_model_json.proofs.row_reading.slots_for.Given as goal

abbrev pub invariant-loop-member : goal.invariant-loop-member
invariant-loop-member l = Goes (row_slot_for l.metamodel l.class) l.slots.items (drop l.member-index l.members) (in_turn (row_slot_for l.metamodel l.class) l.members)
