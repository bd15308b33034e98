use Rattle.std.proofs.Common.{drop}
use Rattle.wb_json.proofs.Turns.{Goes}
use Rattle.wb_json.specs.Form.{in_turn}
use Rattle.wb_model_json.specs.ModelFile.{slot_for}
use Rattle.wb_model_json.proofs.parts.slots.Given as goal

abbrev pub invariant-loop-member : goal.invariant-loop-member
invariant-loop-member l = Goes (slot_for l.metamodel l.class) l.slots.items (drop l.member-index l.members) (in_turn (slot_for l.metamodel l.class) l.members)
