use Rattle.std.proofs.Common.{◌≡◌, drop}
use Rattle.serde_json.specs.Data.{no_members}
use Rattle.serde_json.specs.View.{members_view}
use Rattle.wb_json.specs.ToJson.{put_all}
use Rattle.wb_model_json.specs.Written.{slot_data, named_slots}
use Rattle.wb_metamodel.specs.Metamodel.{features_of}
use Rattle.wb_model_json.proofs.writing.slots_value.Given as goal

abbrev pub invariant-loop-feature : goal.invariant-loop-feature
invariant-loop-feature l = put_all (slot_data l.model.metamodel) (named_slots l.model l.o (drop l.feature-index l.feature-items)) (members_view l.slots.entries) ≡ put_all (slot_data l.model.metamodel) (named_slots l.model l.o (features_of l.model.metamodel l.fn.class)) no_members
