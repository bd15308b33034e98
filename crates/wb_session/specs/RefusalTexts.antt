-- The JSON text of a refusal: its code, with the present revision where a command is stale, and with what is known of a tool's.
use Rattle.std.specs.Prelude.{ℕ, Bool, true, false, List, [], ◌++◌, codes, decimal, if◌then◌else◌}
use Rattle.wb_model.specs.declared.refusals.ModelRefusal.{ModelRefusal}
use Rattle.wb_model.specs.declared.refusals.ModelRefusal.TheVariants as m
use Rattle.wb_refresh.specs.Faults.{fault_name}
use Rattle.wb_tools.specs.declared.refusals.ToolRefusal.{ToolRefusal}
use Rattle.wb_tools.specs.declared.refusals.ToolRefusal.TheVariants as t
use Rattle.wb_session.specs.declared.refusal.Refusal.{Refusal}
use Rattle.wb_session.specs.declared.refusal.Refusal.TheVariants as r

abbrev pub edit_code : ModelRefusal → List ℕ
edit_code m.UnknownObject = codes "unknown_object"
edit_code m.KindMismatch = codes "kind_mismatch"
edit_code m.UpperBound = codes "upper_bound"
edit_code m.ContainmentCycle = codes "containment_cycle"
edit_code m.AbstractClass = codes "abstract_class"
edit_code m.TooManyObjects = codes "too_many_objects"
edit_code m.IdsSpent = codes "ids_spent"
edit_code m.NoMemory = codes "no_memory"

abbrev pub tool_code : ToolRefusal → List ℕ
tool_code t.PreconditionFalse = codes "precondition_false"
tool_code (t.Evaluation place fault) = codes "evaluation"
tool_code (t.BadContext place) = codes "bad_context"
tool_code (t.Model place refusal) = codes "model"
tool_code t.ToolTooLong = codes "tool_too_long"
tool_code t.NoMemory = codes "no_memory"

abbrev pub refusal_code : Refusal → List ℕ
refusal_code r.Stale = codes "stale"
refusal_code r.RevisionsSpent = codes "revisions_spent"
refusal_code r.UnknownObject = codes "unknown_object"
refusal_code r.UnknownClass = codes "unknown_class"
refusal_code r.UnknownFeature = codes "unknown_feature"
refusal_code r.UnknownTool = codes "unknown_tool"
refusal_code r.BadArguments = codes "bad_arguments"
refusal_code r.UnknownElement = codes "unknown_element"
refusal_code r.UnknownLayer = codes "unknown_layer"
refusal_code r.UnknownFilter = codes "unknown_filter"
refusal_code r.NotPlaceable = codes "not_placeable"
refusal_code r.PositionOutOfRange = codes "position_out_of_range"
refusal_code r.NotUnsynchronised = codes "not_unsynchronised"
refusal_code r.NotCandidate = codes "not_candidate"
refusal_code r.NothingToUndo = codes "nothing_to_undo"
refusal_code r.NothingToRedo = codes "nothing_to_redo"
refusal_code (r.Tool refusal) = tool_code refusal
refusal_code (r.Edit refusal) = edit_code refusal
refusal_code r.RootRemoved = codes "root_removed"
refusal_code r.DiagramTooLarge = codes "diagram_too_large"
refusal_code r.NoMemory = codes "no_memory"

-- a stale command's refusal carries the present revision
abbrev pub has_revision : Refusal → Bool
has_revision r.Stale = true
has_revision r.RevisionsSpent = false
has_revision r.UnknownObject = false
has_revision r.UnknownClass = false
has_revision r.UnknownFeature = false
has_revision r.UnknownTool = false
has_revision r.BadArguments = false
has_revision r.UnknownElement = false
has_revision r.UnknownLayer = false
has_revision r.UnknownFilter = false
has_revision r.NotPlaceable = false
has_revision r.PositionOutOfRange = false
has_revision r.NotUnsynchronised = false
has_revision r.NotCandidate = false
has_revision r.NothingToUndo = false
has_revision r.NothingToRedo = false
has_revision (r.Tool refusal) = false
has_revision (r.Edit refusal) = false
has_revision r.RootRemoved = false
has_revision r.DiagramTooLarge = false
has_revision r.NoMemory = false

abbrev pub revision_member : Bool → (revision : ℕ) → List ℕ
revision_member has revision = if has then codes ",\"revision\":" ++ decimal revision else []

-- the place of the operation
abbrev pub place_member : ℕ → List ℕ
place_member place = codes "\"place\":" ++ decimal place ++ codes ","

-- what is known of a tool's refusal: the fault of its expression or the refusal of its edit, and the place
abbrev pub tool_members : ToolRefusal → List ℕ
tool_members t.PreconditionFalse = []
tool_members (t.Evaluation place fault) = codes "\"fault\":\"" ++ fault_name fault ++ codes "\"," ++ place_member place
tool_members (t.BadContext place) = place_member place
tool_members (t.Model place refusal) = codes "\"model\":\"" ++ edit_code refusal ++ codes "\"," ++ place_member place
tool_members t.ToolTooLong = []
tool_members t.NoMemory = []

abbrev pub members_before : Refusal → List ℕ
members_before (r.Tool refusal) = tool_members refusal
members_before _ = []

-- members stand ascending by their names
unfoldable pub refusal_text : Refusal → (revision : ℕ) → List ℕ
refusal_text refusal revision =
    codes "{" ++ members_before refusal ++ codes "\"refusal\":\"" ++ refusal_code refusal ++ codes "\"" ++ revision_member (has_revision refusal) revision ++ codes "}"
