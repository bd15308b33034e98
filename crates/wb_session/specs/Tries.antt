-- The state that a command tries, or why it is refused before one is tried.
use Rattle.std.specs.Prelude.{ℕ, ℤ, Bool, false, not, ◌&&◌, nat_abs, nat_le, List, [], ◌∷◌, ◌++◌, Option, Some, None, Result, Ok, Err, if◌then◌else◌}
use Rattle.std.specs.Option.{option_map_or}
use Rattle.circular_buffer.specs.Buffer.{last_item}
use Rattle.wb_base.specs.Results.{◌>>=◌}
use Rattle.wb_store.specs.Contents.{Contents}
use Rattle.wb_diagram.specs.declared.commands.Action.{Action}
use Rattle.wb_diagram.specs.declared.commands.Action.TheVariants.{Create, Set, Add, Take, Unset, MoveTo, Remove, Tool, Move, Arrange, Undo, Redo, Show, Unshow, Hide, Reveal, Layer, Filter}
use Rattle.wb_diagram.specs.declared.commands.Arguments.{Arguments}
use Rattle.wb_diagram.specs.declared.keys.AnyKey.{AnyKey}
use Rattle.wb_diagram.specs.declared.keys.AnyKey.TheVariants.{Node, Edge}
use Rattle.wb_diagram.specs.declared.keys.Key.{Key}
use Rattle.wb_diagram.specs.declared.keys.Pair.{Pair}
use Rattle.wb_spec_check.specs.Units.{mapping_of_key}
use Rattle.wb_answers.specs.SameKeys.{among}
use Rattle.wb_model.specs.declared.edits.edit.Edit.{Edit}
use Rattle.wb_model.specs.declared.refusals.ModelRefusal.{ModelRefusal}
use Rattle.wb_model.specs.Edits.{is_live}
use Rattle.wb_model.specs.GivenEdits.{edit_of, number_made}
use Rattle.wb_nodes.specs.Nodes.{child}
use Rattle.wb_refresh.specs.Outcomes.{Gives}
use Rattle.wb_refresh.specs.Subjects.{subject}
use Rattle.wb_command_edits.specs.NamedEdits.{edit_named}
use Rattle.wb_command_edits.specs.declared.refusal.NameRefusal.{NameRefusal}
use Rattle.wb_command_edits.specs.declared.refusal.NameRefusal.TheVariants as name
use Rattle.wb_declared.specs.Declarations.{declared_edges, declared_nodes}
use Rattle.wb_marks.specs.Marks.{arranged, hidden_too, placed, revealed, shown_too, unshown, with_filter, with_layer}
use Rattle.wb_marks.specs.declared.marks.Marks.{Marks}
use Rattle.wb_targets.specs.Targets.{additional_layer_named, filter_named, is_placeable, is_unsynchronised, mapping_named, placeable}
use Rattle.wb_tools.specs.Tools.{ran}
use Rattle.wb_tools.specs.declared.refusals.ToolRefusal.{ToolRefusal}
use Rattle.wb_arguments.specs.Arguments.{Ground, asked}
use Rattle.wb_arguments.specs.declared.asking.AskedTool.{AskedTool}
use Rattle.wb_arguments.specs.declared.refusal.ArgumentRefusal.{ArgumentRefusal}
use Rattle.wb_arguments.specs.declared.refusal.ArgumentRefusal.TheVariants as arguments
use Rattle.wb_session.specs.declared.refusal.Refusal.{Refusal}
use Rattle.wb_session.specs.declared.refusal.Refusal.TheVariants as r
use Rattle.wb_session.specs.declared.turn.Turn.{Turn}
use Rattle.wb_session.specs.declared.turn.Turn.TheVariants as turn
use Rattle.wb_session.specs.States.{Body, State, body, is_declared, model_of, subject_of}

-- what a command tries: a body with the number of its next object, the object that it made, and how past and future go on
pub record Tried : Type 0 where
  pub next : ℕ
  pub body : Body
  pub created : Option ℕ
  pub turn : Turn

-- the same model with other marks
abbrev pub with_marks : State → Marks → Tried
with_marks s marks = record { next = s.next; body = record { model = s.body.model; marks = marks }; created = None; turn = turn.Forward }

abbrev pub marked : State → Marks → Result Tried Refusal
marked s marks = Ok (with_marks s marks)

-- ---- edits

abbrev pub of_name : NameRefusal → Refusal
of_name name.UnknownObject = r.UnknownObject
of_name name.UnknownClass = r.UnknownClass
of_name name.UnknownFeature = r.UnknownFeature
of_name name.NoMemory = r.NoMemory

abbrev pub after_edit : State → (created : Option ℕ) → Result Contents ModelRefusal → Result Tried Refusal
after_edit s created (Ok m) = Ok (record { next = m.next; body = body m s.body.marks; created = created; turn = turn.Forward })
after_edit s created (Err refusal) = Err (r.Edit refusal)

-- the model of an edit, with the marks as they are
abbrev pub edited : State → Edit → Result Tried Refusal
edited s edit = after_edit s (number_made edit (model_of s)) (edit_of edit (model_of s))

abbrev pub by_name : State → Result Edit NameRefusal → Result Tried Refusal
by_name s (Ok edit) = edited s edit
by_name s (Err refusal) = Err (of_name refusal)

-- the edit that an action asks for; one that asks for none changes nothing
unfoldable pub asked_edit : State → Action → Result Tried Refusal
asked_edit s action = option_map_or (by_name s) (edit_named (model_of s) action) (marked s s.body.marks)

-- ---- undo and redo

-- a body as it was, with the present number of the next object
abbrev pub restored : State → Turn → Refusal → Option Body → Result Tried Refusal
restored s way refusal (Some b) = Ok (record { next = s.next; body = b; created = None; turn = way })
restored s way refusal None = Err refusal

-- ---- positions

abbrev pub is_near : ℤ → Bool
is_near x = nat_le (nat_abs x) 1000000

-- both numbers are from -1,000,000 to 1,000,000
abbrev pub moved_node : State → Key → (x y : ℤ) → Result Tried Refusal
moved_node s key x y =
    if not (is_placeable s.spec key) then Err r.NotPlaceable
    else if is_near x && is_near y then marked s (placed key (x, y) s.body.marks) else Err r.PositionOutOfRange

-- an edge cannot be placed
abbrev pub moved : State → AnyKey → (x y : ℤ) → Result Tried Refusal
moved s (Node key) x y = moved_node s key x y
moved s (Edge key) x y = Err r.NotPlaceable

-- ---- shown marks

-- an element or edge may lose its shown mark where its mapping is unsynchronised
abbrev pub unshown_node : State → Key → Result Tried Refusal
unshown_node s key =
    if option_map_or (is_unsynchronised s.spec) (mapping_of_key (Node key)) false then marked s (unshown key s.body.marks) else Err r.NotUnsynchronised

abbrev pub unshown_any : State → AnyKey → Result Tried Refusal
unshown_any s (Node key) = unshown_node s key
unshown_any s (Edge key) = Err r.NotUnsynchronised

-- ---- switches

abbrev pub layered : State → (active : Bool) → Option ℕ → Result Tried Refusal
layered s active (Some n) = marked s (with_layer n active s.body.marks)
layered s active None = Err r.UnknownLayer

abbrev pub filtered : State → (active : Bool) → Option ℕ → Result Tried Refusal
filtered s active (Some n) = marked s (with_filter n active s.body.marks)
filtered s active None = Err r.UnknownFilter

-- ---- tools

abbrev pub of_arguments : ArgumentRefusal → Refusal
of_arguments arguments.UnknownTool = r.UnknownTool
of_arguments arguments.BadArguments = r.BadArguments
of_arguments arguments.UnknownElement = r.UnknownElement
of_arguments arguments.NoMemory = r.NoMemory

-- the model that a tool makes, with the marks as they are; the objects that it makes are not told
abbrev pub after_tool : State → Result (Contents × ℕ) ToolRefusal → Result Tried Refusal
after_tool s (Ok (m, evaluations)) = Ok (record { next = m.next; body = body m s.body.marks; created = None; turn = turn.Forward })
after_tool s (Err refusal) = Err (r.Tool refusal)

module _ (gives : Gives) where
  -- only on what is declared
  abbrev pub known : State → AnyKey → Result Tried Refusal → Result Tried Refusal
  known s key next = if is_declared gives (subject_of s) key then next else Err r.UnknownElement

  -- only of an object that is live
  abbrev pub live : State → ℕ → Result Tried Refusal → Result Tried Refusal
  live s o next = if is_live (model_of s) o then next else Err r.UnknownObject

  abbrev pub node_path : State → Key → Result (List Pair) Refusal
  node_path s key = if among (declared_nodes gives (subject_of s)) key then Ok key.pairs else Err r.UnknownElement

  -- the path to where something is shown: that of a declared element, or the empty one of the diagram
  abbrev pub path_of : State → Option AnyKey → Result (List Pair) Refusal
  path_of s None = Ok []
  path_of s (Some (Node key)) = node_path s key
  path_of s (Some (Edge key)) = Err r.UnknownElement

  -- would the element be declared if it had the mark?
  abbrev pub would_be_declared : State → Key → Bool
  would_be_declared s key = among (declared_nodes gives (subject s.spec (model_of s) s.root (s.body.marks.shown ++ key ∷ []))) key

  abbrev pub shown_candidate : State → Key → Result Tried Refusal
  shown_candidate s key = if would_be_declared s key then marked s (shown_too key s.body.marks) else Err r.NotCandidate

  abbrev pub shown_by : State → List Pair → ℕ → Option ℕ → Result Tried Refusal
  shown_by s path o (Some n) = if is_unsynchronised s.spec n then shown_candidate s (child path n o) else Err r.NotUnsynchronised
  shown_by s path o None = Err r.NotCandidate

  abbrev pub shown : State → Option AnyKey → List ℕ → ℕ → Result Tried Refusal
  shown s parent mapping o = live s o (path_of s parent >>= (λ path. shown_by s path o (mapping_named s.spec mapping)))

  -- all that can be placed, in a grid for each parent
  abbrev pub laid : State → Marks
  laid s = arranged (placeable s.spec (declared_nodes gives (subject_of s))) s.body.marks

  -- what arguments of tools may name: what is declared, and the root element
  abbrev pub ground : State → Ground
  ground s = record { nodes = declared_nodes gives (subject_of s); edges = declared_edges gives (subject_of s); root = s.root }

  -- a tool that is asked for is run on the model
  abbrev pub run_asked : State → AskedTool → Result Tried Refusal
  run_asked s it = after_tool s (ran gives s.spec it.tool it.env it.context (model_of s))

  abbrev pub by_arguments : State → Result AskedTool ArgumentRefusal → Result Tried Refusal
  by_arguments s (Ok it) = run_asked s it
  by_arguments s (Err refusal) = Err (of_arguments refusal)

  -- the tool of a name, with these arguments
  abbrev pub used : State → List ℕ → Arguments → Result Tried Refusal
  used s tool arguments = by_arguments s (asked s.spec (ground s) tool arguments)

  -- what an action tries
  unfoldable pub tried : State → Action → Result Tried Refusal
  tried s (Create class slot) = asked_edit s (Create class slot)
  tried s (Set slot value) = asked_edit s (Set slot value)
  tried s (Add slot value) = asked_edit s (Add slot value)
  tried s (Take slot value) = asked_edit s (Take slot value)
  tried s (Unset slot) = asked_edit s (Unset slot)
  tried s (MoveTo o slot) = asked_edit s (MoveTo o slot)
  tried s (Remove o) = asked_edit s (Remove o)
  tried s (Tool tool arguments) = used s tool arguments
  tried s (Move key x y) = known s key (moved s key x y)
  tried s Arrange = marked s (laid s)
  tried s Undo = restored s turn.Back r.NothingToUndo (last_item s.past)
  tried s Redo = restored s turn.Again r.NothingToRedo (last_item s.future)
  tried s (Show parent mapping o) = shown s parent mapping o
  tried s (Unshow key) = known s key (unshown_any s key)
  tried s (Hide key) = known s key (marked s (hidden_too key s.body.marks))
  tried s (Reveal key) = known s key (marked s (revealed key s.body.marks))
  tried s (Layer layer active) = layered s active (additional_layer_named s.spec layer)
  tried s (Filter filter active) = filtered s active (filter_named s.spec filter)
