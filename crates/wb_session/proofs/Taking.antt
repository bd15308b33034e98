-- A step that was taken, and which way it went.
use Rattle.std.proofs.Common.{◌≡◌, ◌&&◌, ℕ, ℤ, Bool, true, false, not, if◌then◌else◌, List, Option, Some, None, Result, Ok, Err, refl, ap, subst}
use Rattle.std.specs.Prelude.{⊤}
use Rattle.std.specs.Option.{option_map_or}
use Rattle.wb_base.specs.Results.{◌>>=◌}
use Rattle.wb_base.proofs.Steps.{then_ok, same_ok}
use Rattle.wb_diagram.specs.declared.commands.Action.{Action}
use Rattle.wb_diagram.specs.declared.commands.Action.TheVariants.{Create, Set, Add, Take, Unset, MoveTo, Remove, Tool, Move, Arrange, Undo, Redo, Show, Unshow, Hide, Reveal, Layer, Filter}
use Rattle.wb_diagram.specs.declared.commands.Command.{Command}
use Rattle.wb_diagram.specs.declared.keys.AnyKey.{AnyKey}
use Rattle.wb_diagram.specs.declared.keys.AnyKey.TheVariants.{Node, Edge}
use Rattle.wb_diagram.specs.declared.keys.Key.{Key}
use Rattle.wb_diagram.specs.declared.keys.Pair.{Pair}
use Rattle.wb_store.specs.Contents.{Contents}
use Rattle.wb_model.specs.declared.edits.edit.Edit.{Edit}
use Rattle.wb_model.specs.declared.refusals.ModelRefusal.{ModelRefusal}
use Rattle.wb_model.specs.Edits.{is_live}
use Rattle.wb_model.specs.GivenEdits.{edit_of, number_made}
use Rattle.wb_spec_check.specs.Units.{mapping_of_key}
use Rattle.wb_nodes.specs.Nodes.{child}
use Rattle.wb_refresh.specs.Outcomes.{Gives}
use Rattle.wb_command_edits.specs.NamedEdits.{edit_named}
use Rattle.wb_command_edits.specs.declared.refusal.NameRefusal.{NameRefusal}
use Rattle.wb_marks.specs.Marks.{hidden_too, placed, revealed, shown_too, unshown}
use Rattle.wb_targets.specs.Targets.{additional_layer_named, filter_named, is_placeable, is_unsynchronised, mapping_named}
use Rattle.wb_tools.specs.Tools.{ran}
use Rattle.wb_tools.specs.declared.refusals.ToolRefusal.{ToolRefusal}
use Rattle.wb_arguments.specs.Arguments.{asked}
use Rattle.wb_arguments.specs.declared.asking.AskedTool.{AskedTool}
use Rattle.wb_arguments.specs.declared.refusal.ArgumentRefusal.{ArgumentRefusal}
use Rattle.wb_session.specs.declared.refusal.Refusal.{Refusal}
use Rattle.wb_session.specs.declared.refusal.Refusal.TheVariants as r
use Rattle.wb_session.specs.declared.turn.Turn.TheVariants as turns
use Rattle.wb_session.specs.Laws.{IsForward}
use Rattle.wb_session.specs.States.{State, is_declared, model_of, subject_of}
use Rattle.wb_session.specs.Steps.{Stepped, accepted, current, stands, step, stepped}
use Rattle.wb_session.specs.Tries.{Tried, after_edit, after_tool, asked_edit, by_arguments, by_name, filtered, ground, is_near, known, layered, live, marked, moved, path_of, shown_by, shown_candidate, tried, unshown_any, would_be_declared}

-- ---- a step that was taken

module _ (gives : Gives) where
  -- what was tried
  pub record Taken (s t : State) (command : Command) : Type 0 where
    pub a : Tried
    pub current_is : current s command.revision ≡ Ok tt
    pub tried_is : tried gives s command.action ≡ Ok a
    pub stands_is : stands gives s.spec s.root a ≡ Ok tt
    pub new_is : accepted gives s a ≡ t

  pub taken : (s : State) (command : Command) (t : Stepped) → step gives s command ≡ Ok t → Taken s t.state command
  unfolding step
  taken s command t e =
      let one = then_ok (current s command.revision) (λ (x : ⊤). tried gives s command.action >>= (λ (a : Tried). stands gives s.spec s.root a >>= (λ (y : ⊤). let z : Result Stepped Refusal = Ok (stepped gives s a) in z))) t e in
      let two = then_ok (tried gives s command.action) (λ (a : Tried). stands gives s.spec s.root a >>= (λ (y : ⊤). let z : Result Stepped Refusal = Ok (stepped gives s a) in z)) t one.2 in
      let three = then_ok (stands gives s.spec s.root two.0) (λ (y : ⊤). let z : Result Stepped Refusal = Ok (stepped gives s two.0) in z) t two.2 in
      record {
        a = two.0;
        current_is = one.1;
        tried_is = two.1;
        stands_is = three.1;
        new_is = ap (λ (x : Stepped). x.state) (same_ok {E = Refusal} (stepped gives s two.0) t three.2);
      }

-- ---- forward

-- what is tried, if anything is, goes a step further
abbrev pub GoesForward : Result Tried Refusal → Type 0
GoesForward (Ok a) = a.turn ≡ turns.Forward
GoesForward (Err refusal) = Unit {0}

either : (b : Bool) (x y : Result Tried Refusal) → GoesForward x → GoesForward y → GoesForward (if b then x else y)
either true x y h k = h
either false x y h k = k

after_edit_forward : (s : State) (created : Option ℕ) (answer : Result Contents ModelRefusal) → GoesForward (after_edit s created answer)
after_edit_forward s created (Ok m) = refl
after_edit_forward s created (Err refusal) = tt

by_name_forward : (s : State) (answer : Result Edit NameRefusal) → GoesForward (by_name s answer)
by_name_forward s (Ok edit) = after_edit_forward s (number_made edit (model_of s)) (edit_of edit (model_of s))
by_name_forward s (Err refusal) = tt

asked_by : (s : State) (answer : Option (Result Edit NameRefusal)) → GoesForward (option_map_or (by_name s) answer (marked s s.body.marks))
asked_by s (Some answer) = by_name_forward s answer
asked_by s None = refl

asked_forward : (s : State) (action : Action) → GoesForward (asked_edit s action)
unfolding asked_edit
asked_forward s action = asked_by s (edit_named (model_of s) action)

moved_forward : (s : State) (key : AnyKey) (x y : ℤ) → GoesForward (moved s key x y)
moved_forward s (Node key) x y =
    let there : Result Tried Refusal = marked s (placed key (x, y) s.body.marks) in
    let near : Bool = is_near x && is_near y in
    either (not (is_placeable s.spec key)) (Err r.NotPlaceable) (if near then there else Err r.PositionOutOfRange) tt (either near there (Err r.PositionOutOfRange) refl tt)
moved_forward s (Edge key) x y = tt

unshown_forward : (s : State) (key : AnyKey) → GoesForward (unshown_any s key)
unshown_forward s (Node key) =
    either (option_map_or (is_unsynchronised s.spec) (mapping_of_key (Node key)) false) (marked s (unshown key s.body.marks)) (Err r.NotUnsynchronised) refl tt
unshown_forward s (Edge key) = tt

layered_forward : (s : State) (active : Bool) (n : Option ℕ) → GoesForward (layered s active n)
layered_forward s active (Some n) = refl
layered_forward s active None = tt

filtered_forward : (s : State) (active : Bool) (n : Option ℕ) → GoesForward (filtered s active n)
filtered_forward s active (Some n) = refl
filtered_forward s active None = tt

after_tool_forward : (s : State) (answer : Result (Contents × ℕ) ToolRefusal) → GoesForward (after_tool s answer)
after_tool_forward s (Ok (m, n)) = refl
after_tool_forward s (Err refusal) = tt

module _ (gives : Gives) where
  asked_tool_forward : (s : State) (answer : Result AskedTool ArgumentRefusal) → GoesForward (by_arguments gives s answer)
  asked_tool_forward s (Ok it) = after_tool_forward s (ran gives s.spec it.tool it.env it.context (model_of s))
  asked_tool_forward s (Err refusal) = tt

  shown_forward : (s : State) (key : Key) → GoesForward (shown_candidate gives s key)
  shown_forward s key = either (would_be_declared gives s key) (marked s (shown_too key s.body.marks)) (Err r.NotCandidate) refl tt

  shown_by_forward : (s : State) (path : List Pair) (o : ℕ) (n : Option ℕ) → GoesForward (shown_by gives s path o n)
  shown_by_forward s path o (Some n) = either (is_unsynchronised s.spec n) (shown_candidate gives s (child path n o)) (Err r.NotUnsynchronised) (shown_forward s (child path n o)) tt
  shown_by_forward s path o None = tt

  path_forward : (s : State) (path : Result (List Pair) Refusal) (o : ℕ) (n : Option ℕ) → GoesForward (path >>= (λ (p : List Pair). shown_by gives s p o n))
  path_forward s (Ok path) o n = shown_by_forward s path o n
  path_forward s (Err refusal) o n = tt

  known_forward : (s : State) (key : AnyKey) (next : Result Tried Refusal) → GoesForward next → GoesForward (known gives s key next)
  known_forward s key next h = either (is_declared gives (subject_of s) key) next (Err r.UnknownElement) h tt

  live_forward : (s : State) (o : ℕ) (next : Result Tried Refusal) → GoesForward next → GoesForward (live gives s o next)
  live_forward s o next h = either (is_live (model_of s) o) next (Err r.UnknownObject) h tt

  forward : (s : State) (action : Action) → IsForward action → GoesForward (tried gives s action)
  unfolding tried
  forward s (Create class slot) f = asked_forward s (Create class slot)
  forward s (Set slot value) f = asked_forward s (Set slot value)
  forward s (Add slot value) f = asked_forward s (Add slot value)
  forward s (Take slot value) f = asked_forward s (Take slot value)
  forward s (Unset slot) f = asked_forward s (Unset slot)
  forward s (MoveTo o slot) f = asked_forward s (MoveTo o slot)
  forward s (Remove o) f = asked_forward s (Remove o)
  forward s (Tool tool arguments) f = asked_tool_forward s (asked s.spec (ground gives s) tool arguments)
  forward s (Move key x y) f = known_forward s key (moved s key x y) (moved_forward s key x y)
  forward s Arrange f = refl
  forward s Undo f = absurd f
  forward s Redo f = absurd f
  forward s (Show parent mapping o) f =
      live_forward s o (path_of gives s parent >>= (λ (p : List Pair). shown_by gives s p o (mapping_named s.spec mapping))) (path_forward s (path_of gives s parent) o (mapping_named s.spec mapping))
  forward s (Unshow key) f = known_forward s key (unshown_any s key) (unshown_forward s key)
  forward s (Hide key) f = known_forward s key (marked s (hidden_too key s.body.marks)) refl
  forward s (Reveal key) f = known_forward s key (marked s (revealed key s.body.marks)) refl
  forward s (Layer layer active) f = layered_forward s active (additional_layer_named s.spec layer)
  forward s (Filter filter active) f = filtered_forward s active (filter_named s.spec filter)

  pub goes_forward : (s : State) (action : Action) (a : Tried) → IsForward action → tried gives s action ≡ Ok a → a.turn ≡ turns.Forward
  goes_forward s action a f e = subst GoesForward e (forward s action f)
