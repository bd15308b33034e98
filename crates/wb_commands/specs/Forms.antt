-- What a body says, command by command: the members that it may have, and what each stands for.
use Rattle.std.specs.Prelude.{ℕ, ◌^◌, nat_lt, if◌then◌else◌, List, [], ◌∷◌, Option, Some, None, option_and_then, option_map, Result, Ok, Err, codes}
use Rattle.serde_json.specs.Data.{Data}
use Rattle.serde_json.specs.Data as json
use Rattle.serde_json.specs.Find.{as_number, as_u64, as_i64}
use Rattle.wb_json.specs.Place.{Place}
use Rattle.wb_json.specs.Form.{◌>>=◌, or_wrong, bool_of, text_of, integer_of, u32_of, name_of, nullable, word_of, listed, needed, optional}
use Rattle.wb_diagram.specs.declared.keys.AnyKey.{AnyKey}
use Rattle.wb_diagram.specs.declared.commands.Action.{Action}
use Rattle.wb_diagram.specs.declared.commands.Action.TheVariants as a
use Rattle.wb_diagram.specs.declared.commands.Arguments.{Arguments}
use Rattle.wb_diagram.specs.declared.commands.Command.{Command}
use Rattle.wb_diagram.specs.declared.commands.End.{End}
use Rattle.wb_diagram.specs.declared.commands.End.TheVariants.{Source, Target}
use Rattle.wb_diagram.specs.declared.commands.Given.{Given}
use Rattle.wb_diagram.specs.declared.commands.Given.TheVariants as g
use Rattle.wb_diagram.specs.declared.commands.NamedSlot.{NamedSlot}
use Rattle.wb_commands.specs.Keys.{key_in}
use Rattle.wb_commands.specs.declared.arguments.Ends.{Ends}
use Rattle.wb_commands.specs.declared.arguments.Places.{Places}
use Rattle.wb_commands.specs.declared.command_kinds.CommandKind.{CommandKind}
use Rattle.wb_commands.specs.declared.command_kinds.CommandKind.TheVariants as kind
use Rattle.wb_commands.specs.declared.slots.Edit.{Edit}

-- ---- what a member stands for

-- a string that spells a key
unfoldable pub key_of : Data → Result AnyKey Place
key_of d = text_of d >>= (λ text. or_wrong (key_in text))

-- a revision is from 0 to 9,007,199,254,740,991
abbrev pub revision_of : Data → Result ℕ Place
revision_of d = or_wrong (option_and_then (λ n. if nat_lt n (2 ^ 53) then Some n else None) (option_and_then as_u64 (as_number d)))

-- an end of an edge
abbrev pub end_of : Data → Result End Place
end_of d = word_of ((codes "source", Source) ∷ (codes "target", Target) ∷ []) d

-- an object as a value
abbrev pub object_value_of : Data → Result Given Place
object_value_of d = do
  _ ← listed (codes "object" ∷ []) d
  object ← needed (codes "object") u32_of d
  Ok (g.Object object)

-- a value: an integer of 64 signed bits, a boolean, a string, or an object
unfoldable pub given_of : Data → Result Given Place
given_of json.null = Err []
given_of (json.boolean b) = Ok (g.Bool b)
given_of (json.number n) = or_wrong (option_map g.Int (as_i64 n))
given_of (json.string s) = Ok (g.Text s)
given_of (json.array ds) = Err []
given_of (json.object ms) = object_value_of (json.object ms)

-- ---- members that several commands have

-- a slot: the object stands at this name
abbrev pub slot_of : List ℕ → Data → Result NamedSlot Place
slot_of name d = do
  object ← needed name u32_of d
  feature ← needed (codes "feature") name_of d
  Ok (record { object = object; feature = feature })

-- a slot with a value
abbrev pub edit_of : Data → Result Edit Place
edit_of d = do
  _ ← listed (codes "command" ∷ codes "revision" ∷ codes "object" ∷ codes "feature" ∷ codes "value" ∷ []) d
  slot ← slot_of (codes "object") d
  value ← needed (codes "value") given_of d
  Ok (record { slot = slot; value = value })

-- a key and nothing else
abbrev pub key_alone_of : Data → Result AnyKey Place
key_alone_of d = do
  _ ← listed (codes "command" ∷ codes "revision" ∷ codes "key" ∷ []) d
  needed (codes "key") key_of d

-- a command with no members of its own
abbrev pub alone_of : Action → Data → Result Action Place
alone_of action d = do
  _ ← listed (codes "command" ∷ codes "revision" ∷ []) d
  Ok action

-- ---- commands that edit the model

-- both, or neither
abbrev pub slot_with : Option ℕ → Option (List ℕ) → Result (Option NamedSlot) Place
slot_with None None = Ok None
slot_with (Some object) (Some feature) = Ok (Some (record { object = object; feature = feature }))
slot_with None (Some feature) = Err []
slot_with (Some object) None = Err []

-- the slot of a new object; none, for a root, is two nulls
abbrev pub new_slot_of : Data → Result (Option NamedSlot) Place
new_slot_of d = do
  object ← needed (codes "in") (nullable u32_of) d
  feature ← needed (codes "feature") (nullable name_of) d
  slot_with object feature

abbrev pub create_of : Data → Result Action Place
create_of d = do
  _ ← listed (codes "command" ∷ codes "revision" ∷ codes "class" ∷ codes "in" ∷ codes "feature" ∷ []) d
  class ← needed (codes "class") name_of d
  slot ← new_slot_of d
  Ok (a.Create class slot)

abbrev pub set_of : Data → Result Action Place
set_of d = edit_of d >>= (λ edit. Ok (a.Set edit.slot edit.value))

abbrev pub add_of : Data → Result Action Place
add_of d = edit_of d >>= (λ edit. Ok (a.Add edit.slot edit.value))

abbrev pub take_of : Data → Result Action Place
take_of d = edit_of d >>= (λ edit. Ok (a.Take edit.slot edit.value))

abbrev pub unset_of : Data → Result Action Place
unset_of d = do
  _ ← listed (codes "command" ∷ codes "revision" ∷ codes "object" ∷ codes "feature" ∷ []) d
  slot ← slot_of (codes "object") d
  Ok (a.Unset slot)

abbrev pub move_to_of : Data → Result Action Place
move_to_of d = do
  _ ← listed (codes "command" ∷ codes "revision" ∷ codes "object" ∷ codes "in" ∷ codes "feature" ∷ []) d
  object ← needed (codes "object") u32_of d
  slot ← slot_of (codes "in") d
  Ok (a.MoveTo object slot)

abbrev pub remove_of : Data → Result Action Place
remove_of d = do
  _ ← listed (codes "command" ∷ codes "revision" ∷ codes "object" ∷ []) d
  object ← needed (codes "object") u32_of d
  Ok (a.Remove object)

-- ---- tools

-- what an element is put into; null is the diagram
abbrev pub places_of : Data → Result Places Place
places_of d = do
  container ← optional (codes "container") (nullable key_of) d
  to ← optional (codes "to") (nullable key_of) d
  Ok (record { container = container; to = to })

abbrev pub ends_of : Data → Result Ends Place
ends_of d = do
  source ← optional (codes "source") key_of d
  target ← optional (codes "target") key_of d
  Ok (record { source = source; target = target })

abbrev pub arguments_with : Places → Ends → (element : Option AnyKey) → (arg0 : Option (List ℕ)) → (end : Option End) → Arguments
arguments_with places ends element arg0 end = record {
  container = places.container;
  source = ends.source;
  target = ends.target;
  element = element;
  arg0 = arg0;
  end = end;
  to = places.to;
}

-- any arguments that tools have. Whether they are those of the tool is not looked at.
unfoldable pub arguments_of : Data → Result Arguments Place
arguments_of d = do
  _ ← listed (codes "container" ∷ codes "source" ∷ codes "target" ∷ codes "element" ∷ codes "arg0" ∷ codes "end" ∷ codes "to" ∷ []) d
  end ← optional (codes "end") end_of d
  arg0 ← optional (codes "arg0") text_of d
  places ← places_of d
  ends ← ends_of d
  element ← optional (codes "element") key_of d
  Ok (arguments_with places ends element arg0 end)

abbrev pub tool_of : Data → Result Action Place
tool_of d = do
  _ ← listed (codes "command" ∷ codes "revision" ∷ codes "tool" ∷ codes "arguments" ∷ []) d
  tool ← needed (codes "tool") name_of d
  arguments ← needed (codes "arguments") arguments_of d
  Ok (a.Tool tool arguments)

-- ---- commands about what is shown

abbrev pub move_of : Data → Result Action Place
move_of d = do
  _ ← listed (codes "command" ∷ codes "revision" ∷ codes "key" ∷ codes "x" ∷ codes "y" ∷ []) d
  key ← needed (codes "key") key_of d
  x ← needed (codes "x") integer_of d
  y ← needed (codes "y") integer_of d
  Ok (a.Move key x y)

abbrev pub show_of : Data → Result Action Place
show_of d = do
  _ ← listed (codes "command" ∷ codes "revision" ∷ codes "parent" ∷ codes "mapping" ∷ codes "object" ∷ []) d
  object ← needed (codes "object") u32_of d
  mapping ← needed (codes "mapping") name_of d
  parent ← needed (codes "parent") (nullable key_of) d
  Ok (a.Show parent mapping object)

abbrev pub unshow_of : Data → Result Action Place
unshow_of d = key_alone_of d >>= (λ key. Ok (a.Unshow key))

abbrev pub hide_of : Data → Result Action Place
hide_of d = key_alone_of d >>= (λ key. Ok (a.Hide key))

abbrev pub reveal_of : Data → Result Action Place
reveal_of d = key_alone_of d >>= (λ key. Ok (a.Reveal key))

abbrev pub layer_of : Data → Result Action Place
layer_of d = do
  _ ← listed (codes "command" ∷ codes "revision" ∷ codes "layer" ∷ codes "active" ∷ []) d
  active ← needed (codes "active") bool_of d
  layer ← needed (codes "layer") name_of d
  Ok (a.Layer layer active)

abbrev pub filter_of : Data → Result Action Place
filter_of d = do
  _ ← listed (codes "command" ∷ codes "revision" ∷ codes "filter" ∷ codes "active" ∷ []) d
  active ← needed (codes "active") bool_of d
  filter ← needed (codes "filter") name_of d
  Ok (a.Filter filter active)

-- ---- commands

-- the words of the commands
abbrev pub command_kinds : List (List ℕ × CommandKind)
command_kinds =
    (codes "create", kind.Create) ∷ (codes "set", kind.Set) ∷ (codes "add", kind.Add) ∷ (codes "take", kind.Take) ∷ (codes "unset", kind.Unset)
    ∷ (codes "move_to", kind.MoveTo) ∷ (codes "remove", kind.Remove) ∷ (codes "tool", kind.Tool)
    ∷ (codes "move", kind.Move) ∷ (codes "arrange", kind.Arrange) ∷ (codes "undo", kind.Undo) ∷ (codes "redo", kind.Redo)
    ∷ (codes "show", kind.Show) ∷ (codes "unshow", kind.Unshow) ∷ (codes "hide", kind.Hide) ∷ (codes "reveal", kind.Reveal)
    ∷ (codes "layer", kind.Layer) ∷ (codes "filter", kind.Filter) ∷ []

abbrev pub command_kind_of : Data → Result CommandKind Place
command_kind_of d = word_of command_kinds d

-- what a body of this command asks for
unfoldable pub action_of : CommandKind → Data → Result Action Place
action_of kind.Create d = create_of d
action_of kind.Set d = set_of d
action_of kind.Add d = add_of d
action_of kind.Take d = take_of d
action_of kind.Unset d = unset_of d
action_of kind.MoveTo d = move_to_of d
action_of kind.Remove d = remove_of d
action_of kind.Tool d = tool_of d
action_of kind.Move d = move_of d
action_of kind.Arrange d = alone_of a.Arrange d
action_of kind.Undo d = alone_of a.Undo d
action_of kind.Redo d = alone_of a.Redo d
action_of kind.Show d = show_of d
action_of kind.Unshow d = unshow_of d
action_of kind.Hide d = hide_of d
action_of kind.Reveal d = reveal_of d
action_of kind.Layer d = layer_of d
action_of kind.Filter d = filter_of d

-- the command's word chooses which members there are beside the revision
unfoldable pub command_of : Data → Result Command Place
command_of d = do
  kind ← needed (codes "command") command_kind_of d
  action ← action_of kind d
  revision ← needed (codes "revision") revision_of d
  Ok (record { revision = revision; action = action })
