-- What the arguments of a tool say: the tool, its variables, and the first context; or why they say nothing.
use Rattle.std.specs.Prelude.{◌≡◌, ℕ, Bool, not, nat_le, if◌then◌else◌, List, [], ◌∷◌, length, position, slice_get, codes, is_some, Option, Some, None, ok_or, option_map, Result, Ok, Err}
use Rattle.std.specs.List.{list_all, list_any}
use Rattle.wb_base.specs.Answering.{IsRefusal}
use Rattle.wb_base.specs.Names.{same_name}
use Rattle.wb_base.specs.Results.{◌>>=◌}
use Rattle.wb_diagram.specs.declared.commands.Arguments.{Arguments}
use Rattle.wb_diagram.specs.declared.commands.End.{End}
use Rattle.wb_diagram.specs.declared.commands.End.TheVariants.{Source, Target}
use Rattle.wb_diagram.specs.declared.keys.AnyKey.{AnyKey}
use Rattle.wb_diagram.specs.declared.keys.AnyKey.TheVariants.{Node, Edge}
use Rattle.wb_diagram.specs.declared.keys.EdgeKey.{EdgeKey}
use Rattle.wb_diagram.specs.declared.keys.Key.{Key}
use Rattle.wb_viewpoint.specs.declared.tools.Tool.{Tool}
use Rattle.wb_viewpoint.specs.declared.tools.ToolKind.{ToolKind}
use Rattle.wb_viewpoint.specs.declared.tools.ToolKind.TheVariants as kind
use Rattle.wb_spec_check.specs.Checked.{Specification}
use Rattle.wb_aql_eval.specs.declared.env.Env.{Env}
use Rattle.wb_answers.specs.Environments.{front, last_object}
use Rattle.wb_answers.specs.SameKeys.{among, same_edge}
use Rattle.wb_arguments.specs.Variables.{connected, created, deleted, dropped_to, edited, reconnected}
use Rattle.wb_arguments.specs.declared.asking.AskedTool.{AskedTool}
use Rattle.wb_arguments.specs.declared.ground.Ground as lent
use Rattle.wb_arguments.specs.declared.refusal.ArgumentRefusal.{ArgumentRefusal}
use Rattle.wb_arguments.specs.declared.refusal.ArgumentRefusal.TheVariants.{UnknownTool, BadArguments, UnknownElement, NoMemory}

-- the declared elements and edges, and the root element
pub record Ground : Type 0 where
  pub nodes : List Key
  pub edges : List EdgeKey
  pub root : ℕ

-- the same, of what is lent
abbrev pub on : lent.Ground → Ground
on it = record { nodes = it.nodes.now; edges = it.edges.now; root = it.root }

-- the refusal of an error; want of memory is none
abbrev pub named : ArgumentRefusal → Option ArgumentRefusal
named UnknownTool = Some UnknownTool
named BadArguments = Some BadArguments
named UnknownElement = Some UnknownElement
named NoMemory = None

-- a step gives what its definition gives, as it is seen
abbrev pub Gives : {A B : Type 0} → (B → A) → Result A ArgumentRefusal → Result B ArgumentRefusal → Type 0
Gives view given (Ok x) = given ≡ Ok (view x)
Gives view given (Err e) = given ≡ Err e

-- ---- which arguments are there

-- those that a tool of a kind has
abbrev pub arguments_of : ToolKind → List (List ℕ)
arguments_of kind.NodeCreation = codes "container" ∷ []
arguments_of kind.EdgeCreation = codes "source" ∷ codes "target" ∷ []
arguments_of kind.Delete = codes "element" ∷ []
arguments_of kind.DirectEdit = codes "element" ∷ codes "arg0" ∷ []
arguments_of kind.Reconnect = codes "element" ∷ codes "end" ∷ codes "to" ∷ []
arguments_of kind.Drop = codes "element" ∷ codes "to" ∷ []

-- each by its name, with whether it is there; null is there
abbrev pub presence : Arguments → List (List ℕ × Bool)
presence it =
    (codes "container", is_some it.container) ∷ (codes "source", is_some it.source) ∷ (codes "target", is_some it.target)
    ∷ (codes "element", is_some it.element) ∷ (codes "arg0", is_some it.arg0) ∷ (codes "end", is_some it.end) ∷ (codes "to", is_some it.to) ∷ []

-- an argument is there exactly where the kind has it
abbrev pub is_wanted : ToolKind → (List ℕ × Bool) → Bool
is_wanted kind it = if list_any (same_name it.0) (arguments_of kind) then it.1 else not it.1

unfoldable pub are_wanted : ToolKind → Arguments → Bool
are_wanted kind it = list_all (is_wanted kind) (presence it)

-- what must be there
abbrev pub needed : {A : Type 0} → Option A → Result A ArgumentRefusal
needed it = ok_or it BadArguments

-- a text of at most 65,536 bytes
abbrev pub short : List ℕ → Result (List ℕ) ArgumentRefusal
short text = if nat_le (length text) 65536 then Ok text else Err BadArguments

-- ---- what keys name

-- the key of a declared element
abbrev pub element : Ground → AnyKey → Result Key ArgumentRefusal
element g (Node key) = if among g.nodes key then Ok key else Err UnknownElement
element g (Edge key) = Err UnknownElement

-- the key of a declared edge
abbrev pub edge : Ground → AnyKey → Result EdgeKey ArgumentRefusal
edge g (Node key) = Err UnknownElement
edge g (Edge key) = if list_any (same_edge key) g.edges then Ok key else Err UnknownElement

-- the object of an element
abbrev pub object_of : Ground → Key → ℕ
object_of g key = last_object g.root key.pairs

-- the object of its parent, or the root element under the diagram
abbrev pub container_of : Ground → Key → ℕ
container_of g key = last_object g.root (front key.pairs)

-- the element at an end of an edge
abbrev pub end_of : End → EdgeKey → Key
end_of Source key = key.source
end_of Target key = key.target

abbrev pub element_object : Ground → AnyKey → Result ℕ ArgumentRefusal
element_object g key = element g key >>= λ it. Ok (object_of g it)

abbrev pub edge_object : Ground → AnyKey → Result ℕ ArgumentRefusal
edge_object g key = edge g key >>= λ it. Ok it.object

-- the object of an element or edge
abbrev pub any_object : Ground → AnyKey → Result ℕ ArgumentRefusal
any_object g (Node key) = element_object g (Node key)
any_object g (Edge key) = edge_object g (Edge key)

-- the object of an element, or the root element for null
abbrev pub place_object : Ground → Option AnyKey → Result ℕ ArgumentRefusal
place_object g (Some key) = element_object g key
place_object g None = Ok g.root

-- ---- by kind: the variables, and the first context

unfoldable pub creation : Ground → Arguments → Result (Env × ℕ) ArgumentRefusal
creation g it =
    needed it.container >>= λ place.
    place_object g place >>= λ container.
    Ok (created container, container)

unfoldable pub connection : Ground → Arguments → Result (Env × ℕ) ArgumentRefusal
connection g it =
    needed it.source >>= λ from.
    needed it.target >>= λ to.
    element_object g from >>= λ source.
    element_object g to >>= λ target.
    Ok (connected source target, source)

unfoldable pub deletion : Ground → Arguments → Result (Env × ℕ) ArgumentRefusal
deletion g it =
    needed it.element >>= λ key.
    any_object g key >>= λ element.
    Ok (deleted element, element)

unfoldable pub direct_edit : Ground → Arguments → Result (Env × ℕ) ArgumentRefusal
direct_edit g it =
    needed it.element >>= λ key.
    needed it.arg0 >>= short >>= λ text.
    any_object g key >>= λ element.
    Ok (edited element text, element)

-- `to` may not be null
unfoldable pub reconnection : Ground → Arguments → Result (Env × ℕ) ArgumentRefusal
reconnection g it =
    needed it.element >>= λ key.
    needed it.end >>= λ end.
    needed it.to >>= needed >>= λ to.
    edge g key >>= λ link.
    element_object g to >>= λ new.
    Ok (reconnected link.object end (object_of g (end_of end link)) new, link.object)

unfoldable pub dropped : Ground → Arguments → Result (Env × ℕ) ArgumentRefusal
dropped g it =
    needed it.element >>= λ key.
    needed it.to >>= λ place.
    element g key >>= λ moved.
    place_object g place >>= λ container.
    Ok (dropped_to (object_of g moved) (container_of g moved) container, container)

abbrev pub bound_by : Ground → ToolKind → Arguments → Result (Env × ℕ) ArgumentRefusal
bound_by g kind.NodeCreation it = creation g it
bound_by g kind.EdgeCreation it = connection g it
bound_by g kind.Delete it = deletion g it
bound_by g kind.DirectEdit it = direct_edit g it
bound_by g kind.Reconnect it = reconnection g it
bound_by g kind.Drop it = dropped g it

-- the arguments are exactly those of the kind, before any key is looked at
abbrev pub bound : Ground → ToolKind → Arguments → Result (Env × ℕ) ArgumentRefusal
bound g kind it = if are_wanted kind it then bound_by g kind it else Err BadArguments

-- ---- a whole tool

-- the number of the tool of a name
unfoldable pub tool_named : Specification → List ℕ → Option ℕ
tool_named spec name = position (λ (it : Tool). same_name it.name name) spec.0.tools

abbrev pub kind_of : Specification → ℕ → Option ToolKind
kind_of spec tool = option_map (λ (it : Tool). it.kind) (slice_get spec.0.tools tool)

unfoldable pub asked : Specification → Ground → (name : List ℕ) → Arguments → Result AskedTool ArgumentRefusal
asked spec g name it =
    ok_or (tool_named spec name) UnknownTool >>= λ tool.
    ok_or (kind_of spec tool) UnknownTool >>= λ kind.
    bound g kind it >>= λ says.
    Ok (record { tool = tool; env = says.0; context = says.1 })
