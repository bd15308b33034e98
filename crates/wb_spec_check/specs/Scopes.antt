-- The variables in scope of an expression, by its place in a viewpoint.
use Rattle.std.specs.Prelude.{ℕ, List, [], ◌∷◌, ◌++◌, codes}
use Rattle.wb_viewpoint.specs.declared.operations.Action.{Action}
use Rattle.wb_viewpoint.specs.declared.operations.Action.TheVariants as a
use Rattle.wb_viewpoint.specs.declared.tools.ToolKind.{ToolKind}
use Rattle.wb_viewpoint.specs.declared.tools.ToolKind.TheVariants as tool

abbrev pub own_scope : List (List ℕ)
own_scope = codes "self" ∷ []

-- in the precondition of a node, container, list or border
abbrev pub container_scope : List (List ℕ)
container_scope = codes "self" ∷ codes "container" ∷ []

-- the variables of a tool, by its kind
unfoldable pub tool_scope : ToolKind → List (List ℕ)
tool_scope tool.NodeCreation = codes "self" ∷ codes "container" ∷ []
tool_scope tool.EdgeCreation = codes "self" ∷ codes "source" ∷ codes "target" ∷ []
tool_scope tool.Delete = codes "self" ∷ codes "element" ∷ []
tool_scope tool.DirectEdit = codes "self" ∷ codes "element" ∷ codes "arg0" ∷ []
tool_scope tool.Reconnect = codes "self" ∷ codes "element" ∷ codes "end" ∷ codes "oldEnd" ∷ codes "newEnd" ∷ []
tool_scope tool.Drop = codes "self" ∷ codes "element" ∷ codes "oldContainer" ∷ codes "newContainer" ∷ []

-- inside an operation also what it binds
abbrev pub scope_inside : List (List ℕ) → Action → List (List ℕ)
scope_inside scope (a.ChangeContext browse) = scope
scope_inside scope (a.CreateInstance reference class variable) = scope ++ (variable ∷ [])
scope_inside scope (a.Set feature value) = scope
scope_inside scope (a.Unset feature value) = scope
scope_inside scope (a.Move to reference) = scope
scope_inside scope a.Remove = scope
scope_inside scope (a.For items iterator) = scope ++ (iterator ∷ [])
scope_inside scope (a.If condition) = scope
