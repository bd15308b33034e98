-- What a checked viewpoint promises of a tool: its expressions were checked in the names of their places, and the variables there bind these names.
use Rattle.std.specs.Prelude.{◌≡◌, ⊤, ◌<◌, ℕ, suc, ◌+◌, List, ◌∷◌, ◌++◌, [], drop, length, codes, IfSome, slice_get}
use Rattle.std.specs.Option.{option_map_or}
use Rattle.wb_metamodel.specs.Metamodel.{Metamodel}
use Rattle.wb_aql_check.specs.Checked.{IsChecked}
use Rattle.wb_aql_eval.specs.Outcomes.{Binds}
use Rattle.wb_aql_eval.specs.declared.env.Env.{Env}
use Rattle.wb_viewpoint.specs.OperationTrees.{Trees, operation, no_trees, trees, count_all}
use Rattle.wb_viewpoint.specs.declared.tools.Tool.{Tool}
use Rattle.wb_spec_check.specs.Checked.{Specification}
use Rattle.wb_spec_check.specs.Scopes.{scope_inside, tool_scope}
use Rattle.wb_spec_check.specs.Units.{Expression, tool_expression, class_of_operation}

-- the variables of a tool by its kind, without `self`
abbrev pub variables_of : Specification → ℕ → List (List ℕ)
variables_of spec tool = option_map_or (λ (it : Tool). drop 1 (tool_scope it.kind)) (slice_get spec.0.tools tool) []

abbrev pub with_self : List (List ℕ) → List (List ℕ)
with_self names = codes "self" ∷ names

-- an expression was checked in a scope
abbrev pub Fits : Metamodel → List (List ℕ) → Expression → Type 0
Fits mm scope e = (e.1 ≡ scope) × IsChecked mm e

-- the expression at a place was checked there, and the class that is made is one of the metamodel
abbrev pub FitsAt : Metamodel → Specification → (tool place : ℕ) → List (List ℕ) → Type 0
FitsAt mm spec tool place scope =
    IfSome (tool_expression spec tool place) (Fits mm scope) × IfSome (class_of_operation spec tool place) (λ class. class < length mm.classes)

-- so it is of operations, and of those inside
unfoldable pub AreFit : Metamodel → Specification → (tool place : ℕ) → List (List ℕ) → Trees → Type 0
AreFit mm spec tool place scope no_trees = ⊤
AreFit mm spec tool place scope (trees (operation number action inside) xs) =
    FitsAt mm spec tool place scope
    × AreFit mm spec tool (place + 1) (scope_inside scope action) inside
    × AreFit mm spec tool (place + suc (count_all inside)) scope xs

-- the expression at a place may be evaluated with these variables
pub record IsReady (mm : Metamodel) (spec : Specification) (tool place : ℕ) (env : Env) : Type 0 where
  pub names : List (List ℕ)
  pub binds : Binds mm (with_self names) env
  pub fits : FitsAt mm spec tool place (with_self names)

-- operations may be performed with these variables
pub record AreReady (mm : Metamodel) (spec : Specification) (tool place : ℕ) (operations : Trees) (env : Env) : Type 0 where
  pub names : List (List ℕ)
  pub binds : Binds mm (with_self names) env
  pub fit : AreFit mm spec tool place (with_self names) operations

-- an operation may be performed with these variables, and those inside, whose scope follows from that of the operation
pub record IsReadyAround (mm : Metamodel) (spec : Specification) (tool place : ℕ) (inner : List (List ℕ) → List (List ℕ)) (inside : Trees) (env : Env) : Type 0 where
  pub names : List (List ℕ)
  pub binds : Binds mm (with_self names) env
  pub fits : FitsAt mm spec tool place (with_self names)
  pub fit : AreFit mm spec tool (place + 1) (inner (with_self names)) inside

-- those inside have the scope of the operation, or one variable more
abbrev pub same_scope : List (List ℕ) → List (List ℕ)
same_scope scope = scope

abbrev pub one_more : List ℕ → List (List ℕ) → List (List ℕ)
one_more name scope = scope ++ name ∷ []
