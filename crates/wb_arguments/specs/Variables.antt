-- The variables of a tool, by its kind, with their values.
use Rattle.std.specs.Prelude.{◌≡◌, ℕ, List, [], ◌∷◌, ◌++◌, length, map, drop, codes, All}
use Rattle.wb_metamodel.specs.Metamodel.{Metamodel}
use Rattle.wb_store.specs.declared.scalars.Scalar.TheVariants.{Text, Object}
use Rattle.wb_diagram.specs.declared.commands.End.{End}
use Rattle.wb_diagram.specs.declared.commands.End.TheVariants.{Source, Target}
use Rattle.wb_viewpoint.specs.declared.tools.ToolKind.{ToolKind}
use Rattle.wb_spec_check.specs.Scopes.{tool_scope}
use Rattle.wb_aql_values.specs.Bounds.{IsBounded}
use Rattle.wb_aql_values.specs.declared.values.Value.{Value}
use Rattle.wb_aql_values.specs.declared.values.Value.TheVariants.{One}
use Rattle.wb_aql_eval.specs.declared.env.Env.{Env}

abbrev pub object : ℕ → Value
object o = One (Object o)

abbrev pub words : List ℕ → Value
words text = One (Text text)

-- these names with these values, in order
abbrev pub variables : List (List ℕ × Value) → Env
variables bindings = record { names = map (λ (it : List ℕ × Value). it.0) bindings; values = map (λ (it : List ℕ × Value). it.1) bindings }

-- one variable more, last
abbrev pub also : Env → List ℕ → Value → Env
also env name x = record { names = env.names ++ name ∷ []; values = env.values ++ x ∷ [] }

-- ---- by kind

abbrev pub created : (container : ℕ) → Env
created container = variables ((codes "container", object container) ∷ [])

abbrev pub connected : (source target : ℕ) → Env
connected source target = variables ((codes "source", object source) ∷ (codes "target", object target) ∷ [])

abbrev pub deleted : (element : ℕ) → Env
deleted element = variables ((codes "element", object element) ∷ [])

abbrev pub edited : (element : ℕ) → (text : List ℕ) → Env
edited element text = variables ((codes "element", object element) ∷ (codes "arg0", words text) ∷ [])

abbrev pub end_name : End → List ℕ
end_name Source = codes "source"
end_name Target = codes "target"

abbrev pub reconnected : (element : ℕ) → End → (old new : ℕ) → Env
reconnected element end old new =
    variables ((codes "element", object element) ∷ (codes "end", words (end_name end)) ∷ (codes "oldEnd", object old) ∷ (codes "newEnd", object new) ∷ [])

abbrev pub dropped_to : (element old new : ℕ) → Env
dropped_to element old new =
    variables ((codes "element", object element) ∷ (codes "oldContainer", object old) ∷ (codes "newContainer", object new) ∷ [])

-- ---- what is true of them

-- all variables of the kind but `self`, in the order of its scope, each with a value that is within its bounds
pub record AreOf (mm : Metamodel) (kind : ToolKind) (env : Env) : Type 0 where
  pub names : env.names ≡ drop 1 (tool_scope kind)
  pub paired : length env.values ≡ length env.names
  pub bounded : All (IsBounded mm) env.values
