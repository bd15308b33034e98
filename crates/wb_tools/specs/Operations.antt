-- What each operation does.
use Rattle.std.specs.Prelude.{ℕ, List, Option, Some, None, Result, Ok, Err, Bool, if◌then◌else◌}
use Rattle.wb_store.specs.LinkSteps.{first_object}
use Rattle.wb_store.specs.declared.scalars.Scalar.{Scalar}
use Rattle.wb_store.specs.declared.scalars.Scalar.TheVariants.{Bool as Boolean}
use Rattle.wb_model.specs.declared.edits.edit.Edit.TheVariants.{Remove}
use Rattle.wb_aql_values.specs.Values.{members}
use Rattle.wb_aql_values.specs.declared.faults.Fault.TheVariants.{NotBool}
use Rattle.wb_aql_values.specs.declared.values.Value.{Value}
use Rattle.wb_aql_values.specs.declared.values.Value.TheVariants.{Null, One}
use Rattle.wb_aql_eval.specs.declared.env.Env.{Env}
use Rattle.wb_viewpoint.specs.declared.operations.Action.{Action}
use Rattle.wb_viewpoint.specs.declared.operations.Action.TheVariants as a
use Rattle.wb_spec_check.specs.Checked.{Specification}
use Rattle.wb_spec_check.specs.Units.{Expression, tool_expression, class_of_operation}
use Rattle.wb_tools.specs.Bindings.{in_context, inside_with, context_with}
use Rattle.wb_tools.specs.Doings.{Doing, done, look, asked, edited, given, each, after, ◌>>=◌}
use Rattle.wb_tools.specs.FeatureEdits.{creation, edit_by, moving, set_all, take_all, unset_all}
use Rattle.wb_tools.specs.declared.refusals.ToolRefusal.{ToolRefusal}
use Rattle.wb_tools.specs.declared.refusals.ToolRefusal.TheVariants.{Evaluation, BadContext}
use Rattle.wb_store.specs.declared.scalars.Scalar.TheVariants.{Object}

-- ---- what an expression is asked for

abbrev pub asked_of : ℕ → Option Expression → Env → Doing Value
asked_of place (Some e) env = asked place e env
asked_of place None env = done Null

-- the value of the expression at a place of a tool; where there is none, which is so in no viewpoint that was checked, it is null
unfoldable pub asked_at : Specification → (tool place : ℕ) → Env → Doing Value
asked_at spec tool place env = asked_of place (tool_expression spec tool place) env

-- an object, or the first member of a collection, that is to be the context
abbrev pub context_in : ℕ → Value → Result ℕ ToolRefusal
context_in place v = elim (first_object (members v)) [ None ↦ Err (BadContext place) | Some o ↦ Ok o ]

abbrev pub truth_at : ℕ → Value → Result Bool ToolRefusal
truth_at place (One (Boolean b)) = Ok b
truth_at place _ = Err (Evaluation place NotBool)

unfoldable pub context_at : Specification → (tool place : ℕ) → Env → Doing ℕ
context_at spec tool place env = asked_at spec tool place env >>= λ v. given (context_in place v)

unfoldable pub condition_at : Specification → (tool place : ℕ) → Env → Doing Bool
condition_at spec tool place env = asked_at spec tool place env >>= λ v. given (truth_at place v)

-- ---- the operations, by what those inside do with variables and a context

abbrev pub Inside : Type 0
Inside = Env → (context : ℕ) → Doing Unit

unfoldable pub change_context : Specification → (tool place : ℕ) → Inside → Env → Doing Unit
change_context spec tool place inside env = context_at spec tool place env >>= λ p. inside (in_context p env) p

abbrev pub creating : ℕ → Option ℕ → List ℕ → List ℕ → Inside → Env → ℕ → Doing Unit
creating place (Some class) reference variable inside env o =
    after (look (λ m. edited place (creation m o class reference))) (λ p. inside (inside_with variable (Object p) p env) p)
creating place None reference variable inside env o = done tt

-- the number of the new object is the one that was next; a class is missing in no viewpoint that was checked
unfoldable pub create_instance : Specification → (tool place : ℕ) → (reference variable : List ℕ) → Inside → Env → ℕ → Doing Unit
create_instance spec tool place reference variable inside env o = creating place (class_of_operation spec tool place) reference variable inside env o

unfoldable pub set : Specification → (tool place : ℕ) → List ℕ → Env → ℕ → Doing Unit
set spec tool place feature env o = asked_at spec tool place env >>= λ v. set_all place o feature (members v)

abbrev pub unsetting : ℕ → Option Expression → List ℕ → Env → ℕ → Doing Unit
unsetting place (Some e) feature env o = after (asked place e env) (λ v. take_all place o feature (members v))
unsetting place None feature env o = unset_all place o feature

unfoldable pub unset : Specification → (tool place : ℕ) → List ℕ → Env → ℕ → Doing Unit
unset spec tool place feature env o = unsetting place (tool_expression spec tool place) feature env o

unfoldable pub move : Specification → (tool place : ℕ) → List ℕ → Env → ℕ → Doing Unit
move spec tool place reference env o = context_at spec tool place env >>= λ p. look (λ m. edit_by place (moving m o p reference))

-- a turn with this item
abbrev pub turn : List ℕ → Inside → Env → ℕ → Scalar → Doing Unit
turn iterator inside env o x = inside (inside_with iterator x (context_with x o) env) (context_with x o)

-- the items are evaluated once, before the first turn
unfoldable pub for_each : Specification → (tool place : ℕ) → (iterator : List ℕ) → Inside → Env → ℕ → Doing Unit
for_each spec tool place iterator inside env o = asked_at spec tool place env >>= λ v. each (turn iterator inside env o) (members v)

unfoldable pub if_true : Specification → (tool place : ℕ) → Inside → Env → ℕ → Doing Unit
if_true spec tool place inside env o = condition_at spec tool place env >>= λ b. if b then inside env o else done tt

unfoldable pub act : Specification → (tool place : ℕ) → Action → Inside → Env → ℕ → Doing Unit
act spec tool place (a.ChangeContext browse) inside env o = change_context spec tool place inside env
act spec tool place (a.CreateInstance reference class variable) inside env o = create_instance spec tool place reference variable inside env o
act spec tool place (a.Set feature value) inside env o = set spec tool place feature env o
act spec tool place (a.Unset feature value) inside env o = unset spec tool place feature env o
act spec tool place (a.Move to reference) inside env o = move spec tool place reference env o
act spec tool place a.Remove inside env o = edit_by place (Ok (Remove o))
act spec tool place (a.For items iterator) inside env o = for_each spec tool place iterator inside env o
act spec tool place (a.If condition) inside env o = if_true spec tool place inside env o
