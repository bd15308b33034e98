-- A whole tool: its precondition, and its operations one after another, over whole models.
use Rattle.std.specs.Prelude.{ℕ, suc, ◌+◌, slice_get, Option, Some, None, Result, Ok, Err, Bool, true, false}
use Rattle.std.specs.Option.{option_map_or}
use Rattle.wb_base.specs.Results.{◌>>=◌}
use Rattle.wb_store.specs.Contents.{Contents}
use Rattle.wb_aql_values.specs.declared.values.Value.{Value}
use Rattle.wb_aql_eval.specs.declared.env.Env.{Env}
use Rattle.wb_viewpoint.specs.OperationTrees.{Trees, operation, no_trees, trees, count_all}
use Rattle.wb_viewpoint.specs.declared.tools.Tool.{Tool}
use Rattle.wb_spec_check.specs.Checked.{Specification}
use Rattle.wb_spec_check.specs.Units.{Expression, tool_expression}
use Rattle.wb_tools.specs.Bindings.{in_context}
use Rattle.wb_tools.specs.Doings.{Doing, done, asked, given, after}
use Rattle.wb_tools.specs.Operations.{act, truth_at}
use Rattle.wb_tools.specs.Runs.{Ended, went, stopped, Outcomes, run, total, work}
use Rattle.wb_tools.specs.declared.refusals.ToolRefusal.{ToolRefusal}
use Rattle.wb_tools.specs.declared.refusals.ToolRefusal.TheVariants.{PreconditionFalse}

-- operations one after another, of which the first has this place: places are counted through those inside
unfoldable pub perform : Specification → (tool place : ℕ) → Trees → Env → (context : ℕ) → Doing Unit
perform spec tool place no_trees env o = done tt
perform spec tool place (trees (operation number action inside) xs) env o =
    after (act spec tool place action (perform spec tool (place + 1) inside) env o) (λ _. perform spec tool (place + suc (count_all inside)) xs env o)

abbrev pub permitted : Bool → Result Unit ToolRefusal
permitted true = Ok tt
permitted false = Err PreconditionFalse

-- a precondition is true
abbrev pub permit : Value → Result Unit ToolRefusal
permit v = truth_at 0 v >>= permitted

abbrev pub permission_of : Option Expression → Env → Doing Unit
permission_of (Some e) env = after (asked 0 e env) (λ v. given (permit v))
permission_of None env = done tt

-- the precondition has place 0, and may be absent
unfoldable pub permission : Specification → (tool : ℕ) → Env → Doing Unit
permission spec tool env = permission_of (tool_expression spec tool 0) env

abbrev pub operations_of : Specification → ℕ → Trees
operations_of spec tool = option_map_or (λ (it : Tool). it.operations) (slice_get spec.0.tools tool) no_trees

unfoldable pub tool_of : Specification → (tool : ℕ) → Env → (context : ℕ) → Doing Unit
tool_of spec tool env o = after (permission spec tool (in_context o env)) (λ _. perform spec tool 1 (operations_of spec tool) (in_context o env) o)

-- a tool over a model, from no counts; the variables are those of its kind, without `self`
unfoldable pub ended : Outcomes → Specification → (tool : ℕ) → Env → (context : ℕ) → Contents → Ended Unit
ended out spec tool env o m = run out (tool_of spec tool env o) (work m (record { edits = 0; expressions = 0 }))

abbrev pub accepted : Ended Unit → Result (Contents × ℕ) ToolRefusal
accepted (went x w) = Ok (w.model, w.tally.expressions)
accepted (stopped refusal n) = Err refusal

-- the model that a tool makes, and how many expressions are evaluated; or the first refusal that it meets
unfoldable pub ran : Outcomes → Specification → (tool : ℕ) → Env → (context : ℕ) → Contents → Result (Contents × ℕ) ToolRefusal
ran out spec tool env o m = accepted (ended out spec tool env o m)

-- how many expressions are evaluated, up to a refusal too
unfoldable pub evaluations : Outcomes → Specification → (tool : ℕ) → Env → (context : ℕ) → Contents → ℕ
evaluations out spec tool env o m = total (ended out spec tool env o m)
