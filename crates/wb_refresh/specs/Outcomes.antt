-- What the units of a viewpoint give over a model.
use Rattle.std.specs.Prelude.{ℕ, List, [], Result, Ok, Err, is_some, if◌then◌else◌}
use Rattle.std.specs.Option.{option_map_or}
use Rattle.wb_store.specs.Contents.{Contents}
use Rattle.wb_diagram.specs.declared.units.Unit.{Unit}
use Rattle.wb_aql_values.specs.Runs.{Ran}
use Rattle.wb_aql_values.specs.declared.faults.Fault.{Fault}
use Rattle.wb_aql_values.specs.declared.values.Answer.{Answer}
use Rattle.wb_aql_values.specs.declared.values.Answer.TheVariants as a
use Rattle.wb_aql_values.specs.declared.values.Value.{Value}
use Rattle.wb_aql_values.specs.declared.values.Value.TheVariants.{Null}
use Rattle.wb_aql_eval.specs.declared.env.Env.{Env}
use Rattle.wb_aql_eval.specs.declared.env.Outcome.{Outcome}
use Rattle.wb_spec_check.specs.Units.{Expression, expression_of}
use Rattle.wb_answers.specs.Environments.{environment_of}
use Rattle.wb_answers.specs.Seen.{Told}
use Rattle.wb_answers.specs.declared.rows.Row.{Row}
use Rattle.wb_refresh.specs.Subjects.{Setting}

-- what an evaluator gives: the end of the run of an expression in an environment over a model
abbrev pub Gives : Type 0
Gives = Expression → Env → Contents → Ran Value

abbrev pub answer_by : Result Value Fault → Answer
answer_by (Ok value) = a.Value value
answer_by (Err fault) = a.Fault fault

-- the end of a run as an outcome
abbrev pub ended : Ran Value → Outcome
ended ran = record { answer = answer_by ran.gave; reads = ran.reads }

-- null, without reads
abbrev pub nothing : Outcome
nothing = record { answer = a.Value Null; reads = [] }

abbrev pub outcome_by : Gives → Setting → Unit → Expression → Outcome
outcome_by gives s unit e = ended (gives e (environment_of s.root unit e.1) s.model)

-- the outcome of a unit: that of its expression in its environment; a unit that the viewpoint has no expression for gives nothing
unfoldable pub outcome : Gives → Setting → Unit → Outcome
outcome gives s unit = option_map_or (outcome_by gives s unit) (expression_of s.spec unit) nothing

-- the answer of each unit
abbrev pub told : Gives → Setting → Told
told gives s unit = (outcome gives s unit).answer

-- a unit with its outcome
abbrev pub row : Gives → Setting → Unit → Row
row gives s unit = record { unit = unit; outcome = outcome gives s unit }

-- how often a unit's expression is evaluated: once, if it has one
abbrev pub cost : Setting → Unit → ℕ
cost s unit = if is_some (expression_of s.spec unit) then 1 else 0
