-- What is done on a model, with the two counts.
use Rattle.std.specs.Prelude.{◌≡◌, ℕ, ◌+◌, ◌≤◌, nat_le, true, false, if◌then◌else◌, option_map, Option, Some, None, Result, Ok, Err}
use Rattle.wb_store.specs.Contents.{Contents}
use Rattle.wb_model.specs.Edits as model
use Rattle.wb_model.specs.GivenEdits.{edit_of}
use Rattle.wb_model.specs.declared.edits.edit.Edit.{Edit}
use Rattle.wb_model.specs.declared.refusals.ModelRefusal.{ModelRefusal}
use Rattle.wb_aql_values.specs.Runs.{Ran}
use Rattle.wb_aql_values.specs.declared.faults.Fault.{Fault}
use Rattle.wb_aql_values.specs.declared.values.Value.{Value}
use Rattle.wb_aql_eval.specs.declared.env.Env.{Env}
use Rattle.wb_spec_check.specs.Units.{Expression}
use Rattle.wb_tools.specs.Doings.{Doing, done, refuse, evaluate, edit, look}
use Rattle.wb_tools.specs.declared.refusals.ToolRefusal.{ToolRefusal}
use Rattle.wb_tools.specs.declared.refusals.ToolRefusal.TheVariants.{PreconditionFalse, Evaluation, BadContext, Model, ToolTooLong, NoMemory}
use Rattle.wb_tools.specs.declared.tally.Tally.{Tally}

-- the outcome of each expression
abbrev pub Outcomes : Type 0
Outcomes = Expression → Env → Contents → Ran Value

-- a model, and how many edits and expressions were asked for
pub record Work : Type 0 where
  pub model : Contents
  pub tally : Tally

abbrev pub work : Contents → Tally → Work
work m t = record { model = m; tally = t }

-- the end: what is given with the work as it then stands, or a refusal with the expressions asked up to it
pub data Ended (A : Type 0) : Type 0 where
  went : A → Work → Ended A
  stopped : ToolRefusal → ℕ → Ended A

-- the expressions asked up to the end
abbrev pub total : {A : Type 0} → Ended A → ℕ
total (went x w) = w.tally.expressions
total (stopped refusal n) = n

abbrev pub one_expression_more : Tally → Tally
one_expression_more t = record { edits = t.edits; expressions = t.expressions + 1 }

abbrev pub one_edit_more : Tally → Tally
one_edit_more t = record { edits = t.edits + 1; expressions = t.expressions }

abbrev pub answer_at : ℕ → Result Value Fault → Work → Ended Value
answer_at place (Ok v) w = went v w
answer_at place (Err fault) w = stopped (Evaluation place fault) w.tally.expressions

-- an expression is counted, unless it is the 1,000,001st
unfoldable pub evaluated : Outcomes → ℕ → Expression → Env → Work → Ended Value
evaluated out place e env w =
    if nat_le 1000000 w.tally.expressions
    then stopped ToolTooLong w.tally.expressions
    else answer_at place (out e env w.model).gave (work w.model (one_expression_more w.tally))

-- what is asked for makes this of a model; what is no edit is refused
abbrev pub made : Result Edit ModelRefusal → Contents → Result Contents ModelRefusal
made (Ok change) m = edit_of change m
made (Err refusal) m = Err refusal

abbrev pub edit_at : ℕ → ℕ → Result Contents ModelRefusal → Tally → Ended ℕ
edit_at place o (Ok m) t = went o (work m t)
edit_at place o (Err refusal) t = stopped (Model place refusal) t.expressions

-- an edit is counted before it is looked at, unless it is the 10,001st
unfoldable pub changed : ℕ → Result Edit ModelRefusal → Work → Ended ℕ
changed place change w =
    if nat_le 10000 w.tally.edits
    then stopped ToolTooLong w.tally.expressions
    else edit_at place w.model.next (made change w.model) (one_edit_more w.tally)

-- what comes after an end
abbrev pub onward : {A B : Type 0} → Ended A → (A → Work → Ended B) → Ended B
onward (went x w) next = next x w
onward (stopped refusal n) next = stopped refusal n

unfoldable pub run : {A : Type 0} → Outcomes → Doing A → Work → Ended A
run out (done x) w = went x w
run out (refuse refusal) w = stopped refusal w.tally.expressions
run out (evaluate place e env next) w = onward (evaluated out place e env w) (λ v. run out (next v))
run out (edit place change next) w = onward (changed place change w) (λ o. run out (next o))
run out (look next) w = run out (next w.model) w

-- ---- what the code answers

-- the refusal of an error; want of memory is none, also that of an edit
abbrev pub named : ToolRefusal → Option ToolRefusal
named PreconditionFalse = Some PreconditionFalse
named (Evaluation place fault) = Some (Evaluation place fault)
named (BadContext place) = Some (BadContext place)
named (Model place refusal) = option_map (Model place) (model.named refusal)
named ToolTooLong = Some ToolTooLong
named NoMemory = None

-- the end is this refusal, after so many expressions; where none is named, no more were asked than up to the end
abbrev pub IsStop : {A : Type 0} → Option ToolRefusal → Ended A → Tally → Type 0
IsStop (Some refusal) ended t = ended ≡ stopped refusal t.expressions
IsStop None ended t = t.expressions ≤ total ended

-- the end gave this, and left this model and these counts
abbrev pub Went : {A : Type 0} → Ended A → Result A ToolRefusal → Contents → Tally → Type 0
Went ended (Ok x) m t = ended ≡ went x (work m t)
Went ended (Err refusal) m t = IsStop (named refusal) ended t

-- one edit more was asked for, unless it is one too many
abbrev pub Counts : Result Unit ToolRefusal → Tally → Tally → Type 0
Counts (Ok _) old new = (new ≡ one_edit_more old) × (nat_le 10000 old.edits ≡ false)
Counts (Err refusal) old new = (refusal ≡ ToolTooLong) × (new ≡ old) × (nat_le 10000 old.edits ≡ true)
