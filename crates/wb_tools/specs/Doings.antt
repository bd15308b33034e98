-- What a tool does, step by step: it asks for expressions and for edits, and looks at the model. No model stands in it.
use Rattle.std.specs.Prelude.{ℕ, List, [], ◌∷◌, Result, Ok, Err}
use Rattle.wb_store.specs.Contents.{Contents}
use Rattle.wb_model.specs.declared.edits.edit.Edit.{Edit}
use Rattle.wb_model.specs.declared.refusals.ModelRefusal.{ModelRefusal}
use Rattle.wb_aql_values.specs.declared.values.Value.{Value}
use Rattle.wb_aql_eval.specs.declared.env.Env.{Env}
use Rattle.wb_spec_check.specs.Units.{Expression}
use Rattle.wb_tools.specs.declared.refusals.ToolRefusal.{ToolRefusal}

-- it ends with what it gives or with a refusal, or asks for an expression or an edit at a place and goes on by what comes back:
-- the value of the expression, or the number that was next before the edit. What is asked for may be no edit at all, and is refused then.
pub data Doing (A : Type 0) : Type 0 where
  done : A → Doing A
  refuse : ToolRefusal → Doing A
  evaluate : (place : ℕ) → Expression → Env → (Value → Doing A) → Doing A
  edit : (place : ℕ) → Result Edit ModelRefusal → (ℕ → Doing A) → Doing A
  look : (Contents → Doing A) → Doing A

infixl 20 ◌>>=◌
unfoldable pub ◌>>=◌ : {A B : Type 0} → Doing A → (A → Doing B) → Doing B
◌>>=◌ (done x) next = next x
◌>>=◌ (refuse refusal) next = refuse refusal
◌>>=◌ (evaluate place e env onward) next = evaluate place e env (λ v. onward v >>= next)
◌>>=◌ (edit place change onward) next = edit place change (λ o. onward o >>= next)
◌>>=◌ (look onward) next = look (λ m. onward m >>= next)

-- one after another, by a name that clauses can have
abbrev pub after : {A B : Type 0} → Doing A → (A → Doing B) → Doing B
after doing next = doing >>= next

abbrev pub asked : ℕ → Expression → Env → Doing Value
asked place e env = evaluate place e env done

abbrev pub edited : ℕ → Result Edit ModelRefusal → Doing ℕ
edited place change = edit place change done

-- what needs no step
abbrev pub given : {A : Type 0} → Result A ToolRefusal → Doing A
given (Ok x) = done x
given (Err refusal) = refuse refusal

-- a step for each of a list in turn
unfoldable pub each : {A X : Type 0} → (X → Doing A) → List X → Doing Unit
each step [] = done tt
each step (x ∷ xs) = step x >>= λ _. each step xs
