-- What the call that runs a tool answers, and leaves.
use Rattle.std.specs.Prelude.{◌≡◌, ⊤, ℕ, ◌+◌, ◌≤◌, Option, Some, None, Result, Ok, Err}
use Rattle.wb_base.specs.Answering.{IsRefusal}
use Rattle.wb_store.specs.Contents.{Contents}
use Rattle.wb_model.specs.declared.refusals.ModelRefusal.TheVariants as model
use Rattle.wb_tools.specs.Runs.{named}
use Rattle.wb_tools.specs.declared.refusals.ToolRefusal.{ToolRefusal}
use Rattle.wb_tools.specs.declared.refusals.ToolRefusal.TheVariants.{Model}

-- an accepted tool leaves the model of its definition, with its count; a refusal is that of the definition, and leaves the model as before, want of memory too
abbrev pub Ran : Result ℕ ToolRefusal → Result (Contents × ℕ) ToolRefusal → Contents → Contents → Type 0
Ran (Ok n) tool old new = tool ≡ Ok (new, n)
Ran (Err refusal) tool old new = IsRefusal (named refusal) tool × (new ≡ old)

abbrev pub Rose : Option ToolRefusal → ℕ → ℕ → ℕ → Type 0
Rose (Some refusal) evaluations old new = new ≡ old + evaluations
Rose None evaluations old new = new ≤ old + evaluations

-- a count rose by the expressions that were evaluated, and for want of memory by at most those
abbrev pub Counted : Result ℕ ToolRefusal → ℕ → ℕ → ℕ → Type 0
Counted (Ok n) evaluations old new = new ≡ old + evaluations
Counted (Err refusal) evaluations old new = Rose (named refusal) evaluations old new

-- want of memory is told as such, and never as the refusal of an edit
abbrev pub IsPlain : ToolRefusal → Type 0
IsPlain (Model place model.NoMemory) = ⊥
IsPlain _ = ⊤
