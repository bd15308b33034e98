-- What the parts of an expression mean where they stand.
use Rattle.std.specs.Prelude.{ℕ, List, IfOk, Result}
use Rattle.wb_store.specs.declared.scalars.Cell.{Cell}
use Rattle.wb_store.specs.declared.scalars.Scalar.{Scalar}
use Rattle.wb_aql_grammar.specs.Tree.{Tree}
use Rattle.wb_aql_values.specs.declared.faults.Halt.{Halt}
use Rattle.wb_aql_values.specs.declared.values.Value.{Value}
use Rattle.wb_aql_values.specs.Bounds.{IsBounded}
use Rattle.wb_aql_values.specs.Readings.{Reading, contents}
use Rattle.wb_aql_values.specs.Runs.{Ran, run}
use Rattle.wb_aql_eval.specs.declared.scope.Context.{Context}
use Rattle.wb_aql_eval.specs.Meaning.{meaning, of_member}
use Rattle.wb_aql_eval.specs.Scopes.{AreWithin, values_of}

-- the variables have values within their bounds
abbrev pub IsWithin : Context → Type 0
IsWithin context = AreWithin context.model.now.metamodel (values_of context.scope)

-- an expression there
abbrev pub sense_of : Context → Tree → Reading Value
sense_of context x = meaning context.model.now.metamodel x (values_of context.scope)

-- an expression of a member, which a variable names
abbrev pub sense_for : Context → List ℕ → Tree → Scalar → Reading Value
sense_for context variable x = of_member context.model.now.metamodel x variable (values_of context.scope)

-- a reading carried out over the model, after these reads
abbrev pub run_in : {A : Type 0} → Context → Reading A → List Cell → Ran A
run_in context reading reads = run reading (contents context.model.now) reads

-- a value within its bounds
abbrev pub IsValueIn : Context → Value → Type 0
IsValueIn context value = IsBounded context.model.now.metamodel value

-- a value that is given is within its bounds
abbrev pub IsFit : Context → Result Value Halt → Type 0
IsFit context result = IfOk result (IsValueIn context)
