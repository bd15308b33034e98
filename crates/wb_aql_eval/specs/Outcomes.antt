-- What is evaluated as a whole gives over a model, and the cells that it reads.
use Rattle.std.specs.Prelude.{◌≡◌, ℕ, List, [], length, map, All}
use Rattle.std.specs.List.{list_any, IsDistinct}
use Rattle.wb_base.specs.Names.{same_name}
use Rattle.wb_metamodel.specs.Metamodel.{Metamodel}
use Rattle.wb_store.specs.declared.scalars.Scalar.TheVariants.{Object}
use Rattle.wb_store.specs.declared.scalars.Cell.TheVariants.{Extent}
use Rattle.wb_store.specs.Contents.{Contents}
use Rattle.wb_aql_check.specs.declared.checked.Origin.{Origin}
use Rattle.wb_aql_check.specs.declared.checked.Origin.TheVariants as o
use Rattle.wb_aql_values.specs.declared.values.Sort.TheVariants as sort
use Rattle.wb_aql_values.specs.declared.values.Value.{Value}
use Rattle.wb_aql_values.specs.declared.values.Value.TheVariants.{Sequence, OrderedSet}
use Rattle.wb_aql_values.specs.Bounds.{IsBounded}
use Rattle.wb_aql_values.specs.Values.{put}
use Rattle.wb_aql_values.specs.Readings.{Reading, done, held, given, contents, ◌>>=◌}
use Rattle.wb_aql_values.specs.Runs.{Ran, run, answered}
use Rattle.wb_aql_eval.specs.declared.env.Env.{Env}
use Rattle.wb_aql_eval.specs.declared.env.Outcome.{Outcome}
use Rattle.wb_aql_eval.specs.Scopes.{values_in}
use Rattle.wb_aql_eval.specs.Meaning.{meaning}

-- the live objects that conform to a class, as an ordered set
unfoldable pub objects_of : ℕ → Reading Value
objects_of class = held (Extent class) >>= λ os. given (put sort.OrderedSet [] (Sequence (map Object os))) >>= λ xs. done (OrderedSet xs)

-- an expression by its meaning; where it is absent, the objects of the class
unfoldable pub sense : Metamodel → Origin → Env → Reading Value
sense mm (o.Expr x) env = meaning mm x (values_in env)
sense mm (o.Extent class) env = objects_of class

-- the run over a model, from no reads
unfoldable pub outcome_of : Origin × List (List ℕ) → Env → Contents → Ran Value
outcome_of checked env m = run (sense m.metamodel checked.0 env) (contents m) []

-- an outcome as the end of a run
abbrev pub ran : Outcome → Ran Value
ran outcome = record { gave = answered outcome.answer; reads = outcome.reads }

-- the environment binds exactly the names of a scope, each once, in any order, and with one value that is within its bounds
pub record Binds (mm : Metamodel) (scope : List (List ℕ)) (env : Env) : Type 0 where
  pub names : (name : List ℕ) → list_any (same_name name) env.names ≡ list_any (same_name name) scope
  pub once : IsDistinct same_name env.names
  pub paired : length env.values ≡ length env.names
  pub bounded : All (IsBounded mm) env.values
