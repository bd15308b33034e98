-- The values of the variables where a part of an expression stands.
use Rattle.std.specs.Prelude.{ℕ, List, slice_get, option_and_then, if◌then◌else◌}
use Rattle.std.specs.Option.{option_map_or}
use Rattle.std.specs.List.{position}
use Rattle.wb_metamodel.specs.Metamodel.{Metamodel, same_name}
use Rattle.wb_aql_values.specs.declared.values.Value.{Value}
use Rattle.wb_aql_values.specs.Bounds.{IsBounded}
use Rattle.wb_aql_values.specs.declared.values.Value.TheVariants.{Null}
use Rattle.wb_aql_eval.specs.declared.env.Env.{Env}
use Rattle.wb_aql_eval.specs.declared.scope.Scope.{Scope, fold-Scope}
use Rattle.wb_aql_eval.specs.declared.scope.Scope.TheOpen.{Scope-F}

-- the value of each name
abbrev pub Values : Type 0
Values = List ℕ → Value

-- those of an environment; a name that it does not bind has null
abbrev pub values_in : Env → Values
values_in env name = option_map_or (λ v. v) (option_and_then (slice_get env.values) (position (λ known. same_name known name) env.names)) Null

-- one more, that is nearer
abbrev pub bound : List ℕ → Value → Values → Values
bound name v values other = if same_name name other then v else values other

abbrev pub scope_step : Scope-F Values → Values
scope_step (Scope-F.Outer env) = values_in env.now
scope_step (Scope-F.Inner outer name v) = bound name.now v.now outer.now

unfoldable pub values_of : Scope → Values
values_of = fold-Scope Values scope_step

-- each variable has a value within its bounds
pub record AreWithin (mm : Metamodel) (values : Values) : Type 0 where
  pub each : (name : List ℕ) → IsBounded mm (values name)
