-- The values of each scope.
use Rattle.std.proofs.Common.{rules, ◌≡◌, ℕ, zero, suc, Bool, true, false, List, [], ◌∷◌, Option, Some, None, Bor, sym, subst, arith, if◌then◌else◌}
use Rattle.std.specs.Prelude.{All, slice_get, option_and_then}
use Rattle.std.specs.Option.{option_map_or}
use Rattle.std.specs.List.{position}
use Rattle.wb_aql_values.specs.declared.values.Value.TheVariants.{Null}
use Rattle.wb_aql_eval.specs.Outcomes.{Binds}
use Rattle.wb_metamodel.specs.Metamodel.{Metamodel, same_name}
use Rattle.wb_aql_values.specs.declared.values.Value.{Value}
use Rattle.wb_aql_values.specs.Bounds.{IsBounded}
use Rattle.wb_aql_eval.specs.Scopes.{Values, values_of, values_in, bound, AreWithin}
use Rattle.wb_aql_eval.specs.declared.env.Env.{Env}
use Rattle.wb_aql_eval.specs.declared.scope.Scope.{Scope, Outer, Inner, the_lemmas}

pub values_outer : (env : Bor Env) → values_of (Outer env) ≡ values_in env.now
unfolding values_of
values_outer env = search (rules, the_lemmas)

pub values_inner : (outer : Bor Scope) (name : Bor (List ℕ)) (v : Bor Value) → values_of (Inner outer name v) ≡ bound name.now v.now (values_of outer.now)
unfolding values_of
values_inner outer name v = search (rules, the_lemmas)

-- one more value within its bounds
pub bound_within : (mm : Metamodel) (name : List ℕ) (v : Value) (env : Values) → AreWithin mm env → IsBounded mm v → AreWithin mm (bound name v env)
bound_within mm name v env h b = record { each = λ other. one other (same_name name other) }
  where
    one : (other : List ℕ) (same : Bool) → IsBounded mm (if same then v else env other)
    one other true = b
    one other false = h.each other

pub inner_within : (mm : Metamodel) (outer : Bor Scope) (name : Bor (List ℕ)) (v : Bor Value) → AreWithin mm (values_of outer.now) → IsBounded mm v.now → AreWithin mm (values_of (Inner outer name v))
inner_within mm outer name v h b = subst (λ values. AreWithin mm values) (sym (values_inner outer name v)) (bound_within mm name.now v.now (values_of outer.now) h b)

-- ---- the variables of a whole expression

value_at : (mm : Metamodel) (values : List Value) (place : Option ℕ) → All (IsBounded mm) values → IsBounded mm (option_map_or (λ v. v) (option_and_then (slice_get values) place) Null)
value_at mm values None h = tt
value_at mm values (Some k) h = one values k h
  where
    one : (values : List Value) (k : ℕ) → All (IsBounded mm) values → IsBounded mm (option_map_or (λ (v : Value). v) (slice_get values k) Null)
    one [] k h = tt
    one (v ∷ vs) zero h = h 0 v (omega arith)
    one (v ∷ vs) (suc k) h = one vs k (λ j d below. h (suc j) d (omega arith))

pub binds_within : (mm : Metamodel) (scope : List (List ℕ)) (env : Env) → Binds mm scope env → AreWithin mm (values_in env)
binds_within mm scope env b = record { each = λ name. value_at mm env.values (position (λ known. same_name known name) env.names) b.bounded }

pub outer_within : (mm : Metamodel) (scope : List (List ℕ)) (env : Bor Env) → Binds mm scope env.now → AreWithin mm (values_of (Outer env))
outer_within mm scope env b = subst (λ values. AreWithin mm values) (sym (values_outer env)) (binds_within mm scope env.now b)
