-- The environment of a unit binds the scope of its expression.
use Rattle.std.proofs.Common.{◌≡◌, ℕ, List, [], ◌∷◌, refl, sym, subst, ⊎_elim}
use Rattle.std.specs.List.{IsDistinct}
use Rattle.std.proofs.lemmas.List.Elements.{All-nil, All-cons}
use Rattle.wb_metamodel.specs.Metamodel.{Metamodel}
use Rattle.wb_store.specs.declared.scalars.Scalar.TheVariants.{Object}
use Rattle.wb_aql_values.specs.Bounds.{IsBounded}
use Rattle.wb_aql_values.specs.declared.values.Value.{Value}
use Rattle.wb_aql_values.specs.declared.values.Value.TheVariants.{One}
use Rattle.wb_aql_eval.specs.Outcomes.{Binds}
use Rattle.wb_diagram.specs.declared.units.Unit.{Unit as Place}
use Rattle.wb_spec_check.specs.Scopes.{own_scope, container_scope}
use Rattle.wb_answers.specs.Environments.{container_of, environment_of, self_of}
use Rattle.wb_answers.specs.UnitExpressions.{IsUnitScope}

abbrev held : ℕ → Value
held o = One (Object o)

binds_none : (mm : Metamodel) (root : ℕ) (unit : Place) → Binds mm [] (environment_of root unit [])
unfolding environment_of IsDistinct
binds_none mm root unit = record { names = λ name. refl; once = tt; paired = refl; bounded = All-nil (IsBounded mm) }

binds_own : (mm : Metamodel) (root : ℕ) (unit : Place) → Binds mm own_scope (environment_of root unit own_scope)
unfolding environment_of IsDistinct
binds_own mm root unit = record {
  names = λ name. refl;
  once = (tt, tt);
  paired = refl;
  bounded = All-cons (IsBounded mm) (held (self_of root unit)) [] refl (All-nil (IsBounded mm));
}

binds_container : (mm : Metamodel) (root : ℕ) (unit : Place) → Binds mm container_scope (environment_of root unit container_scope)
unfolding environment_of IsDistinct
binds_container mm root unit = record {
  names = λ name. refl;
  once = ((refl, tt), (tt, tt));
  paired = refl;
  bounded = All-cons (IsBounded mm) (held (self_of root unit)) (held (container_of root unit) ∷ []) refl (All-cons (IsBounded mm) (held (container_of root unit)) [] refl (All-nil (IsBounded mm)));
}

pub binds : (mm : Metamodel) (root : ℕ) (unit : Place) (scope : List (List ℕ)) → IsUnitScope scope → Binds mm scope (environment_of root unit scope)
binds mm root unit scope is =
    ⊎_elim (λ none. at [] none (binds_none mm root unit))
    (λ some. ⊎_elim (λ own. at own_scope own (binds_own mm root unit)) (λ both. at container_scope both (binds_container mm root unit)) some)
    is
  where
    at : (known : List (List ℕ)) → scope ≡ known → Binds mm known (environment_of root unit known) → Binds mm scope (environment_of root unit scope)
    at known same h = let P : List (List ℕ) → Type 0 = λ s. Binds mm s (environment_of root unit s) in subst P (sym same) h
