-- The names in a scope, the nearest first.
use Rattle.std.specs.Prelude.{ℕ, List, ◌∷◌}
use Rattle.wb_aql_check.specs.declared.scope.Scope.{Scope, fold-Scope}
use Rattle.wb_aql_check.specs.declared.scope.Scope.TheOpen.{Scope-F}

abbrev pub scope_step : Scope-F (List (List ℕ)) → List (List ℕ)
scope_step (Scope-F.Outer names) = names.now
scope_step (Scope-F.Inner outer name) = name.now ∷ outer.now

unfoldable pub names_of : Scope → List (List ℕ)
names_of = fold-Scope (List (List ℕ)) scope_step
