-- The expressions of units.
use Rattle.std.specs.Prelude.{◌≡◌, ◌⊎◌, ℕ, List, []}
use Rattle.wb_metamodel.specs.Metamodel.{Metamodel}
use Rattle.wb_aql_check.specs.Checked.{IsChecked}
use Rattle.wb_spec_check.specs.Scopes.{own_scope, container_scope}
use Rattle.wb_spec_check.specs.Units.{Expression}

-- the scope of a unit's expression: no variables where the candidates are all objects of a class, `self`, or `self` and `container`
abbrev pub IsUnitScope : List (List ℕ) → Type 0
IsUnitScope scope = (scope ≡ []) ⊎ (scope ≡ own_scope) ⊎ (scope ≡ container_scope)

-- it was checked against the metamodel, in the scope of a unit
abbrev pub IsUnitExpression : Metamodel → Expression → Type 0
IsUnitExpression mm e = IsUnitScope e.1 × IsChecked mm e
