-- The checks of tools and their operations, in the order of the walk.
use Rattle.std.specs.Prelude.{ℕ, suc, List, [], ◌∷◌, ◌++◌, Option, Some, None, map, take, codes}
use Rattle.wb_json.specs.Place.{Place}
use Rattle.wb_metamodel.specs.Metamodel.{Metamodel}
use Rattle.wb_aql_check.specs.declared.checked.Origin.{Origin}
use Rattle.wb_viewpoint.specs.OperationTrees.{Tree, Trees, operation, no_trees, trees}
use Rattle.wb_viewpoint.specs.declared.content.Content.{Content}
use Rattle.wb_viewpoint.specs.declared.operations.Action.{Action}
use Rattle.wb_viewpoint.specs.declared.operations.Action.TheVariants as a
use Rattle.wb_viewpoint.specs.declared.tools.Tool.{Tool}
use Rattle.wb_spec_check.specs.Findings.{feature_found, made_class, own_name, reference_found}
use Rattle.wb_spec_check.specs.Mappings.{expression_at}
use Rattle.wb_spec_check.specs.Places.{◌▸◌, ◌!◌}
use Rattle.wb_spec_check.specs.Scopes.{scope_inside, tool_scope}
use Rattle.wb_spec_check.specs.Validated.{Validated, good, ◌<*>◌, at, optional}
use Rattle.wb_spec_check.specs.declared.checked_tools.CheckedOperation.{CheckedOperation}
use Rattle.wb_spec_check.specs.declared.checked_tools.CheckedTool.{CheckedTool}

-- an operation has a class, or an expression, or neither
abbrev pub with_class : ℕ → CheckedOperation
with_class class = record { class = Some class; expression = None }

abbrev pub with_expression : Origin × List (List ℕ) → CheckedOperation
with_expression checked = record { class = None; expression = Some checked }

abbrev pub maybe_expression : Option (Origin × List (List ℕ)) → CheckedOperation
maybe_expression checked = record { class = None; expression = checked }

-- what an operation does, in this scope
unfoldable pub action_at : Metamodel → List (List ℕ) → Place → Action → Validated CheckedOperation
action_at mm scope place (a.ChangeContext browse) = good with_expression <*> expression_at mm scope (place ▸ codes "browse") browse
action_at mm scope place (a.CreateInstance reference class variable) =
    good (λ _ made. with_class made)
    <*> at (place ▸ codes "reference") (reference_found mm reference)
    <*> at (place ▸ codes "class") (made_class mm class)
action_at mm scope place (a.Set feature value) =
    good (λ _ checked. with_expression checked)
    <*> at (place ▸ codes "feature") (feature_found mm feature)
    <*> expression_at mm scope (place ▸ codes "value") value
action_at mm scope place (a.Unset feature value) =
    good (λ _ checked. maybe_expression checked)
    <*> at (place ▸ codes "feature") (feature_found mm feature)
    <*> optional (expression_at mm scope (place ▸ codes "value")) value
action_at mm scope place (a.Move to reference) =
    good (λ checked _. with_expression checked)
    <*> expression_at mm scope (place ▸ codes "to") to
    <*> at (place ▸ codes "reference") (reference_found mm reference)
action_at mm scope place a.Remove = good (maybe_expression None)
action_at mm scope place (a.For items iterator) = good with_expression <*> expression_at mm scope (place ▸ codes "items") items
action_at mm scope place (a.If condition) = good with_expression <*> expression_at mm scope (place ▸ codes "condition") condition

-- operations, each before those inside it
unfoldable mutual
  pub operation_at : Metamodel → List (List ℕ) → Place → Tree → Validated (List CheckedOperation)
  operation_at mm scope place (operation number action inside) =
      good (λ first others. first ∷ others)
      <*> action_at mm scope place action
      <*> operations_from mm (scope_inside scope action) (place ▸ codes "do") 0 inside

  -- those of a list from a number on
  pub operations_from : Metamodel → List (List ℕ) → Place → ℕ → Trees → Validated (List CheckedOperation)
  operations_from mm scope place i no_trees = good []
  operations_from mm scope place i (trees x xs) =
      good (λ ys zs. ys ++ zs)
      <*> operation_at mm scope (place ! i) x
      <*> operations_from mm scope place (suc i) xs

-- the tool of this number
unfoldable pub tool_at : Metamodel → Content → ℕ → Place → Tool → Validated CheckedTool
tool_at mm content n place tool =
    good (λ _ precondition operations. record { precondition = precondition; operations = operations })
    <*> at (place ▸ codes "name") (own_name (map (λ (it : Tool). it.name) (take n content.tools)) tool.name)
    <*> optional (expression_at mm (tool_scope tool.kind) (place ▸ codes "precondition")) tool.precondition
    <*> operations_from mm (tool_scope tool.kind) (place ▸ codes "do") 0 tool.operations
