-- The names that an expression uses: which of them are known, and the first that is not.
use Rattle.std.specs.Prelude.{◌≡◌, ℕ, Bool, true, false, ◌&&◌, List, ◌∷◌, Option, Some, None, is_some, option_and_then}
use Rattle.std.specs.List.{list_any}
use Rattle.std.specs.Option.{option_map_or, option_or}
use Rattle.wb_metamodel.specs.Metamodel.{Metamodel, same_name, class_named, enum_named, literal_named}
use Rattle.wb_ecore.specs.declared.features.Feature.{Feature}
use Rattle.wb_aql_grammar.specs.Tree.{Tree, Trees, Arguments}
use Rattle.wb_aql_grammar.specs.Tree as t
use Rattle.wb_aql_grammar.specs.declared.expr.CallKind.{CallKind}
use Rattle.wb_aql_check.specs.Services.{service_named, fits}
use Rattle.wb_aql_check.specs.declared.services.Callee.{Callee}
use Rattle.wb_aql_check.specs.declared.services.Parameters.{Parameters}
use Rattle.wb_aql_check.specs.declared.refusal.CheckRefusal.{CheckRefusal}
use Rattle.wb_aql_check.specs.declared.refusal.CheckRefusal.TheVariants.{UnknownVariable, UnknownFeature, UnknownService, WrongArity, UnknownType}

-- ---- one name

-- does a variable of this name stand in the scope?
abbrev pub is_in : List (List ℕ) → List ℕ → Bool
is_in scope name = list_any (λ known. same_name known name) scope

-- each variable of the one scope is in the other
abbrev pub IsWithin : List (List ℕ) → List (List ℕ) → Type 0
IsWithin scope larger = (name : List ℕ) → is_in scope name ≡ true → is_in larger name ≡ true

-- has some class a feature of this name?
abbrev pub is_feature : Metamodel → List ℕ → Bool
is_feature mm name = list_any (λ (feature : Feature). same_name feature.name name) mm.features

-- is this a class of the package?
abbrev pub is_class : Metamodel → List ℕ → List ℕ → Bool
is_class mm owner class = same_name mm.package_name owner && is_some (class_named mm class)

-- is this a literal of an enumeration of the package?
abbrev pub is_literal : Metamodel → List ℕ → List ℕ → List ℕ → Bool
is_literal mm owner enumeration literal = same_name mm.package_name owner && is_some (option_and_then (λ e. literal_named mm e literal) (enum_named mm enumeration))

-- is there a service that is called so by this name, and that takes these arguments?
abbrev pub is_call : CallKind → List ℕ → Arguments → Bool
is_call kind name arguments = option_map_or (λ (found : Callee × Parameters). fits found.1 arguments) (service_named kind name) false

-- ---- all names

unfoldable mutual
  -- is each name of the expression known, where these variables are in scope?
  pub knows : Metamodel → List (List ℕ) → Tree → Bool
  knows mm scope (t.Variable name) = is_in scope name
  knows mm scope (t.Literal owner enumeration literal) = is_literal mm owner enumeration literal
  knows mm scope (t.Collection k xs) = knows_elements mm scope xs
  knows mm scope (t.Unary o x) = knows mm scope x
  knows mm scope (t.Binary o x y) = knows mm scope x && knows mm scope y
  knows mm scope (t.If x y z) = knows mm scope x && (knows mm scope y && knows mm scope z)
  knows mm scope (t.Let name x y) = knows mm scope x && knows mm (name ∷ scope) y
  knows mm scope (t.Feature x name) = knows mm scope x && is_feature mm name
  knows mm scope (t.Call kind x name xs) = knows mm scope x && (is_call kind name xs && knows_arguments mm scope xs)
  knows mm scope (t.Integer i) = true
  knows mm scope (t.Text v) = true
  knows mm scope (t.Const c) = true

  pub knows_elements : Metamodel → List (List ℕ) → Trees → Bool
  knows_elements mm scope t.no_trees = true
  knows_elements mm scope (t.trees x xs) = knows mm scope x && knows_elements mm scope xs

  pub knows_arguments : Metamodel → List (List ℕ) → Arguments → Bool
  knows_arguments mm scope t.no_arguments = true
  knows_arguments mm scope (t.lambda name x xs) = knows mm (name ∷ scope) x && knows_arguments mm scope xs
  knows_arguments mm scope (t.type_named owner class xs) = is_class mm owner class && knows_arguments mm scope xs
  knows_arguments mm scope (t.expression x xs) = knows mm scope x && knows_arguments mm scope xs

-- ---- the first name that is not known, from left to right as the expression is printed

-- nothing is wrong where the test passes
abbrev pub unless : Bool → CheckRefusal → Option CheckRefusal
unless true refusal = None
unless false refusal = Some refusal

-- a service has to be there before it can take wrong arguments
abbrev pub wrong_service : List ℕ → Arguments → Option (Callee × Parameters) → Option CheckRefusal
wrong_service name _ None = Some (UnknownService name)
wrong_service name arguments (Some found) = unless (fits found.1 arguments) (WrongArity name)

unfoldable mutual
  pub first_wrong : Metamodel → List (List ℕ) → Tree → Option CheckRefusal
  first_wrong mm scope (t.Variable name) = unless (is_in scope name) (UnknownVariable name)
  first_wrong mm scope (t.Literal owner enumeration literal) = unless (is_literal mm owner enumeration literal) (UnknownType enumeration)
  first_wrong mm scope (t.Collection k xs) = first_wrong_element mm scope xs
  first_wrong mm scope (t.Unary o x) = first_wrong mm scope x
  first_wrong mm scope (t.Binary o x y) = option_or (first_wrong mm scope x) (first_wrong mm scope y)
  first_wrong mm scope (t.If x y z) = option_or (first_wrong mm scope x) (option_or (first_wrong mm scope y) (first_wrong mm scope z))
  first_wrong mm scope (t.Let name x y) = option_or (first_wrong mm scope x) (first_wrong mm (name ∷ scope) y)
  first_wrong mm scope (t.Feature x name) = option_or (first_wrong mm scope x) (unless (is_feature mm name) (UnknownFeature name))
  -- the name of a service stands behind its receiver and before its arguments
  first_wrong mm scope (t.Call kind x name xs) =
      option_or (first_wrong mm scope x) (option_or (wrong_service name xs (service_named kind name)) (first_wrong_argument mm scope xs))
  first_wrong mm scope (t.Integer i) = None
  first_wrong mm scope (t.Text v) = None
  first_wrong mm scope (t.Const c) = None

  pub first_wrong_element : Metamodel → List (List ℕ) → Trees → Option CheckRefusal
  first_wrong_element mm scope t.no_trees = None
  first_wrong_element mm scope (t.trees x xs) = option_or (first_wrong mm scope x) (first_wrong_element mm scope xs)

  pub first_wrong_argument : Metamodel → List (List ℕ) → Arguments → Option CheckRefusal
  first_wrong_argument mm scope t.no_arguments = None
  first_wrong_argument mm scope (t.lambda name x xs) = option_or (first_wrong mm (name ∷ scope) x) (first_wrong_argument mm scope xs)
  first_wrong_argument mm scope (t.type_named owner class xs) = option_or (unless (is_class mm owner class) (UnknownType class)) (first_wrong_argument mm scope xs)
  first_wrong_argument mm scope (t.expression x xs) = option_or (first_wrong mm scope x) (first_wrong_argument mm scope xs)
