-- No wrong name is want of memory.
use Rattle.std.proofs.Common.{◌≢◌, ℕ, List, ◌∷◌, Bool, true, false, Option, Some, None}
use Rattle.std.specs.Option.{option_or}
use Rattle.wb_metamodel.specs.Metamodel.{Metamodel}
use Rattle.wb_aql_grammar.specs.Tree.{Tree, Trees, Arguments}
use Rattle.wb_aql_grammar.specs.Tree as t
use Rattle.wb_aql_check.specs.Names.{first_wrong, first_wrong_element, first_wrong_argument, unless, wrong_service, is_in, is_literal, is_feature, is_class}
use Rattle.wb_aql_check.specs.Services.{service_named, fits}
use Rattle.wb_aql_check.specs.declared.services.Callee.{Callee}
use Rattle.wb_aql_check.specs.declared.services.Parameters.{Parameters}
use Rattle.wb_aql_check.specs.declared.refusal.CheckRefusal.{CheckRefusal}
use Rattle.wb_aql_check.specs.declared.refusal.CheckRefusal.TheVariants.{UnknownVariable, UnknownFeature, WrongArity, UnknownType, NoMemory}

abbrev IsName : Option CheckRefusal → Type 0
IsName first = first ≢ Some NoMemory

or_name : (first rest : Option CheckRefusal) → IsName first → IsName rest → IsName (option_or first rest)
or_name None rest h k = k
or_name (Some refusal) rest h k = h

unless_name : (known : Bool) (refusal : CheckRefusal) → refusal ≢ NoMemory → IsName (unless known refusal)
unless_name true refusal h e = cc
unless_name false refusal h e = h (cc)

service_name : (name : List ℕ) (xs : Arguments) (found : Option (Callee × Parameters)) → IsName (wrong_service name xs found)
service_name name xs None = λ e. cc
service_name name xs (Some found) = unless_name (fits found.1 xs) (WrongArity name) (λ e. cc)

mutual
  unfolding first_wrong first_wrong_element first_wrong_argument

  pub wrong_name : (mm : Metamodel) (scope : List (List ℕ)) (x : Tree) → first_wrong mm scope x ≢ Some NoMemory
  wrong_name mm scope (t.Variable name) = unless_name (is_in scope name) (UnknownVariable name) (λ e. cc)
  wrong_name mm scope (t.Literal owner enumeration literal) = unless_name (is_literal mm owner enumeration literal) (UnknownType enumeration) (λ e. cc)
  wrong_name mm scope (t.Collection k xs) = wrong_element mm scope xs
  wrong_name mm scope (t.Unary o x) = wrong_name mm scope x
  wrong_name mm scope (t.Binary o x y) = or_name _ _ (wrong_name mm scope x) (wrong_name mm scope y)
  wrong_name mm scope (t.If x y z) = or_name _ _ (wrong_name mm scope x) (or_name _ _ (wrong_name mm scope y) (wrong_name mm scope z))
  wrong_name mm scope (t.Let name x y) = or_name _ _ (wrong_name mm scope x) (wrong_name mm (name ∷ scope) y)
  wrong_name mm scope (t.Feature x name) = or_name _ _ (wrong_name mm scope x) (unless_name (is_feature mm name) (UnknownFeature name) (λ e. cc))
  wrong_name mm scope (t.Call kind x name xs) =
      or_name _ _ (wrong_name mm scope x) (or_name _ _ (service_name name xs (service_named kind name)) (wrong_argument mm scope xs))
  wrong_name mm scope (t.Integer i) = λ e. cc
  wrong_name mm scope (t.Text v) = λ e. cc
  wrong_name mm scope (t.Const c) = λ e. cc

  wrong_element : (mm : Metamodel) (scope : List (List ℕ)) (xs : Trees) → first_wrong_element mm scope xs ≢ Some NoMemory
  wrong_element mm scope t.no_trees = λ e. cc
  wrong_element mm scope (t.trees x xs) = or_name _ _ (wrong_name mm scope x) (wrong_element mm scope xs)

  wrong_argument : (mm : Metamodel) (scope : List (List ℕ)) (xs : Arguments) → first_wrong_argument mm scope xs ≢ Some NoMemory
  wrong_argument mm scope t.no_arguments = λ e. cc
  wrong_argument mm scope (t.lambda name x xs) = or_name _ _ (wrong_name mm (name ∷ scope) x) (wrong_argument mm scope xs)
  wrong_argument mm scope (t.type_named owner class xs) = or_name _ _ (unless_name (is_class mm owner class) (UnknownType class) (λ e. cc)) (wrong_argument mm scope xs)
  wrong_argument mm scope (t.expression x xs) = or_name _ _ (wrong_name mm scope x) (wrong_argument mm scope xs)
