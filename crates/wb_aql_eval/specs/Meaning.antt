-- What an expression means: a reading that gives its value, one line for each kind of node.
use Rattle.std.specs.Prelude.{ℕ, nat_le, true, false, List, [], ◌∷◌, length, Option, Some, None, Result, Ok, Err, pos, if◌then◌else◌}
use Rattle.std.specs.Option.{option_map_or}
use Rattle.wb_metamodel.specs.Metamodel.{Metamodel, class_named, enum_named, literal_named}
use Rattle.wb_store.specs.declared.scalars.Scalar.{Scalar}
use Rattle.wb_store.specs.declared.scalars.Scalar.TheVariants.{Text, Literal}
use Rattle.wb_aql_grammar.specs.Tree.{Tree, Trees, Arguments}
use Rattle.wb_aql_grammar.specs.Tree as t
use Rattle.wb_aql_grammar.specs.declared.expr.Constant.{Constant}
use Rattle.wb_aql_grammar.specs.declared.expr.Constant.TheVariants as c
use Rattle.wb_aql_grammar.specs.declared.expr.CallKind.{CallKind}
use Rattle.wb_aql_grammar.specs.declared.expr.Binary.{Binary}
use Rattle.wb_aql_grammar.specs.declared.expr.CollectionKind.{CollectionKind}
use Rattle.wb_aql_grammar.specs.declared.expr.CollectionKind.TheVariants as k
use Rattle.wb_aql_check.specs.Services.{service_named}
use Rattle.wb_aql_services.specs.Services.{meaning as served}
use Rattle.wb_aql_check.specs.declared.services.Callee.{Callee}
use Rattle.wb_aql_check.specs.declared.services.Callee.TheVariants as callee
use Rattle.wb_aql_check.specs.declared.services.Parameters.{Parameters}
use Rattle.wb_aql_check.specs.declared.services.Service.{Service}
use Rattle.wb_aql_check.specs.declared.services.Iteration.{Iteration}
use Rattle.wb_aql_services.specs.declared.arguments.Argument.{Argument}
use Rattle.wb_aql_services.specs.declared.arguments.Argument.TheVariants as a
use Rattle.wb_aql_values.specs.declared.faults.Fault.{Fault}
use Rattle.wb_aql_values.specs.declared.faults.Fault.TheVariants.{TextTooLong}
use Rattle.wb_aql_values.specs.declared.values.Sort.{Sort}
use Rattle.wb_aql_values.specs.declared.values.Sort.TheVariants as sort
use Rattle.wb_aql_values.specs.declared.values.Value.{Value}
use Rattle.wb_aql_values.specs.declared.values.Value.TheVariants.{Null, One}
use Rattle.wb_aql_values.specs.Values.{put, collection, flag}
use Rattle.wb_aql_values.specs.Readings.{Reading, done, given, ◌>>=◌}
use Rattle.wb_aql_eval.specs.Operators.{truth, number, unary, decided, combined}
use Rattle.wb_aql_eval.specs.Features.{feature_of}
use Rattle.wb_aql_eval.specs.Iterations.{iterated}
use Rattle.wb_aql_eval.specs.Scopes.{Values, bound}

-- ---- what needs no part

abbrev pub constant : Constant → Value
constant c.Null = Null
constant c.True = flag true
constant c.False = flag false

-- a text of a value has at most 65,536 bytes
abbrev pub written : List ℕ → Result Value Fault
written bytes = if nat_le (length bytes) 65536 then Ok (One (Text bytes)) else Err TextTooLong

-- a literal of an enumeration; one that is not there is null, and stands in no expression that was checked
abbrev pub literal : Metamodel → List ℕ → List ℕ → Value
literal mm enumeration name = option_map_or (λ e. option_map_or (λ l. One (Literal e l)) (literal_named mm e name) Null) (enum_named mm enumeration) Null

abbrev pub sort_named : CollectionKind → Sort
sort_named k.Sequence = sort.Sequence
sort_named k.OrderedSet = sort.OrderedSet

-- one reading after another, by a name that clauses can have
abbrev pub after : {A B : Type 0} → Reading A → (A → Reading B) → Reading B
after reading next = reading >>= next

-- what a reading gives is put last into a collection
unfoldable pub put_last : Sort → List Scalar → Reading Value → Reading (List Scalar)
put_last kind sofar reading = reading >>= λ v. given (put kind sofar v)

-- ---- operators

abbrev pub unless_decided : Option Value → Reading Value → Reading Value
unless_decided (Some v) more = done v
unless_decided None more = more

-- behind the left side, whose value is known, the right one where the left one does not decide
unfoldable pub continued : Metamodel → Binary → Reading Value → Value → Reading Value
continued mm o right v = given (decided o v) >>= λ early. unless_decided early (right >>= λ w. given (combined mm o v w))

unfoldable pub operated : Metamodel → Binary → Reading Value → Reading Value → Reading Value
operated mm o left right = left >>= continued mm o right

unfoldable pub chosen : Reading Value → Reading Value → Reading Value → Reading Value
chosen condition first second = condition >>= λ v. given (truth v) >>= λ b. if b then first else second

-- ---- services

-- the service without a lambda, and the one with a lambda, that is called so by a name
abbrev pub service_in : Option (Callee × Parameters) → Option Service
service_in (Some (callee.Service service, _)) = Some service
service_in (Some (callee.Iteration iteration, _)) = None
service_in None = None

abbrev pub iteration_in : Option (Callee × Parameters) → Option Iteration
iteration_in (Some (callee.Iteration iteration, _)) = Some iteration
iteration_in (Some (callee.Service service, _)) = None
iteration_in None = None

abbrev pub service_called : CallKind → List ℕ → Option Service
service_called kind name = service_in (service_named kind name)

abbrev pub iteration_called : CallKind → List ℕ → Option Iteration
iteration_called kind name = iteration_in (service_named kind name)

-- a service with its arguments; one that is not there is null, and stands in no expression that was checked
abbrev pub serviced : Metamodel → Option Service → Value → List Argument → Reading Value
serviced mm (Some service) v arguments = served mm service v arguments
serviced mm None v arguments = done Null

-- with a type; one that is not there is null too
abbrev pub serviced_class : Metamodel → Option Service → Value → Option ℕ → Reading Value
serviced_class mm service v (Some c) = serviced mm service v (a.Class c ∷ [])
serviced_class mm service v None = done Null

abbrev pub repeated : Option Iteration → (Scalar → Reading Value) → Value → Reading Value
repeated (Some iteration) f v = iterated iteration f v
repeated None f v = done Null

-- ---- all nodes

unfoldable mutual
  pub meaning : Metamodel → Tree → Values → Reading Value
  meaning mm (t.Integer n) env = given (number (pos n))
  meaning mm (t.Text bytes) env = given (written bytes)
  meaning mm (t.Const c) env = done (constant c)
  meaning mm (t.Variable name) env = done (env name)
  meaning mm (t.Literal owner enumeration name) env = done (literal mm enumeration name)
  meaning mm (t.Collection kind xs) env = collected mm (sort_named kind) [] xs env
  meaning mm (t.Unary o x) env = meaning mm x env >>= λ v. given (unary o v)
  meaning mm (t.Binary o x y) env = operated mm o (meaning mm x env) (meaning mm y env)
  meaning mm (t.If x y z) env = chosen (meaning mm x env) (meaning mm y env) (meaning mm z env)
  meaning mm (t.Let name x y) env = meaning mm x env >>= λ v. meaning mm y (bound name v env)
  meaning mm (t.Feature x name) env = meaning mm x env >>= feature_of mm name
  meaning mm (t.Call kind x name xs) env = meaning mm x env >>= λ v. called mm kind name v xs env

  -- the elements are put last one after the other
  pub collected : Metamodel → Sort → List Scalar → Trees → Values → Reading Value
  collected mm kind sofar t.no_trees env = done (collection kind sofar)
  collected mm kind sofar (t.trees x xs) env = put_last kind sofar (meaning mm x env) >>= λ more. collected mm kind more xs env

  -- the receiver is known, and the arguments come behind it
  pub called : Metamodel → CallKind → List ℕ → Value → Arguments → Values → Reading Value
  called mm kind name v t.no_arguments env = serviced mm (service_called kind name) v []
  called mm kind name v (t.type_named owner class t.no_arguments) env = serviced_class mm (service_called kind name) v (class_named mm class)
  called mm kind name v (t.expression x t.no_arguments) env = meaning mm x env >>= λ w. serviced mm (service_called kind name) v (a.Of w ∷ [])
  called mm kind name v (t.lambda variable x t.no_arguments) env = repeated (iteration_called kind name) (λ member. meaning mm x (bound variable (One member) env)) v
  called mm kind name v _ env = done Null

-- the meaning of the body of a lambda, for a member
abbrev pub of_member : Metamodel → Tree → List ℕ → Values → Scalar → Reading Value
of_member mm x variable env member = meaning mm x (bound variable (One member) env)
