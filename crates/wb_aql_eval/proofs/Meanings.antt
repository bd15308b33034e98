-- The meaning of each node.
use Rattle.std.proofs.Common.{◌≡◌, ◌≤◌, ◌<◌, ℕ, List, [], ◌∷◌, length, get_or, refl, sym, ap, ◌∙◌, arith}
use Rattle.wb_metamodel.specs.Metamodel.{Metamodel, class_named}
use Rattle.wb_aql_grammar.specs.View.{tree_of, trees_in, arguments_in}
use Rattle.wb_aql_grammar.specs.declared.expr.Node.{Node}
use Rattle.wb_aql_grammar.specs.declared.expr.Node.TheVariants as v
use Rattle.wb_aql_grammar.specs.declared.expr.Unary.{Unary}
use Rattle.wb_aql_grammar.specs.declared.expr.Binary.{Binary}
use Rattle.wb_aql_grammar.specs.declared.expr.Constant.{Constant}
use Rattle.wb_aql_grammar.specs.declared.expr.CallKind.{CallKind}
use Rattle.wb_aql_grammar.specs.declared.expr.CollectionKind.{CollectionKind}
use Rattle.wb_aql_grammar.specs.declared.expr.Argument.{Argument}
use Rattle.wb_aql_grammar.specs.declared.expr.Argument.TheVariants as a
use Rattle.wb_aql_grammar.proofs.Nodes.{tree_integer, tree_text, tree_constant, tree_variable, tree_literal, tree_collection, tree_unary, tree_binary, tree_conditional, tree_let_in, tree_feature, tree_call}
use Rattle.wb_store.specs.declared.scalars.Scalar.{Scalar}
use Rattle.wb_aql_services.specs.declared.arguments.Argument.TheVariants.{Of}
use Rattle.wb_aql_values.specs.declared.values.Sort.{Sort}
use Rattle.wb_aql_values.specs.declared.values.Value.{Value}
use Rattle.wb_aql_values.specs.declared.values.Value.TheVariants.{Null}
use Rattle.wb_aql_values.specs.Values.{collection}
use Rattle.wb_aql_values.specs.Readings.{done, given}
use Rattle.wb_aql_eval.specs.Operators.{number, unary}
use Rattle.wb_aql_eval.specs.Meaning.{meaning, collected, called, after, constant, written, literal, sort_named, operated, chosen, put_last, serviced, serviced_class, service_called, iteration_called, repeated, of_member}
use Rattle.wb_aql_eval.specs.Features.{feature_of}
use Rattle.wb_aql_eval.specs.Scopes.{Values, bound}

-- ---- lists by their length

no_item : {A : Type 0} (xs : List A) → length xs < 1 → xs ≡ []
no_item [] h = refl
no_item (x ∷ xs) h = absurd (omega arith)

pub one_item : {A : Type 0} (xs : List A) (x : A) → 1 ≤ length xs → length xs < 2 → x ≡ get_or xs 0 x → xs ≡ x ∷ []
one_item [] x least most e = absurd (omega arith)
one_item (y ∷ []) x least most e = ap (λ z. z ∷ []) (sym e)
one_item (y ∷ z ∷ xs) x least most e = absurd (omega arith)

module _ (mm : Metamodel) (env : Values) where
  pub means_integer : (n : ℕ) → meaning mm (tree_of (v.Integer n)) env ≡ given (number (Rattle.std.specs.Prelude.pos n))
  unfolding meaning
  means_integer n = ap (λ x. meaning mm x env) (tree_integer n)

  pub means_text : (w : List ℕ) → meaning mm (tree_of (v.Text w)) env ≡ given (written w)
  unfolding meaning
  means_text w = ap (λ x. meaning mm x env) (tree_text w)

  pub means_constant : (c : Constant) → meaning mm (tree_of (v.Constant c)) env ≡ done (constant c)
  unfolding meaning
  means_constant c = ap (λ x. meaning mm x env) (tree_constant c)

  pub means_variable : (name : List ℕ) → meaning mm (tree_of (v.Variable name)) env ≡ done (env name)
  unfolding meaning
  means_variable name = ap (λ x. meaning mm x env) (tree_variable name)

  pub means_literal : (owner enumeration name : List ℕ) → meaning mm (tree_of (v.Literal owner enumeration name)) env ≡ done (literal mm enumeration name)
  unfolding meaning
  means_literal owner enumeration name = ap (λ x. meaning mm x env) (tree_literal owner enumeration name)

  pub means_collection : (kind : CollectionKind) (xs : List Node) → meaning mm (tree_of (v.Collection kind xs)) env ≡ collected mm (sort_named kind) [] (trees_in xs) env
  unfolding meaning
  means_collection kind xs = ap (λ x. meaning mm x env) (tree_collection kind xs)

  pub means_unary : (o : Unary) (x : Node) → meaning mm (tree_of (v.Unary o x)) env ≡ after (meaning mm (tree_of x) env) (λ v. given (unary o v))
  unfolding meaning
  means_unary o x = ap (λ x. meaning mm x env) (tree_unary o x)

  pub means_binary : (o : Binary) (x y : Node) → meaning mm (tree_of (v.Binary o x y)) env ≡ operated mm o (meaning mm (tree_of x) env) (meaning mm (tree_of y) env)
  unfolding meaning
  means_binary o x y = ap (λ x. meaning mm x env) (tree_binary o x y)

  pub means_if : (x y z : Node) → meaning mm (tree_of (v.If x y z)) env ≡ chosen (meaning mm (tree_of x) env) (meaning mm (tree_of y) env) (meaning mm (tree_of z) env)
  unfolding meaning
  means_if x y z = ap (λ x. meaning mm x env) (tree_conditional x y z)

  pub means_let : (name : List ℕ) (x y : Node) → meaning mm (tree_of (v.Let name x y)) env ≡ after (meaning mm (tree_of x) env) (λ v. meaning mm (tree_of y) (bound name v env))
  unfolding meaning
  means_let name x y = ap (λ x. meaning mm x env) (tree_let_in name x y)

  pub means_feature : (x : Node) (name : List ℕ) → meaning mm (tree_of (v.Feature x name)) env ≡ after (meaning mm (tree_of x) env) (feature_of mm name)
  unfolding meaning
  means_feature x name = ap (λ x. meaning mm x env) (tree_feature x name)

  pub means_call : (kind : CallKind) (x : Node) (name : List ℕ) (xs : List (Argument Node)) →
      meaning mm (tree_of (v.Call kind x name xs)) env ≡ after (meaning mm (tree_of x) env) (λ v. called mm kind name v (arguments_in xs) env)
  unfolding meaning
  means_call kind x name xs = ap (λ x. meaning mm x env) (tree_call kind x name xs)

  -- ---- elements

  pub no_elements : (kind : Sort) (sofar : List Scalar) → collected mm kind sofar (trees_in []) env ≡ done (collection kind sofar)
  unfolding collected
  no_elements kind sofar = refl

  pub more_elements : (kind : Sort) (sofar : List Scalar) (x : Node) (xs : List Node) →
      collected mm kind sofar (trees_in (x ∷ xs)) env ≡ after (put_last kind sofar (meaning mm (tree_of x) env)) (λ more. collected mm kind more (trees_in xs) env)
  unfolding collected
  more_elements kind sofar x xs = refl

  -- ---- arguments

  module _ (kind : CallKind) (name : List ℕ) (receiver : Value) where
    pub no_argument : called mm kind name receiver (arguments_in []) env ≡ serviced mm (service_called kind name) receiver []
    unfolding called
    no_argument = refl

    pub a_type : (owner class : List ℕ) → called mm kind name receiver (arguments_in (a.Type owner class ∷ [])) env ≡ serviced_class mm (service_called kind name) receiver (class_named mm class)
    unfolding called
    a_type owner class = refl

    pub a_value : (x : Node) → called mm kind name receiver (arguments_in (a.Expression x ∷ [])) env ≡ after (meaning mm (tree_of x) env) (λ w. serviced mm (service_called kind name) receiver (Of w ∷ []))
    unfolding called
    a_value x = refl

    pub a_lambda : (variable : List ℕ) (x : Node) → called mm kind name receiver (arguments_in (a.Lambda variable x ∷ [])) env ≡ repeated (iteration_called kind name) (of_member mm (tree_of x) variable env) receiver
    unfolding called
    a_lambda variable x = refl

    pub more_arguments : (e f : Argument Node) (es : List (Argument Node)) → called mm kind name receiver (arguments_in (e ∷ f ∷ es)) env ≡ done Null
    unfolding called
    more_arguments (a.Lambda w x) (a.Lambda u y) es = refl
    more_arguments (a.Lambda w x) (a.Type p c) es = refl
    more_arguments (a.Lambda w x) (a.Expression y) es = refl
    more_arguments (a.Type q d) (a.Lambda u y) es = refl
    more_arguments (a.Type q d) (a.Type p c) es = refl
    more_arguments (a.Type q d) (a.Expression y) es = refl
    more_arguments (a.Expression x) (a.Lambda u y) es = refl
    more_arguments (a.Expression x) (a.Type p c) es = refl
    more_arguments (a.Expression x) (a.Expression y) es = refl

  module _ (kind : CallKind) (name : List ℕ) (receiver : Value) (es : List (Argument Node)) where
    pub called_alone : length es < 1 → called mm kind name receiver (arguments_in es) env ≡ serviced mm (service_called kind name) receiver []
    called_alone none = ap (λ xs. called mm kind name receiver (arguments_in xs) env) (no_item es none) ∙ no_argument kind name receiver

    pub called_at_length : 2 ≤ length es → called mm kind name receiver (arguments_in es) env ≡ done Null
    called_at_length many = several es many
      where
        several : (es : List (Argument Node)) → 2 ≤ length es → called mm kind name receiver (arguments_in es) env ≡ done Null
        several [] many = absurd (omega arith)
        several (e ∷ []) many = absurd (omega arith)
        several (e ∷ f ∷ es) many = more_arguments kind name receiver e f es
