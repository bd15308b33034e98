-- The first wrong name of each node, and what the check answers where parts are checked in turn.
use Rattle.std.proofs.Common.{◌≡◌, ℕ, List, [], ◌∷◌, Option, Some, None, Result, Ok, Err, refl, sym, ap, subst}
use Rattle.std.specs.Option.{option_or}
use Rattle.std.specs.Result.{IsErrAnd}
use Rattle.wb_metamodel.specs.Metamodel.{Metamodel}
use Rattle.wb_aql_grammar.specs.View.{tree_of, trees_in, arguments_in}
use Rattle.wb_aql_grammar.specs.declared.expr.Node.{Node}
use Rattle.wb_aql_grammar.specs.declared.expr.Node.TheVariants as v
use Rattle.wb_aql_grammar.specs.declared.expr.Unary.{Unary}
use Rattle.wb_aql_grammar.specs.declared.expr.Binary.{Binary}
use Rattle.wb_aql_grammar.specs.declared.expr.Constant.{Constant}
use Rattle.wb_aql_grammar.specs.declared.expr.CallKind.{CallKind}
use Rattle.wb_aql_grammar.specs.declared.expr.CollectionKind.{CollectionKind}
use Rattle.wb_aql_grammar.specs.declared.expr.Argument.{Argument}
use Rattle.wb_aql_grammar.specs.declared.expr.Argument.TheVariants as a
use Rattle.wb_aql_grammar.proofs.Nodes.{tree_integer, tree_text, tree_constant, tree_variable, tree_literal, tree_collection, tree_unary, tree_binary, tree_conditional, tree_let_in, tree_feature, tree_call}
use Rattle.wb_aql_check.specs.invariants.Walks.{Tells, IsFirst}
use Rattle.wb_aql_check.specs.Names.{first_wrong, first_wrong_element, first_wrong_argument, unless, is_in, is_literal, is_feature, is_class, wrong_service}
use Rattle.wb_aql_check.specs.Services.{service_named}
use Rattle.wb_aql_check.specs.Checked.{unless_wrong, refusal_of}
use Rattle.wb_base.specs.Answering.{AsDefined, IsRefusal}
use Rattle.wb_aql_check.specs.declared.refusal.CheckRefusal.{CheckRefusal}
use Rattle.wb_aql_check.specs.declared.refusal.CheckRefusal.TheVariants as r

-- ---- one after another

-- the first has no wrong name, so the answer is that of the rest
pub passed : {A : Type 0} (result : Result A CheckRefusal) (first rest : Option CheckRefusal) → first ≡ None → Tells result rest → Tells result (option_or first rest)
passed result first rest none h = subst (λ f. Tells result (option_or f rest)) (sym none) h

-- what is refused of the first is refused of the whole
pub stopped : (refusal : CheckRefusal) (first rest : Option CheckRefusal) → IsFirst refusal first → IsFirst refusal (option_or first rest)
stopped (r.UnknownVariable name) first rest h = ap (λ f. option_or f rest) h
stopped (r.UnknownFeature name) first rest h = ap (λ f. option_or f rest) h
stopped (r.UnknownService name) first rest h = ap (λ f. option_or f rest) h
stopped (r.WrongArity name) first rest h = ap (λ f. option_or f rest) h
stopped (r.UnknownType name) first rest h = ap (λ f. option_or f rest) h
stopped r.NoMemory first rest h = tt

-- the first has no wrong name, so what is refused of the rest is refused of the whole
pub skipped : (refusal : CheckRefusal) (first rest : Option CheckRefusal) → first ≡ None → IsFirst refusal rest → IsFirst refusal (option_or first rest)
skipped refusal first rest none h = subst (λ f. IsFirst refusal (option_or f rest)) (sym none) h

-- a refusal that is passed on
pub returned : {A : Type 0} (result : Result A CheckRefusal) (refusal : CheckRefusal) (first : Option CheckRefusal) → IsErrAnd result (λ other. other ≡ refusal) → IsFirst refusal first → Tells result first
returned (Ok x) refusal first h r = absurd h
returned (Err other) refusal first h r = subst (λ y. IsFirst y first) (sym h) r

-- the same, as what the definition gives
pub told_refusal : {A : Type 0} (result : Result A CheckRefusal) (refusal : CheckRefusal) (first : Option CheckRefusal) (v : A) → IsErrAnd result (λ other. other ≡ refusal) →
    IsFirst refusal first → AsDefined refusal_of (unless_wrong first v) result
told_refusal (Ok x) refusal first v h t = absurd h
told_refusal (Err other) refusal first v h t = subst (λ y. IsRefusal (refusal_of y) (unless_wrong first v)) (sym h) (refused refusal t)
  where
    refused : (refusal : CheckRefusal) → IsFirst refusal first → IsRefusal (refusal_of refusal) (unless_wrong first v)
    refused (r.UnknownVariable name) e = ap (λ f. unless_wrong f v) e
    refused (r.UnknownFeature name) e = ap (λ f. unless_wrong f v) e
    refused (r.UnknownService name) e = ap (λ f. unless_wrong f v) e
    refused (r.WrongArity name) e = ap (λ f. unless_wrong f v) e
    refused (r.UnknownType name) e = ap (λ f. unless_wrong f v) e
    refused r.NoMemory e = tt

or_none : (first : Option CheckRefusal) → option_or first None ≡ first
or_none None = refl
or_none (Some refusal) = refl

or_rest : (first rest : Option CheckRefusal) → option_or first rest ≡ option_or (option_or first None) rest
or_rest None rest = refl
or_rest (Some refusal) rest = refl

-- ---- nodes

module _ (mm : Metamodel) (scope : List (List ℕ)) where
  pub wrong_integer : (i : ℕ) → first_wrong mm scope (tree_of (v.Integer i)) ≡ None
  unfolding first_wrong
  wrong_integer i = ap (first_wrong mm scope) (tree_integer i)

  pub wrong_text : (w : List ℕ) → first_wrong mm scope (tree_of (v.Text w)) ≡ None
  unfolding first_wrong
  wrong_text w = ap (first_wrong mm scope) (tree_text w)

  pub wrong_constant : (c : Constant) → first_wrong mm scope (tree_of (v.Constant c)) ≡ None
  unfolding first_wrong
  wrong_constant c = ap (first_wrong mm scope) (tree_constant c)

  pub wrong_variable : (w : List ℕ) → first_wrong mm scope (tree_of (v.Variable w)) ≡ unless (is_in scope w) (r.UnknownVariable w)
  unfolding first_wrong
  wrong_variable w = ap (first_wrong mm scope) (tree_variable w)

  pub wrong_literal : (p e l : List ℕ) → first_wrong mm scope (tree_of (v.Literal p e l)) ≡ unless (is_literal mm p e l) (r.UnknownType e)
  unfolding first_wrong
  wrong_literal p e l = ap (first_wrong mm scope) (tree_literal p e l)

  pub wrong_collection : (k : CollectionKind) (xs : List Node) → first_wrong mm scope (tree_of (v.Collection k xs)) ≡ first_wrong_element mm scope (trees_in xs)
  unfolding first_wrong
  wrong_collection k xs = ap (first_wrong mm scope) (tree_collection k xs)

  pub wrong_unary : (o : Unary) (x : Node) → first_wrong mm scope (tree_of (v.Unary o x)) ≡ first_wrong mm scope (tree_of x)
  unfolding first_wrong
  wrong_unary o x = ap (first_wrong mm scope) (tree_unary o x)

  pub wrong_binary : (o : Binary) (x y : Node) → first_wrong mm scope (tree_of (v.Binary o x y)) ≡ option_or (first_wrong mm scope (tree_of x)) (first_wrong mm scope (tree_of y))
  unfolding first_wrong
  wrong_binary o x y = ap (first_wrong mm scope) (tree_binary o x y)

  pub wrong_if : (x y z : Node) → first_wrong mm scope (tree_of (v.If x y z))
      ≡ option_or (first_wrong mm scope (tree_of x)) (option_or (first_wrong mm scope (tree_of y)) (first_wrong mm scope (tree_of z)))
  unfolding first_wrong
  wrong_if x y z = ap (first_wrong mm scope) (tree_conditional x y z)

  pub wrong_let : (w : List ℕ) (x y : Node) → first_wrong mm scope (tree_of (v.Let w x y)) ≡ option_or (first_wrong mm scope (tree_of x)) (first_wrong mm (w ∷ scope) (tree_of y))
  unfolding first_wrong
  wrong_let w x y = ap (first_wrong mm scope) (tree_let_in w x y)

  pub wrong_feature : (x : Node) (w : List ℕ) → first_wrong mm scope (tree_of (v.Feature x w)) ≡ option_or (first_wrong mm scope (tree_of x)) (unless (is_feature mm w) (r.UnknownFeature w))
  unfolding first_wrong
  wrong_feature x w = ap (first_wrong mm scope) (tree_feature x w)

  pub wrong_call : (k : CallKind) (x : Node) (w : List ℕ) (xs : List (Argument Node)) → first_wrong mm scope (tree_of (v.Call k x w xs))
      ≡ option_or (first_wrong mm scope (tree_of x)) (option_or (wrong_service w (arguments_in xs) (service_named k w)) (first_wrong_argument mm scope (arguments_in xs)))
  unfolding first_wrong
  wrong_call k x w xs = ap (first_wrong mm scope) (tree_call k x w xs)

  -- ---- elements and arguments

  pub no_element : first_wrong_element mm scope (trees_in []) ≡ None
  unfolding first_wrong
  no_element = refl

  pub element_first : (x : Node) (xs : List Node) → first_wrong_element mm scope (trees_in (x ∷ xs)) ≡ option_or (first_wrong mm scope (tree_of x)) (first_wrong_element mm scope (trees_in xs))
  unfolding first_wrong
  element_first x xs = refl

  pub no_argument : first_wrong_argument mm scope (arguments_in []) ≡ None
  unfolding first_wrong
  no_argument = refl

  pub argument_first : (x : Argument Node) (xs : List (Argument Node)) → first_wrong_argument mm scope (arguments_in (x ∷ xs))
      ≡ option_or (first_wrong_argument mm scope (arguments_in (x ∷ []))) (first_wrong_argument mm scope (arguments_in xs))
  unfolding first_wrong
  argument_first (a.Lambda w x) xs = or_rest (first_wrong mm (w ∷ scope) (tree_of x)) (first_wrong_argument mm scope (arguments_in xs))
  argument_first (a.Type p c) xs = or_rest (unless (is_class mm p c) (r.UnknownType c)) (first_wrong_argument mm scope (arguments_in xs))
  argument_first (a.Expression x) xs = or_rest (first_wrong mm scope (tree_of x)) (first_wrong_argument mm scope (arguments_in xs))

  pub wrong_lambda : (w : List ℕ) (x : Node) → first_wrong_argument mm scope (arguments_in (a.Lambda w x ∷ [])) ≡ first_wrong mm (w ∷ scope) (tree_of x)
  unfolding first_wrong
  wrong_lambda w x = or_none (first_wrong mm (w ∷ scope) (tree_of x))

  pub wrong_type : (p c : List ℕ) → first_wrong_argument mm scope (arguments_in (a.Type p c ∷ [])) ≡ unless (is_class mm p c) (r.UnknownType c)
  unfolding first_wrong
  wrong_type p c = or_none (unless (is_class mm p c) (r.UnknownType c))

  pub wrong_expression : (x : Node) → first_wrong_argument mm scope (arguments_in (a.Expression x ∷ [])) ≡ first_wrong mm scope (tree_of x)
  unfolding first_wrong
  wrong_expression x = or_none (first_wrong mm scope (tree_of x))
