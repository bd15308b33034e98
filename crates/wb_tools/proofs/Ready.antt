-- What is ready where operations are performed, and inside them.
use Rattle.std.proofs.Common.{◌≡◌, ℕ, zero, suc, ◌+◌, ◌<◌, true, List, [], ◌∷◌, ◌++◌, drop, length, Option, Some, refl, sym, subst}
use Rattle.std.proofs.lemmas.Bool.{and_from, and_parts}
use Rattle.std.specs.List.{list_all}
use Rattle.std.specs.Prelude.{IfSome}
use Rattle.wb_metamodel.specs.Metamodel.{Metamodel}
use Rattle.wb_aql_check.specs.Checked.{IsChecked}
use Rattle.wb_store.specs.declared.scalars.Scalar.{Scalar}
use Rattle.wb_aql_values.specs.Bounds.{IsBounded, is_bounded}
use Rattle.wb_aql_values.specs.Values.{members}
use Rattle.wb_aql_values.specs.declared.values.Value.{Value}
use Rattle.wb_aql_values.specs.declared.values.Value.TheVariants.{Null, One, Sequence, OrderedSet}
use Rattle.wb_aql_eval.specs.Outcomes.{Binds}
use Rattle.wb_aql_eval.specs.declared.env.Env.{Env}
use Rattle.wb_viewpoint.proofs.Trees.{tree_out}
use Rattle.wb_viewpoint.specs.OperationTrees.{Tree, Trees, operation, trees, count_all}
use Rattle.wb_viewpoint.specs.View.{tree_of, trees_of}
use Rattle.wb_viewpoint.specs.declared.operations.Operation.{Operation, out-Operation}
use Rattle.wb_spec_check.specs.Checked.{Specification}
use Rattle.wb_spec_check.specs.Scopes.{scope_inside}
use Rattle.wb_spec_check.specs.Units.{Expression, class_of_operation, tool_expression}
use Rattle.wb_tools.specs.Bindings.{in_context, inside_with}
use Rattle.wb_tools.specs.Readiness.{AreFit, AreReady, Fits, IsReady, IsReadyAround, same_scope, one_more, with_self}
use Rattle.wb_tools.proofs.Variables.{binds_self, binds_inside}

module _ (mm : Metamodel) (spec : Specification) (tool place : ℕ) where
  module _ (xs : Trees) (env : Env) where
    -- the expression of an operation
    pub ready_here : (inner : List (List ℕ) → List (List ℕ)) → IsReadyAround mm spec tool place inner xs env → IsReady mm spec tool place env
    ready_here inner r = record { names = r.names; binds = r.binds; fits = r.fits }

    -- the operations inside, with another context
    pub ready_in_context : (o : ℕ) (nearer : Env) → nearer ≡ in_context o env → IsReadyAround mm spec tool place same_scope xs env → AreReady mm spec tool (place + 1) xs nearer
    ready_in_context o nearer is r = subst (AreReady mm spec tool (place + 1) xs) (sym is) (record { names = r.names; binds = binds_self mm r.names o env r.binds; fit = r.fit })

    -- with one variable more
    pub ready_inside : (name : List ℕ) (x : Scalar) (o : ℕ) (nearer : Env) → nearer ≡ inside_with name x o env → is_bounded mm x ≡ true → IsReadyAround mm spec tool place (one_more name) xs env → AreReady mm spec tool (place + 1) xs nearer
    ready_inside name x o nearer is fits r = subst (AreReady mm spec tool (place + 1) xs) (sym is) (record { names = r.names ++ name ∷ []; binds = binds_inside mm r.names name x o env r.binds fits; fit = r.fit })

    -- as they are
    pub ready_branch : IsReadyAround mm spec tool place same_scope xs env → AreReady mm spec tool (place + 1) xs env
    ready_branch r = record { names = r.names; binds = r.binds; fit = r.fit }

    -- by the metamodel of another model
    pub ready_metamodel : (other : Metamodel) (inner : List (List ℕ) → List (List ℕ)) → other ≡ mm → IsReadyAround mm spec tool place inner xs env → IsReadyAround other spec tool place inner xs env
    ready_metamodel other inner is r = subst (λ (it : Metamodel). IsReadyAround it spec tool place inner xs env) (sym is) r

    -- the class of a new object is one of the metamodel
    pub class_known : (inner : List (List ℕ) → List (List ℕ)) (class : ℕ) → class_of_operation spec tool place ≡ Some class → IsReadyAround mm spec tool place inner xs env → class < length mm.classes
    class_known inner class is r = subst (λ (it : Option ℕ). IfSome it (λ c. c < length mm.classes)) is r.fits.1

  fit_parts : (scope : List (List ℕ)) (x : Operation) (ts : Trees) → AreFit mm spec tool place scope (trees (tree_of x) ts)
      → AreFit mm spec tool place scope (trees (operation (out-Operation x).number (out-Operation x).action (trees_of (out-Operation x).inside)) ts)
  fit_parts scope x ts h = subst (λ (t : Tree). AreFit mm spec tool place scope (trees t ts)) (tree_out x) h

  module _ (env : Env) (x : Operation) (ts : Trees) where
    -- the first of operations
    pub ready_first : AreReady mm spec tool place (trees (tree_of x) ts) env → IsReadyAround mm spec tool place (λ scope. scope_inside scope (out-Operation x).action) (trees_of (out-Operation x).inside) env
    unfolding AreFit
    ready_first r = let f = fit_parts (with_self r.names) x ts r.fit in record { names = r.names; binds = r.binds; fits = f.0; fit = f.1 }

    -- those after it
    pub ready_rest : AreReady mm spec tool place (trees (tree_of x) ts) env → AreReady mm spec tool (place + suc (count_all (trees_of (out-Operation x).inside))) ts env
    unfolding AreFit
    ready_rest r = let f = fit_parts (with_self r.names) x ts r.fit in record { names = r.names; binds = r.binds; fit = f.2 }

-- an expression that stands there is bound and checked
pub ready_fits : (mm : Metamodel) (spec : Specification) (tool place : ℕ) (env : Env) (e : Expression) → tool_expression spec tool place ≡ Some e → IsReady mm spec tool place env → Binds mm e.1 env × IsChecked mm e
ready_fits mm spec tool place env e is r =
    let f : Fits mm (with_self r.names) e = subst (λ (it : Option Expression). IfSome it (Fits mm (with_self r.names))) is r.fits.0 in
    (subst (λ (scope : List (List ℕ)). Binds mm scope env) (sym f.0) r.binds, f.1)

-- ---- items within their bounds

pub member_bounded : (mm : Metamodel) (v : Value) → IsBounded mm v → list_all (is_bounded mm) (members v) ≡ true
member_bounded mm Null h = refl
member_bounded mm (One x) h = and_from _ _ h refl
member_bounded mm (Sequence xs) h = h.bounded
member_bounded mm (OrderedSet xs) h = h.0.bounded

nothing_there : (x : Scalar) (xs : List Scalar) → [] ≡ x ∷ xs → ⊥
nothing_there x xs e = cc

pub rest_bounded : (mm : Metamodel) (i : ℕ) (xs : List Scalar) (x : Scalar) (ys : List Scalar) → drop i xs ≡ x ∷ ys → list_all (is_bounded mm) xs ≡ true → is_bounded mm x ≡ true
rest_bounded mm zero [] x ys e h = absurd (nothing_there x ys e)
rest_bounded mm zero (y ∷ zs) x ys e h = let f : y ≡ x = cc in subst (λ (z : Scalar). is_bounded mm z ≡ true) f (and_parts _ _ h).0
rest_bounded mm (suc i) [] x ys e h = absurd (nothing_there x ys e)
rest_bounded mm (suc i) (y ∷ zs) x ys e h = rest_bounded mm i zs x ys e (and_parts _ _ h).1
