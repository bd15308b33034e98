-- In a viewpoint that was checked, the expressions of a tool were checked in the scopes of their places.
use Rattle.std.proofs.Common.{◌≡◌, ◌<◌, ◌+◌, ℕ, zero, suc, Bool, true, false, List, [], ◌∷◌, ◌++◌, length, drop, Option, Some, None, Result, Ok, Err, refl, sym, ap, subst, ◌∙◌, codes, slice_get, append_assoc, append-nil, arith}
use Rattle.std.specs.Prelude.{⊤, ◌≤◌, IfSome, nat_le}
use Rattle.std.specs.List.{list_all}
use Rattle.std.proofs.lemmas.Bool.{and_parts, leb-true}
use Rattle.std.proofs.lemmas.List.{length-append}
use Rattle.std.specs.Option.{option_map_or}
use Rattle.std.proofs.lemmas.Option.{slice_get_within}
use Rattle.wb_base.proofs.Positions.{position-Some}
use Rattle.wb_base.specs.Results.{◌>>=◌}
use Rattle.wb_ecore.specs.declared.classes.Class.{Class}
use Rattle.wb_expressions.specs.Expressions.{expression}
use Rattle.wb_expressions.specs.declared.problem.ProblemCode.{ProblemCode}
use Rattle.wb_expressions.specs.declared.problem.ProblemCode.TheVariants as c
use Rattle.wb_json.specs.Place.{Place}
use Rattle.wb_metamodel.specs.Metamodel.{Metamodel, class_named, same_name}
use Rattle.wb_viewpoint.specs.OperationTrees.{Tree, Trees, operation, no_trees, trees, count, count_all, nesting_all}
use Rattle.wb_viewpoint.specs.Limits.{has_few_operations, is_small}
use Rattle.wb_viewpoint.specs.declared.content.Content.{Content}
use Rattle.wb_viewpoint.specs.declared.operations.Action.{Action}
use Rattle.wb_viewpoint.specs.declared.operations.Action.TheVariants as a
use Rattle.wb_viewpoint.specs.declared.tools.Tool.{Tool}
use Rattle.wb_viewpoint.specs.declared.tools.ToolKind.{ToolKind}
use Rattle.wb_viewpoint.specs.declared.tools.ToolKind.TheVariants as k
use Rattle.wb_aql_eval.specs.Outcomes.{Binds}
use Rattle.wb_aql_eval.specs.declared.env.Env.{Env}
use Rattle.wb_spec_check.specs.Checked.{Specification, IsCheckedBy, checked}
use Rattle.wb_spec_check.specs.Findings.{class_found, is_abstract_class, made_class, or_problem, problem_if}
use Rattle.wb_spec_check.specs.Mappings.{expression_at}
use Rattle.wb_spec_check.specs.Places.{◌▸◌, ◌!◌, diagram}
use Rattle.wb_spec_check.specs.Scopes.{scope_inside, tool_scope}
use Rattle.wb_spec_check.specs.Tools.{action_at, operation_at, operations_from, tool_at}
use Rattle.wb_spec_check.specs.Units.{Expression}
use Rattle.wb_spec_check.specs.Validated.{Validated, Finding, each_from}
use Rattle.wb_spec_check.specs.declared.checked_tools.CheckedOperation.{CheckedOperation}
use Rattle.wb_spec_check.specs.declared.checked_tools.CheckedTool.{CheckedTool}
use Rattle.wb_spec_check.specs.declared.parts.Parts.{Parts}
use Rattle.wb_answers.proofs.CheckedExpressions.{expression_checked}
use Rattle.wb_answers.proofs.Yields.{any, OfSome, Yields, yields_at, yields_both, yields_good, yields_optional}
use Rattle.wb_tools.specs.Bindings.{in_context}
use Rattle.wb_tools.specs.Readiness.{AreFit, AreReady, Fits, FitsAt, IsReady, variables_of, with_self}
use Rattle.wb_tools.specs.Tools.{operations_of}
use Rattle.wb_tools.proofs.Rows.{class_there, expression_there, no_class_there, precondition_there}
use Rattle.wb_tools.proofs.Variables.{binds_first}

-- ---- one operation

abbrev RowFits : Metamodel → List (List ℕ) → CheckedOperation → Type 0
RowFits mm scope row = IfSome row.expression (Fits mm scope) × IfSome row.class (λ class. class < length mm.classes)

found_some : {A : Type 0} (code : ProblemCode) (name : List ℕ) (found : Option A) (x : A) → or_problem code name found ≡ Ok x → found ≡ Some x
found_some code name None x is = cc
found_some code name (Some y) x is = cc

abbrev unless_abstract : Metamodel → List ℕ → Result ℕ Finding → Result ℕ Finding
unless_abstract mm name found = found >>= λ class. problem_if (is_abstract_class mm class) c.BadOperation name >>= λ _. Ok class

same_class : (b : Bool) (name : List ℕ) (x y : ℕ) → (problem_if b c.BadOperation name >>= (λ _. Ok x)) ≡ Ok y → x ≡ y
same_class true name x y is = absurd cc
same_class false name x y is = cc

made_found : (mm : Metamodel) (name : List ℕ) (class : ℕ) (found : Result ℕ Finding) → unless_abstract mm name found ≡ Ok class → found ≡ Ok class
made_found mm name class (Ok x) is = ap Ok (same_class (is_abstract_class mm x) name x class is)
made_found mm name class (Err e) is = absurd cc

made_known : (mm : Metamodel) (name : List ℕ) (class : ℕ) → made_class mm name ≡ Ok class → class < length mm.classes
unfolding made_class
made_known mm name class is =
    let found = position-Some (λ (it : Class). same_name it.name name) mm.classes class (found_some c.UnknownClass name (class_named mm name) class (made_found mm name class (class_found mm name) is)) in
    slice_get_within mm.classes class found.0 found.1

expression_fits : (mm : Metamodel) (scope : List (List ℕ)) (place : Place) (text : List ℕ) → Yields (Fits mm scope) (expression_at mm scope place text)
expression_fits mm scope place text = yields_at place (expression mm scope text) (λ e is. expression_checked mm scope text e is)

if_some : {A : Type 0} (P : A → Type 0) (x : Option A) → OfSome P x → IfSome x P
if_some P (Some x) h = h
if_some P None h = tt

action_fits : (mm : Metamodel) (scope : List (List ℕ)) (place : Place) (action : Action) → Yields (RowFits mm scope) (action_at mm scope place action)
unfolding action_at
action_fits mm scope place (a.ChangeContext browse) = yields_both (yields_good _ (λ e h. (h, tt))) (expression_fits mm scope (place ▸ codes "browse") browse)
action_fits mm scope place (a.CreateInstance reference class variable) = yields_both (yields_both (yields_good _ (λ _ _ made h. (tt, h))) any) (yields_at (place ▸ codes "class") (made_class mm class) (made_known mm class))
action_fits mm scope place (a.Set feature value) = yields_both (yields_both (yields_good _ (λ _ _ e h. (h, tt))) any) (expression_fits mm scope (place ▸ codes "value") value)
action_fits mm scope place (a.Unset feature value) = yields_both (yields_both (yields_good _ (λ _ _ e h. (if_some (Fits mm scope) e h, tt))) any) (yields_optional (expression_at mm scope (place ▸ codes "value")) value (λ text. expression_fits mm scope (place ▸ codes "value") text))
action_fits mm scope place (a.Move to reference) = yields_both (yields_both (yields_good _ (λ e h _ _. (h, tt))) (expression_fits mm scope (place ▸ codes "to") to)) any
action_fits mm scope place a.Remove = yields_good _ (tt, tt)
action_fits mm scope place (a.For items iterator) = yields_both (yields_good _ (λ e h. (h, tt))) (expression_fits mm scope (place ▸ codes "items") items)
action_fits mm scope place (a.If condition) = yields_both (yields_good _ (λ e h. (h, tt))) (expression_fits mm scope (place ▸ codes "condition") condition)

-- ---- the rows of operations, among those of a tool

-- a tool of a viewpoint has these operations between others
pub record Stands (spec : Specification) (tool : ℕ) (before rows after : List CheckedOperation) : Type 0 where
  pub own : CheckedTool
  pub there : slice_get spec.1.tools tool ≡ Some own
  pub are : own.operations ≡ before ++ (rows ++ after)

at_length : {A : Type 0} (before : List A) (y : A) (after : List A) → slice_get (before ++ y ∷ after) (length before) ≡ Some y
at_length [] y after = refl
at_length (x ∷ before) y after = at_length before y after

module _ (mm : Metamodel) (spec : Specification) (tool : ℕ) where
  -- a row in its place
  row_fits : (scope : List (List ℕ)) (before after : List CheckedOperation) (row : CheckedOperation) (rows : List CheckedOperation) → Stands spec tool before (row ∷ rows) after → RowFits mm scope row → FitsAt mm spec tool (suc (length before)) scope
  row_fits scope before after row rows s fit =
      let here : slice_get s.own.operations (length before) ≡ Some row = ap (λ (xs : List CheckedOperation). slice_get xs (length before)) s.are ∙ at_length before row (rows ++ after) in (
        subst (λ (it : Option Expression). IfSome it (Fits mm scope)) (sym (expression_there spec tool s.own s.there (length before) row here)) fit.0,
        subst (λ (it : Option ℕ). IfSome it (λ class. class < length mm.classes)) (sym (class_there spec tool s.own s.there (length before) row here)) fit.1,
      )

  abbrev RowsFit : List (List ℕ) → Trees → List CheckedOperation → Type 0
  RowsFit scope xs rows = (length rows ≡ count_all xs) × ((before after : List CheckedOperation) → Stands spec tool before rows after → AreFit mm spec tool (suc (length before)) scope xs)

  abbrev OneFits : List (List ℕ) → Tree → List CheckedOperation → Type 0
  OneFits scope x rows = (length rows ≡ count x) × ((before after : List CheckedOperation) → Stands spec tool before rows after → (ts : Trees) → AreFit mm spec tool ((suc (length before)) + count x) scope ts → AreFit mm spec tool (suc (length before)) scope (trees x ts))

  one_fits : (scope : List (List ℕ)) (n : ℕ) (action : Action) (inside : Trees) (row : CheckedOperation) (rows : List CheckedOperation) → RowFits mm scope row → RowsFit (scope_inside scope action) inside rows → OneFits scope (operation n action inside) (row ∷ rows)
  unfolding AreFit
  one_fits scope n action inside row rows fit fits = (ap (λ k. suc k) fits.0, λ before after s ts rest. (row_fits scope before after row rows s fit, within before after s, rest))
    where
      within : (before after : List CheckedOperation) → Stands spec tool before (row ∷ rows) after → AreFit mm spec tool ((suc (length before)) + 1) (scope_inside scope action) inside
      within before after s =
          let place : suc (length (before ++ row ∷ [])) ≡ suc (length before) + 1 = (let e = length-append before (row ∷ []) in omega (arith, e)) in
          subst (λ (k : ℕ). AreFit mm spec tool k (scope_inside scope action) inside) place
          (fits.1 (before ++ row ∷ []) after (record { own = s.own; there = s.there; are = s.are ∙ sym (append_assoc before (row ∷ []) (rows ++ after)) }))

  more_fit : (scope : List (List ℕ)) (x : Tree) (xs : Trees) (ys zs : List CheckedOperation) → OneFits scope x ys → RowsFit scope xs zs → RowsFit scope (trees x xs) (ys ++ zs)
  more_fit scope x xs ys zs one others = (
    length-append ys zs ∙ (ap (λ k. k + length zs) one.0 ∙ ap (λ k. count x + k) others.0),
    λ before after s. one.1 before (zs ++ after) (record { own = s.own; there = s.there; are = s.are ∙ ap (λ r. before ++ r) (append_assoc ys zs after) }) xs (rest before after s),
  )
    where
      rest : (before after : List CheckedOperation) → Stands spec tool before (ys ++ zs) after → AreFit mm spec tool ((suc (length before)) + count x) scope xs
      rest before after s =
          let place : suc (length (before ++ ys)) ≡ suc (length before) + count x = (let e = length-append before ys in let f = one.0 in omega (arith, e, f)) in
          subst (λ (k : ℕ). AreFit mm spec tool k scope xs) place
          (others.1 (before ++ ys) after (record { own = s.own; there = s.there; are = s.are ∙ (ap (λ r. before ++ r) (append_assoc ys zs after) ∙ sym (append_assoc before ys (zs ++ after))) }))

  mutual
    unfolding operation_at operations_from AreFit

    operation_fits : (scope : List (List ℕ)) (place : Place) (x : Tree) → Yields (OneFits scope x) (operation_at mm scope place x)
    operation_fits scope place (operation n action inside) =
        yields_both (yields_both (yields_good _ (λ row fit rows fits. one_fits scope n action inside row rows fit fits)) (action_fits mm scope place action)) (operations_fit (scope_inside scope action) (place ▸ codes "do") 0 inside)

    operations_fit : (scope : List (List ℕ)) (place : Place) (i : ℕ) (xs : Trees) → Yields (RowsFit scope xs) (operations_from mm scope place i xs)
    operations_fit scope place i no_trees = yields_good [] (refl, λ before after s. tt)
    operations_fit scope place i (trees x xs) =
        yields_both (yields_both (yields_good _ (λ ys one zs others. more_fit scope x xs ys zs one others)) (operation_fits scope (place ! i) x)) (operations_fit scope place (suc i) xs)

-- ---- tools

abbrev ToolFits : Metamodel → Tool → CheckedTool → Type 0
ToolFits mm tool own = OfSome (Fits mm (tool_scope tool.kind)) own.precondition × ((spec : Specification) (n : ℕ) → RowsFit mm spec n (tool_scope tool.kind) tool.operations own.operations)

all_specs : {A : Type 0} {v : Validated A} (P : Specification → ℕ → A → Type 0) → ((spec : Specification) (n : ℕ) → Yields (P spec n) v) → Yields (λ x. (spec : Specification) (n : ℕ) → P spec n x) v
all_specs P h = record { value = λ x is spec n. (h spec n).value x is }

tool_fits : (mm : Metamodel) (content : Content) (n : ℕ) (place : Place) (tool : Tool) → Yields (ToolFits mm tool) (tool_at mm content n place tool)
unfolding tool_at
tool_fits mm content n place tool =
    yields_both (yields_both (yields_both
    (yields_good _ (λ known _ precondition fits operations fit. (fits, fit)))
    any)
    (yields_optional (expression_at mm (tool_scope tool.kind) (place ▸ codes "precondition")) tool.precondition (λ text. expression_fits mm (tool_scope tool.kind) (place ▸ codes "precondition") text)))
    (all_specs (λ spec k. RowsFit mm spec k (tool_scope tool.kind) tool.operations) (λ spec k. operations_fit mm spec k (tool_scope tool.kind) (place ▸ codes "do") 0 tool.operations))

-- each tool with its parts, in order
abbrev Paired : Metamodel → List Tool → List CheckedTool → Type 0
Paired mm [] owns = ⊤
Paired mm (tool ∷ tools) [] = ⊥
Paired mm (tool ∷ tools) (own ∷ owns) = ToolFits mm tool own × Paired mm tools owns

tools_fit : (mm : Metamodel) (content : Content) (i : ℕ) (tools : List Tool) → Yields (Paired mm tools) (each_from (λ k tool. tool_at mm content k (diagram ▸ codes "tools" ! k) tool) i tools)
tools_fit mm content i [] = yields_good [] tt
tools_fit mm content i (tool ∷ tools) =
    yields_both (yields_both (yields_good (λ y ys. y ∷ ys) (λ own fits owns fit. (fits, fit))) (tool_fits mm content i (diagram ▸ codes "tools" ! i) tool)) (tools_fit mm content (suc i) tools)

parts_fit : (mm : Metamodel) (content : Content) → Yields (λ (parts : Parts). Paired mm content.tools parts.tools) (checked mm content)
unfolding checked
parts_fit mm content =
    yields_both (yields_both (yields_both (yields_both (yields_both (yields_both
    (yields_good _ (λ domain _ layers _ top _ mappings _ filters _ tools fit. fit))
    any) any) any) any) any)
    (tools_fit mm content 0 content.tools)

paired_at : (mm : Metamodel) (tools : List Tool) (owns : List CheckedTool) (n : ℕ) (tool : Tool) → Paired mm tools owns → slice_get tools n ≡ Some tool → (own : CheckedTool) × (slice_get owns n ≡ Some own) × ToolFits mm tool own
paired_at mm [] owns n tool h is = absurd cc
paired_at mm (x ∷ xs) [] n tool h is = absurd h
paired_at mm (x ∷ xs) (y ∷ ys) zero tool h is = let same : x ≡ tool = cc in (y, refl, subst (λ (it : Tool). ToolFits mm it y) same h.0)
paired_at mm (x ∷ xs) (y ∷ ys) (suc n) tool h is = paired_at mm xs ys n tool h.1 is

module _ (mm : Metamodel) (spec : Specification) (n : ℕ) (tool : Tool) (is : IsCheckedBy mm spec) (at : slice_get spec.0.tools n ≡ Some tool) where
  own_of : (own : CheckedTool) × (slice_get spec.1.tools n ≡ Some own) × ToolFits mm tool own
  own_of = paired_at mm spec.0.tools spec.1.tools n tool ((parts_fit mm spec.0).value spec.1 is) at

  -- the precondition, at place 0
  pub precondition_ready : FitsAt mm spec n 0 (tool_scope tool.kind)
  precondition_ready =
      let fits : IfSome own_of.0.precondition (Fits mm (tool_scope tool.kind)) = if_some (Fits mm (tool_scope tool.kind)) own_of.0.precondition own_of.2.0 in (
        subst (λ (it : Option Expression). IfSome it (Fits mm (tool_scope tool.kind))) (sym (precondition_there spec n own_of.0 own_of.1)) fits,
        subst (λ (it : Option ℕ). IfSome it (λ class. class < length mm.classes)) (sym (no_class_there spec n own_of.0 own_of.1)) tt,
      )

  -- the operations, from place 1 on
  pub operations_ready : AreFit mm spec n 1 (tool_scope tool.kind) tool.operations
  operations_ready = (own_of.2.1 spec n).1 [] [] (record { own = own_of.0; there = own_of.1; are = sym (append-nil own_of.0.operations) })

-- ---- a tool by its number

some_tool : (tools : List Tool) (n : ℕ) → n < length tools → (tool : Tool) × (slice_get tools n ≡ Some tool)
some_tool [] n h = absurd (omega (arith, h))
some_tool (x ∷ xs) zero h = (x, refl)
some_tool (x ∷ xs) (suc n) h = some_tool xs n (omega arith)

-- `self` is the first variable of each kind
self_first : (kind : ToolKind) → with_self (drop 1 (tool_scope kind)) ≡ tool_scope kind
unfolding tool_scope
self_first k.NodeCreation = refl
self_first k.EdgeCreation = refl
self_first k.Delete = refl
self_first k.DirectEdit = refl
self_first k.Reconnect = refl
self_first k.Drop = refl

-- operations are few
few_of : (tools : List Tool) (n : ℕ) → list_all has_few_operations tools ≡ true → count_all (option_map_or (λ (it : Tool). it.operations) (slice_get tools n) no_trees) ≤ 256
few_of [] n h = omega arith
few_of (x ∷ xs) zero h = leb-true (count_all x.operations) 256 (and_parts (nat_le (count_all x.operations) 256) (nat_le (nesting_all x.operations) 16) (and_parts _ _ h).0).0
few_of (x ∷ xs) (suc n) h = few_of xs n (and_parts _ _ h).1

pub few_operations : (spec : Specification) (n : ℕ) → is_small spec.0 ≡ true → count_all (operations_of spec n) ≤ 256
unfolding is_small
few_operations spec n h = few_of spec.0.tools n (and_parts _ _ h).1

module _ (mm : Metamodel) (spec : Specification) (n : ℕ) (is : IsCheckedBy mm spec) (here : n < length spec.0.tools) (env : Env) (o : ℕ) (nearer : Env) (same : nearer ≡ in_context o env) (binds : Binds mm (variables_of spec n) env) where
  found : (tool : Tool) × (slice_get spec.0.tools n ≡ Some tool)
  found = some_tool spec.0.tools n here

  variables_is : with_self (variables_of spec n) ≡ tool_scope found.0.kind
  variables_is = ap (λ (it : Option Tool). with_self (option_map_or (λ (tool : Tool). drop 1 (tool_scope tool.kind)) it [])) found.1 ∙ self_first found.0.kind

  operations_is : operations_of spec n ≡ found.0.operations
  operations_is = ap (λ (it : Option Tool). option_map_or (λ (tool : Tool). tool.operations) it no_trees) found.1

  bound_there : Binds mm (with_self (variables_of spec n)) nearer
  bound_there = subst (Binds mm (with_self (variables_of spec n))) (sym same) (binds_first mm (variables_of spec n) o env binds)

  pub ready_precondition : IsReady mm spec n 0 nearer
  ready_precondition = record { names = variables_of spec n; binds = bound_there; fits = subst (FitsAt mm spec n 0) (sym variables_is) (precondition_ready mm spec n found.0 is found.1) }

  pub ready_operations : AreReady mm spec n 1 (operations_of spec n) nearer
  ready_operations = record {
    names = variables_of spec n;
    binds = bound_there;
    fit = subst (λ (scope : List (List ℕ)). AreFit mm spec n 1 scope (operations_of spec n)) (sym variables_is) (subst (AreFit mm spec n 1 (tool_scope found.0.kind)) (sym operations_is) (operations_ready mm spec n found.0 is found.1));
  }
