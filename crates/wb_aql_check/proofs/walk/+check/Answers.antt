use Rattle.std.proofs.Common.{rules, arith, ◌≡◌, ◌≤◌, ◌+◌, suc, [], ◌∷◌, drop, refl, sym, ap, ◌∙◌, subst}
use Rattle.std.proofs.lemmas.List.{drop_more, drop_all}
use Rattle.std.specs.Option.{option_or}
use Rattle.wb_aql_grammar.specs.View.{tree_of, trees_in, arguments_in}
use Rattle.wb_aql_grammar.proofs.Nodes.{tree_collection, tree_unary, tree_binary, tree_conditional, tree_let_in, tree_feature, tree_call}
use Rattle.wb_aql_grammar.proofs.Weights.{weight, elements_weight, arguments_weight, next_element, next_argument}
use Rattle.wb_aql_check.specs.invariants.Walks.{IsFirst}
use Rattle.wb_aql_check.specs.Names.{first_wrong_element, first_wrong_argument}
use Rattle.wb_aql_check.specs.Scopes.{names_of}
use Rattle.wb_aql_check.proofs.ScopeNames.{names_inner}
use Rattle.wb_aql_check.proofs.WrongNames.{passed, stopped, skipped, returned, wrong_integer, wrong_text, wrong_constant, wrong_variable, wrong_literal, wrong_collection, wrong_unary, wrong_binary, wrong_if, wrong_let, wrong_feature, wrong_call, no_element, element_first, no_argument, argument_first, wrong_lambda, wrong_type, wrong_expression}
use Rattle.wb_aql_check.proofs.walk.+check.Goals as goal

-- ---- parts are smaller

pub check_node-check_elements-requires : goal.check_node-check_elements-requires
check_node-check_elements-requires t c =
    let e : weight (tree_of c.args.node.now) ≡ suc (elements_weight (trees_in c.in-Collection.elements)) =
    ap (λ n. weight (tree_of n)) c.in-Collection.is ∙ ap weight (tree_collection _ _) in
    search rules

pub check_node-check_node-requires : goal.check_node-check_node-requires
check_node-check_node-requires t c =
    let e : weight (tree_of c.args.node.now) ≡ suc (weight (tree_of c.get.result.now)) =
    ap (λ n. weight (tree_of n)) c.in-Unary.is ∙ (ap weight (tree_unary _ _) ∙ ap (λ n. suc (weight (tree_of n))) (sym c.get.ensures)) in
    search rules

pub check_node-check_node-requires-in-Binary : goal.check_node-check_node-requires-in-Binary
check_node-check_node-requires-in-Binary t c =
    let e : weight (tree_of c.args.node.now) ≡ suc (weight (tree_of c.get-in-Binary.result.now) + weight (tree_of c.in-Binary.right)) =
    ap (λ n. weight (tree_of n)) c.in-Binary.is ∙ (ap weight (tree_binary _ _ _) ∙ rw c.get-in-Binary.ensures refl) in
    search rules

pub check_node-check_node-requires-in-Binary-2 : goal.check_node-check_node-requires-in-Binary-2
check_node-check_node-requires-in-Binary-2 t c =
    let e : weight (tree_of c.args.node.now) ≡ suc (weight (tree_of c.in-Binary.left) + weight (tree_of c.get-in-Binary-2.result.now)) =
    ap (λ n. weight (tree_of n)) c.in-Binary.is ∙ (ap weight (tree_binary _ _ _) ∙ rw c.get-in-Binary-2.ensures refl) in
    search rules

pub check_node-check_node-requires-in-If : goal.check_node-check_node-requires-in-If
check_node-check_node-requires-in-If t c =
    let e : weight (tree_of c.args.node.now) ≡ suc (weight (tree_of c.get-in-If.result.now) + (weight (tree_of c.in-If.yes) + weight (tree_of c.in-If.no))) =
    ap (λ n. weight (tree_of n)) c.in-If.is ∙ (ap weight (tree_conditional _ _ _) ∙ rw c.get-in-If.ensures refl) in
    search rules

pub check_node-check_node-requires-in-If-2 : goal.check_node-check_node-requires-in-If-2
check_node-check_node-requires-in-If-2 t c =
    let e : weight (tree_of c.args.node.now) ≡ suc (weight (tree_of c.in-If.condition) + (weight (tree_of c.get-in-If-2.result.now) + weight (tree_of c.in-If.no))) =
    ap (λ n. weight (tree_of n)) c.in-If.is ∙ (ap weight (tree_conditional _ _ _) ∙ rw c.get-in-If-2.ensures refl) in
    search rules

pub check_node-check_node-requires-in-If-3 : goal.check_node-check_node-requires-in-If-3
check_node-check_node-requires-in-If-3 t c =
    let e : weight (tree_of c.args.node.now) ≡ suc (weight (tree_of c.in-If.condition) + (weight (tree_of c.in-If.yes) + weight (tree_of c.get-in-If-3.result.now))) =
    ap (λ n. weight (tree_of n)) c.in-If.is ∙ (ap weight (tree_conditional _ _ _) ∙ rw c.get-in-If-3.ensures refl) in
    search rules

pub check_node-check_node-requires-in-Let : goal.check_node-check_node-requires-in-Let
check_node-check_node-requires-in-Let t c =
    let e : weight (tree_of c.args.node.now) ≡ suc (weight (tree_of c.get-in-Let.result.now) + weight (tree_of c.in-Let.body)) =
    ap (λ n. weight (tree_of n)) c.in-Let.is ∙ (ap weight (tree_let_in _ _ _) ∙ rw c.get-in-Let.ensures refl) in
    search rules

pub check_node-check_node-requires-in-Let-2 : goal.check_node-check_node-requires-in-Let-2
check_node-check_node-requires-in-Let-2 t c =
    let e : weight (tree_of c.args.node.now) ≡ suc (weight (tree_of c.in-Let.value) + weight (tree_of c.get-in-Let-2.result.now)) =
    ap (λ n. weight (tree_of n)) c.in-Let.is ∙ (ap weight (tree_let_in _ _ _) ∙ rw c.get-in-Let-2.ensures refl) in
    search rules

pub check_node-check_node-requires-in-Feature : goal.check_node-check_node-requires-in-Feature
check_node-check_node-requires-in-Feature t c =
    let e : weight (tree_of c.args.node.now) ≡ suc (weight (tree_of c.get-in-Feature.result.now)) =
    ap (λ n. weight (tree_of n)) c.in-Feature.is ∙ (ap weight (tree_feature _ _) ∙ ap (λ n. suc (weight (tree_of n))) (sym c.get-in-Feature.ensures)) in
    search rules

pub check_node-check_node-requires-in-Call : goal.check_node-check_node-requires-in-Call
check_node-check_node-requires-in-Call t c =
    let e : weight (tree_of c.args.node.now) ≡ suc (weight (tree_of c.get-in-Call.result.now) + arguments_weight (arguments_in c.in-Call.arguments)) =
    ap (λ n. weight (tree_of n)) c.in-Call.is ∙ (ap weight (tree_call _ _ _ _) ∙ ap (λ n. suc (weight (tree_of n) + arguments_weight (arguments_in c.in-Call.arguments))) (sym c.get-in-Call.ensures)) in
    search rules

pub check_node-check_arguments-requires : goal.check_node-check_arguments-requires
check_node-check_arguments-requires t c =
    let e : weight (tree_of c.args.node.now) ≡ suc (weight (tree_of c.get-in-Call.result.now) + arguments_weight (arguments_in c.in-Call.arguments)) =
    ap (λ n. weight (tree_of n)) c.in-Call.is ∙ (ap weight (tree_call _ _ _ _) ∙ ap (λ n. suc (weight (tree_of n) + arguments_weight (arguments_in c.in-Call.arguments))) (sym c.get-in-Call.ensures)) in
    search rules

-- ---- a node

pub check_node-returns-in-Integer : goal.check_node-returns-in-Integer
check_node-returns-in-Integer t c = rw (c.in-Integer.is, wrong_integer) refl

pub check_node-returns-in-Text : goal.check_node-returns-in-Text
check_node-returns-in-Text t c = rw (c.in-Text.is, wrong_text) refl

pub check_node-returns-in-Constant : goal.check_node-returns-in-Constant
check_node-returns-in-Constant t c = rw (c.in-Constant.is, wrong_constant) refl

pub check_node-returns-in-Variable : goal.check_node-returns-in-Variable
check_node-returns-in-Variable t c = rw (c.in-Variable.is, wrong_variable) c.check_variable.ensures

pub check_node-returns-in-Literal : goal.check_node-returns-in-Literal
check_node-returns-in-Literal t c = rw (c.in-Literal.is, wrong_literal) c.check_literal.ensures

pub check_node-returns-in-Collection : goal.check_node-returns-in-Collection
check_node-returns-in-Collection t c = rw (c.in-Collection.is, wrong_collection) c.check_elements.ensures

pub check_node-returns-in-Unary : goal.check_node-returns-in-Unary
check_node-returns-in-Unary t c = rw (c.in-Unary.is, wrong_unary, sym c.get.ensures) c.check_node.ensures

pub check_node-returns-in_ok-check_node-in-Binary : goal.check_node-returns-in_ok-check_node-in-Binary
check_node-returns-in_ok-check_node-in-Binary t c =
    rw (c.in-Binary.is, wrong_binary, sym c.get-in-Binary.ensures, sym c.get-in-Binary-2.ensures)
    (passed c.check_node-in-Binary-2.result _ _ c.in_ok-check_node-in-Binary.ensures c.check_node-in-Binary-2.ensures)

pub check_node-returns-in_ok-check_node-in-If-2 : goal.check_node-returns-in_ok-check_node-in-If-2
check_node-returns-in_ok-check_node-in-If-2 t c =
    rw (c.in-If.is, wrong_if, sym c.get-in-If.ensures, sym c.get-in-If-2.ensures, sym c.get-in-If-3.ensures)
    (passed c.check_node-in-If-3.result _ _ c.in_ok-check_node-in-If.ensures (passed c.check_node-in-If-3.result _ _ c.in_ok-check_node-in-If-2.ensures c.check_node-in-If-3.ensures))

pub check_node-returns-in_ok-check_node-in-Let : goal.check_node-returns-in_ok-check_node-in-Let
check_node-returns-in_ok-check_node-in-Let t c =
    rw (c.in-Let.is, wrong_let, sym c.get-in-Let.ensures, sym c.get-in-Let-2.ensures)
    (passed c.check_node-in-Let-2.result _ _ c.in_ok-check_node-in-Let.ensures (rw names_inner at c.check_node-in-Let-2.ensures))

pub check_node-returns-in_ok-check_node-in-Feature : goal.check_node-returns-in_ok-check_node-in-Feature
check_node-returns-in_ok-check_node-in-Feature t c =
    rw (c.in-Feature.is, wrong_feature, sym c.get-in-Feature.ensures)
    (passed c.check_feature.result _ _ c.in_ok-check_node-in-Feature.ensures c.check_feature.ensures)

pub check_node-returns-in_ok-check_service-in-Call : goal.check_node-returns-in_ok-check_service-in-Call
check_node-returns-in_ok-check_service-in-Call t c =
    rw (c.in-Call.is, wrong_call, sym c.get-in-Call.ensures)
    (passed c.check_arguments.result _ _ c.in_ok-check_node-in-Call.ensures (passed c.check_arguments.result _ _ c.in_ok-check_service-in-Call.ensures c.check_arguments.ensures))

-- ---- what is refused of a part

pub check_node-returns-in_err-check_node-in-Binary : goal.check_node-returns-in_err-check_node-in-Binary
check_node-returns-in_err-check_node-in-Binary t c =
    returned c.from_residual.result c.in_err-check_node-in-Binary.field-0.0 _ c.from_residual.ensures.1
    (rw (c.in-Binary.is, wrong_binary, sym c.get-in-Binary.ensures) (stopped _ _ _ c.in_err-check_node-in-Binary.ensures))

pub check_node-returns-in_err-check_node-in-If : goal.check_node-returns-in_err-check_node-in-If
check_node-returns-in_err-check_node-in-If t c =
    returned c.from_residual-in_err-check_node-in-If.result c.in_err-check_node-in-If.field-0.0 _ c.from_residual-in_err-check_node-in-If.ensures.1
    (rw (c.in-If.is, wrong_if, sym c.get-in-If.ensures) (stopped _ _ _ c.in_err-check_node-in-If.ensures))

pub check_node-returns-in_err-check_node-in-If-2 : goal.check_node-returns-in_err-check_node-in-If-2
check_node-returns-in_err-check_node-in-If-2 t c =
    returned c.from_residual-in_err-check_node-in-If-2.result c.in_err-check_node-in-If-2.field-0.0 _ c.from_residual-in_err-check_node-in-If-2.ensures.1
    (rw (c.in-If.is, wrong_if, sym c.get-in-If.ensures, sym c.get-in-If-2.ensures) (skipped _ _ _ c.in_ok-check_node-in-If.ensures (stopped _ _ _ c.in_err-check_node-in-If-2.ensures)))

pub check_node-returns-in_err-check_node-in-Let : goal.check_node-returns-in_err-check_node-in-Let
check_node-returns-in_err-check_node-in-Let t c =
    returned c.from_residual-in_err-check_node-in-Let.result c.in_err-check_node-in-Let.field-0.0 _ c.from_residual-in_err-check_node-in-Let.ensures.1
    (rw (c.in-Let.is, wrong_let, sym c.get-in-Let.ensures) (stopped _ _ _ c.in_err-check_node-in-Let.ensures))

pub check_node-returns-in_err-check_node-in-Feature : goal.check_node-returns-in_err-check_node-in-Feature
check_node-returns-in_err-check_node-in-Feature t c =
    returned c.from_residual-in_err-check_node-in-Feature.result c.in_err-check_node-in-Feature.field-0.0 _ c.from_residual-in_err-check_node-in-Feature.ensures.1
    (rw (c.in-Feature.is, wrong_feature, sym c.get-in-Feature.ensures) (stopped _ _ _ c.in_err-check_node-in-Feature.ensures))

pub check_node-returns-in_err-check_node-in-Call : goal.check_node-returns-in_err-check_node-in-Call
check_node-returns-in_err-check_node-in-Call t c =
    returned c.from_residual-in_err-check_node-in-Call.result c.in_err-check_node-in-Call.field-0.0 _ c.from_residual-in_err-check_node-in-Call.ensures.1
    (rw (c.in-Call.is, wrong_call, sym c.get-in-Call.ensures) (stopped _ _ _ c.in_err-check_node-in-Call.ensures))

pub check_node-returns-in_err-check_service-in-Call : goal.check_node-returns-in_err-check_service-in-Call
check_node-returns-in_err-check_service-in-Call t c =
    returned c.from_residual-in_err-check_service-in-Call.result c.in_err-check_service-in-Call.field-0.0 _ c.from_residual-in_err-check_service-in-Call.ensures.1
    (rw (c.in-Call.is, wrong_call, sym c.get-in-Call.ensures) (skipped _ _ _ c.in_ok-check_node-in-Call.ensures (stopped _ _ _ c.in_err-check_service-in-Call.ensures)))

-- ---- one argument

pub check_argument-returns-in-Lambda : goal.check_argument-returns-in-Lambda
check_argument-returns-in-Lambda t c = rw (c.in-Lambda.is, wrong_lambda, sym c.get.ensures) (rw names_inner at c.check_node.ensures)

pub check_argument-returns-in-Type : goal.check_argument-returns-in-Type
check_argument-returns-in-Type t c = rw (c.in-Type.is, wrong_type) c.check_class.ensures

pub check_argument-returns-in-Expression : goal.check_argument-returns-in-Expression
check_argument-returns-in-Expression t c = rw (c.in-Expression.is, wrong_expression, sym c.get-in-Expression.ensures) c.check_node-in-Expression.ensures

-- ---- elements

pub check_elements-check_node-requires : goal.check_elements-check_node-requires
check_elements-check_node-requires t c =
    let l = c.loop-element in
    let xs = c.as_slice-element-items.result.now in
    let x = c.element-item.result in
    let here : drop l.element-index xs ≡ x ∷ drop (l.element-index + 1) xs = drop_more xs l.element-index x (omega arith) ∙ ap (λ y. y ∷ drop (l.element-index + 1) xs) (sym c.element-item.is) in
    let smaller : weight (tree_of x) ≤ elements_weight (trees_in c.args.elements.now) =
    subst (λ ys. weight (tree_of x) ≤ elements_weight (trees_in ys)) c.as_slice-element-items.ensures (next_element l.element-index xs x _ here) in
    search rules

pub check_elements-loop-element-preserved : goal.check_elements-loop-element-preserved
check_elements-loop-element-preserved t c =
    let l = c.loop-element in
    let xs = c.as_slice-element-items.result.now in
    let x = c.element-item.result in
    let here : drop l.element-index xs ≡ x ∷ drop (l.element-index + 1) xs = drop_more xs l.element-index x (omega arith) ∙ ap (λ y. y ∷ drop (l.element-index + 1) xs) (sym c.element-item.is) in
    let mm = c.args.metamodel.now in
    let scope = names_of c.args.scope.now in
    let step = ap (λ ys. first_wrong_element mm scope (trees_in ys)) here ∙ element_first mm scope x (drop (l.element-index + 1) xs) in
    sym (step ∙ ap (λ f. option_or f (first_wrong_element mm scope (trees_in (drop (l.element-index + 1) xs)))) c.in_ok-check_node.ensures) ∙ l.invariant

pub check_elements-returns : goal.check_elements-returns
check_elements-returns t c =
    let l = c.loop-element in
    let xs = c.as_slice-element-items.result.now in
    let mm = c.args.metamodel.now in
    let scope = names_of c.args.scope.now in
    let none : drop l.element-index xs ≡ [] = drop_all l.element-index xs (omega arith) in
    sym (l.invariant ∙ ap (λ ys. first_wrong_element mm scope (trees_in ys)) c.as_slice-element-items.ensures) ∙ (ap (λ ys. first_wrong_element mm scope (trees_in ys)) none ∙ no_element mm scope)

pub check_elements-returns-in_err-check_node : goal.check_elements-returns-in_err-check_node
check_elements-returns-in_err-check_node t c =
    let l = c.loop-element in
    let xs = c.as_slice-element-items.result.now in
    let x = c.element-item.result in
    let here : drop l.element-index xs ≡ x ∷ drop (l.element-index + 1) xs = drop_more xs l.element-index x (omega arith) ∙ ap (λ y. y ∷ drop (l.element-index + 1) xs) (sym c.element-item.is) in
    let mm = c.args.metamodel.now in
    let scope = names_of c.args.scope.now in
    let step = ap (λ ys. first_wrong_element mm scope (trees_in ys)) here ∙ element_first mm scope x (drop (l.element-index + 1) xs) in
    let all = sym step ∙ (l.invariant ∙ ap (λ ys. first_wrong_element mm scope (trees_in ys)) c.as_slice-element-items.ensures) in
    returned c.from_residual.result c.in_err-check_node.field-0.0 _ c.from_residual.ensures.1 (subst (λ f. IsFirst c.in_err-check_node.field-0.0 f) all (stopped _ _ _ c.in_err-check_node.ensures))

-- ---- arguments

pub check_arguments-check_argument-requires : goal.check_arguments-check_argument-requires
check_arguments-check_argument-requires t c =
    let l = c.loop-argument in
    let xs = c.as_slice-argument-items.result.now in
    let x = c.argument-item.result in
    let here : drop l.argument-index xs ≡ x ∷ drop (l.argument-index + 1) xs = drop_more xs l.argument-index x (omega arith) ∙ ap (λ y. y ∷ drop (l.argument-index + 1) xs) (sym c.argument-item.is) in
    let smaller : arguments_weight (arguments_in (x ∷ [])) ≤ arguments_weight (arguments_in c.args.arguments.now) =
    subst (λ ys. arguments_weight (arguments_in (x ∷ [])) ≤ arguments_weight (arguments_in ys)) c.as_slice-argument-items.ensures (next_argument l.argument-index xs x _ here) in
    search rules

pub check_arguments-loop-argument-preserved : goal.check_arguments-loop-argument-preserved
check_arguments-loop-argument-preserved t c =
    let l = c.loop-argument in
    let xs = c.as_slice-argument-items.result.now in
    let x = c.argument-item.result in
    let here : drop l.argument-index xs ≡ x ∷ drop (l.argument-index + 1) xs = drop_more xs l.argument-index x (omega arith) ∙ ap (λ y. y ∷ drop (l.argument-index + 1) xs) (sym c.argument-item.is) in
    let mm = c.args.metamodel.now in
    let scope = names_of c.args.scope.now in
    let step = ap (λ ys. first_wrong_argument mm scope (arguments_in ys)) here ∙ argument_first mm scope x (drop (l.argument-index + 1) xs) in
    sym (step ∙ ap (λ f. option_or f (first_wrong_argument mm scope (arguments_in (drop (l.argument-index + 1) xs)))) c.in_ok-check_argument.ensures) ∙ l.invariant

pub check_arguments-returns : goal.check_arguments-returns
check_arguments-returns t c =
    let l = c.loop-argument in
    let xs = c.as_slice-argument-items.result.now in
    let mm = c.args.metamodel.now in
    let scope = names_of c.args.scope.now in
    let none : drop l.argument-index xs ≡ [] = drop_all l.argument-index xs (omega arith) in
    sym (l.invariant ∙ ap (λ ys. first_wrong_argument mm scope (arguments_in ys)) c.as_slice-argument-items.ensures) ∙ (ap (λ ys. first_wrong_argument mm scope (arguments_in ys)) none ∙ no_argument mm scope)

pub check_arguments-returns-in_err-check_argument : goal.check_arguments-returns-in_err-check_argument
check_arguments-returns-in_err-check_argument t c =
    let l = c.loop-argument in
    let xs = c.as_slice-argument-items.result.now in
    let x = c.argument-item.result in
    let here : drop l.argument-index xs ≡ x ∷ drop (l.argument-index + 1) xs = drop_more xs l.argument-index x (omega arith) ∙ ap (λ y. y ∷ drop (l.argument-index + 1) xs) (sym c.argument-item.is) in
    let mm = c.args.metamodel.now in
    let scope = names_of c.args.scope.now in
    let step = ap (λ ys. first_wrong_argument mm scope (arguments_in ys)) here ∙ argument_first mm scope x (drop (l.argument-index + 1) xs) in
    let all = sym step ∙ (l.invariant ∙ ap (λ ys. first_wrong_argument mm scope (arguments_in ys)) c.as_slice-argument-items.ensures) in
    returned c.from_residual.result c.in_err-check_argument.field-0.0 _ c.from_residual.ensures.1 (subst (λ f. IsFirst c.in_err-check_argument.field-0.0 f) all (stopped _ _ _ c.in_err-check_argument.ensures))
