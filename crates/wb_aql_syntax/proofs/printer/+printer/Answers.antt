use Rattle.std.proofs.Common.{rules, arith, ◌≡◌, ◌≤◌, ◌+◌, suc, [], ◌∷◌, ◌++◌, true, false, drop, string_bytes, refl, sym, ap, ◌∙◌, subst}
use Rattle.std.proofs.lemmas.List.{drop_more, drop_all}
use Rattle.std.proofs.lemmas.Result.{on_ok_weaker}
use Rattle.wb_aql_grammar.specs.Tree as tree
use Rattle.wb_aql_grammar.specs.View.{tree_of, trees_in, arguments_in}
use Rattle.wb_aql_syntax.specs.Canonical.{blank, token, mark, apart, prefix, comma_if, enclosed, standing, stands, tightness, pieces, element_pieces, argument_pieces}
use Rattle.wb_aql_syntax.specs.Printed.{bytes_in, Wrote}
use Rattle.wb_aql_tokens.specs.declared.token.Token.TheVariants.{Name}
use Rattle.wb_aql_tokens.specs.declared.token.Sign.TheVariants as s
use Rattle.wb_aql_syntax.specs.declared.tightness.Tightness.TheVariants as at
use Rattle.wb_aql_grammar.proofs.Nodes.{tree_integer, tree_text, tree_constant, tree_variable, tree_literal, tree_collection, tree_unary, tree_binary, tree_conditional, tree_let_in, tree_feature, tree_call}
use Rattle.wb_aql_syntax.proofs.Forms.{pieces_integer, pieces_text, pieces_constant, pieces_variable, pieces_unary, pieces_binary, pieces_if, pieces_let, pieces_feature, pieces_call, pieces_collection, no_element_pieces, element_pieces_behind, no_argument_pieces, lambda_pieces, type_pieces, expression_pieces, argument_pieces_behind}
use Rattle.wb_aql_grammar.proofs.Weights.{weight, elements_weight, arguments_weight, next_element, next_argument}
use Rattle.wb_aql_syntax.proofs.Writing.{two, three, one_more, no_more}
use Rattle.wb_aql_syntax.proofs.printer.+printer.Goals as goal

-- ---- one argument

pub write_argument-returns-in_ok-write_apart-in-Lambda : goal.write_argument-returns-in_ok-write_apart-in-Lambda
write_argument-returns-in_ok-write_apart-in-Lambda t c =
    on_ok_weaker c.write_bare.result (λ w.
    rw (c.in-Lambda.is, lambda_pieces, sym c.get.ensures)
    (three (string_bytes c.args.out.now) (string_bytes c.write_name.new.out) (token (Name c.in-Lambda.name) ∷ []) (apart s.Bar) (pieces (tree_of c.get.result.now))
    c.in_ok-write_name-in-Lambda.ensures c.in_ok-write_apart-in-Lambda.ensures w)) c.write_bare.ensures

pub write_argument-returns-in_ok-write_sign-in-Type : goal.write_argument-returns-in_ok-write_sign-in-Type
write_argument-returns-in_ok-write_sign-in-Type t c =
    on_ok_weaker c.write_name-in-Type-2.result (λ w.
    rw (c.in-Type.is, type_pieces)
    (three (string_bytes c.args.out.now) (string_bytes c.write_name-in-Type.new.out) (token (Name c.in-Type.package) ∷ []) (mark s.Colons ∷ []) (token (Name c.in-Type.class) ∷ [])
    c.in_ok-write_name-in-Type.ensures c.in_ok-write_sign-in-Type.ensures w)) c.write_name-in-Type-2.ensures

pub write_argument-returns-in-Expression : goal.write_argument-returns-in-Expression
write_argument-returns-in-Expression t c =
    on_ok_weaker c.write_bare-in-Expression.result (λ w. rw (c.in-Expression.is, expression_pieces, sym c.get-in-Expression.ensures) w) c.write_bare-in-Expression.ensures

-- ---- the arguments

pub write_arguments-write_argument-requires : goal.write_arguments-write_argument-requires
write_arguments-write_argument-requires t c =
    let l = c.loop-argument in
    let xs = c.as_slice-argument-items.result.now in
    let x = c.argument-item.result in
    let here : drop l.argument-index xs ≡ x ∷ drop (l.argument-index + 1) xs = drop_more xs l.argument-index x (omega arith) ∙ ap (λ y. y ∷ drop (l.argument-index + 1) xs) (sym c.argument-item.is) in
    let smaller : arguments_weight (arguments_in (x ∷ [])) ≤ arguments_weight (arguments_in c.args.arguments.now) =
    subst (λ ys. arguments_weight (arguments_in (x ∷ [])) ≤ arguments_weight (arguments_in ys)) c.as_slice-argument-items.ensures (next_argument l.argument-index xs x _ here) in
    search rules

pub write_arguments-loop-argument-preserved : goal.write_arguments-loop-argument-preserved
write_arguments-loop-argument-preserved t c =
    let l = c.loop-argument in
    let xs = c.as_slice-argument-items.result.now in
    let x = c.argument-item.result in
    let here : drop l.argument-index xs ≡ x ∷ drop (l.argument-index + 1) xs = drop_more xs l.argument-index x (omega arith) ∙ ap (λ y. y ∷ drop (l.argument-index + 1) xs) (sym c.argument-item.is) in
    one_more (string_bytes l.out) (comma_if l.later) (argument_pieces false (arguments_in (x ∷ []))) (argument_pieces true (arguments_in (drop (l.argument-index + 1) xs)))
    c.in_ok-write_comma.ensures c.in_ok-write_argument.ensures
    (ap (λ ps. string_bytes l.out ++ bytes_in ps) (sym (ap (λ ys. argument_pieces l.later (arguments_in ys)) here ∙ argument_pieces_behind l.later x (drop (l.argument-index + 1) xs))) ∙ l.invariant)

pub write_arguments-returns : goal.write_arguments-returns
write_arguments-returns t c =
    let l = c.loop-argument in
    let xs = c.as_slice-argument-items.result.now in
    let none : drop l.argument-index xs ≡ [] = drop_all l.argument-index xs (omega arith) in
    let all : string_bytes l.out ≡ string_bytes c.write_sign.new.out ++ bytes_in (argument_pieces false (arguments_in c.args.arguments.now)) =
    no_more (string_bytes l.out) (argument_pieces l.later (arguments_in (drop l.argument-index xs))) (ap (λ ys. argument_pieces l.later (arguments_in ys)) none ∙ no_argument_pieces l.later) l.invariant
    ∙ ap (λ ys. string_bytes c.write_sign.new.out ++ bytes_in (argument_pieces false (arguments_in ys))) c.as_slice-argument-items.ensures in
    on_ok_weaker c.write_sign-2.result (λ w.
    three (string_bytes c.args.out.now) (string_bytes c.write_sign.new.out) (mark s.Open ∷ []) (argument_pieces false (arguments_in c.args.arguments.now)) (mark s.Close ∷ [])
    c.in_ok-write_sign.ensures all w) c.write_sign-2.ensures

-- ---- parentheses

pub write_at-returns : goal.write_at-returns
write_at-returns t c =
    let no : stands c.args.wanted (tightness (tree_of c.args.e.now)) ≡ false = ap (stands c.args.wanted) (sym c.tightness_of.ensures) ∙ (sym c.stands.ensures ∙ c.if-stands.false) in
    on_ok_weaker c.write_sign-2.result (λ w.
    subst (λ yes. Wrote c.args.out.now (enclosed yes (pieces (tree_of c.args.e.now))) c.write_sign-2.new.out) (sym no)
    (three (string_bytes c.args.out.now) (string_bytes c.write_sign.new.out) (mark s.Open ∷ []) (pieces (tree_of c.args.e.now)) (mark s.Close ∷ [])
    c.in_ok-write_sign.ensures c.in_ok-write_bare.ensures w)) c.write_sign-2.ensures

-- ---- the parts of a tree are smaller

pub write_bare-write_collection-requires : goal.write_bare-write_collection-requires
write_bare-write_collection-requires t c =
    let e : weight (tree_of c.args.e.now) ≡ suc (elements_weight (trees_in c.in-Collection.elements)) = ap (λ n. weight (tree_of n)) c.in-Collection.is ∙ ap weight (tree_collection _ _) in
    search rules

pub write_bare-write_at-requires : goal.write_bare-write_at-requires
write_bare-write_at-requires t c =
    let e : weight (tree_of c.args.e.now) ≡ suc (weight (tree_of c.get.result.now)) = ap (λ n. weight (tree_of n)) c.in-Unary.is ∙ (ap weight (tree_unary _ _) ∙ ap (λ n. suc (weight (tree_of n))) (sym c.get.ensures)) in
    search rules

pub write_bare-write_binary-requires : goal.write_bare-write_binary-requires
write_bare-write_binary-requires t c =
    let e : weight (tree_of c.args.e.now) ≡ suc (weight (tree_of c.get-in-Binary.result.now) + weight (tree_of c.get-in-Binary-2.result.now)) =
    ap (λ n. weight (tree_of n)) c.in-Binary.is ∙ (ap weight (tree_binary _ _ _) ∙ rw (c.get-in-Binary.ensures, c.get-in-Binary-2.ensures) refl) in
    search rules

pub write_bare-write_if-requires : goal.write_bare-write_if-requires
write_bare-write_if-requires t c =
    let e : weight (tree_of c.args.e.now) ≡ suc (weight (tree_of c.get-in-If.result.now) + (weight (tree_of c.get-in-If-2.result.now) + weight (tree_of c.get-in-If-3.result.now))) =
    ap (λ n. weight (tree_of n)) c.in-If.is ∙ (ap weight (tree_conditional _ _ _) ∙ rw (c.get-in-If.ensures, c.get-in-If-2.ensures, c.get-in-If-3.ensures) refl) in
    search rules

pub write_bare-write_let-requires : goal.write_bare-write_let-requires
write_bare-write_let-requires t c =
    let e : weight (tree_of c.args.e.now) ≡ suc (weight (tree_of c.get-in-Let.result.now) + weight (tree_of c.get-in-Let-2.result.now)) =
    ap (λ n. weight (tree_of n)) c.in-Let.is ∙ (ap weight (tree_let_in _ _ _) ∙ rw (c.get-in-Let.ensures, c.get-in-Let-2.ensures) refl) in
    search rules

pub write_bare-write_at-requires-in-Feature : goal.write_bare-write_at-requires-in-Feature
write_bare-write_at-requires-in-Feature t c =
    let e : weight (tree_of c.args.e.now) ≡ suc (weight (tree_of c.get-in-Feature.result.now)) = ap (λ n. weight (tree_of n)) c.in-Feature.is ∙ (ap weight (tree_feature _ _) ∙ ap (λ n. suc (weight (tree_of n))) (sym c.get-in-Feature.ensures)) in
    search rules

pub write_bare-write_at-requires-in-Call : goal.write_bare-write_at-requires-in-Call
write_bare-write_at-requires-in-Call t c =
    let e : weight (tree_of c.args.e.now) ≡ suc (weight (tree_of c.get-in-Call.result.now) + arguments_weight (arguments_in c.in-Call.arguments)) =
    ap (λ n. weight (tree_of n)) c.in-Call.is ∙ (ap weight (tree_call _ _ _ _) ∙ ap (λ n. suc (weight (tree_of n) + arguments_weight (arguments_in c.in-Call.arguments))) (sym c.get-in-Call.ensures)) in
    search rules

pub write_bare-write_arguments-requires : goal.write_bare-write_arguments-requires
write_bare-write_arguments-requires t c =
    let e : weight (tree_of c.args.e.now) ≡ suc (weight (tree_of c.get-in-Call.result.now) + arguments_weight (arguments_in c.in-Call.arguments)) =
    ap (λ n. weight (tree_of n)) c.in-Call.is ∙ (ap weight (tree_call _ _ _ _) ∙ ap (λ n. suc (weight (tree_of n) + arguments_weight (arguments_in c.in-Call.arguments))) (sym c.get-in-Call.ensures)) in
    search rules

-- ---- a tree

pub write_bare-returns-in-Integer : goal.write_bare-returns-in-Integer
write_bare-returns-in-Integer t c = rw (c.in-Integer.is, tree_integer, pieces_integer) c.write_integer.ensures

pub write_bare-returns-in-Text : goal.write_bare-returns-in-Text
write_bare-returns-in-Text t c = rw (c.in-Text.is, tree_text, pieces_text) c.write_quoted.ensures

pub write_bare-returns-in-Constant : goal.write_bare-returns-in-Constant
write_bare-returns-in-Constant t c = rw (c.in-Constant.is, tree_constant, pieces_constant, sym c.word_of_constant.ensures) c.write_sign.ensures

pub write_bare-returns-in-Variable : goal.write_bare-returns-in-Variable
write_bare-returns-in-Variable t c = rw (c.in-Variable.is, tree_variable, pieces_variable) c.write_name.ensures

pub write_bare-returns-in-Literal : goal.write_bare-returns-in-Literal
write_bare-returns-in-Literal t c = rw (c.in-Literal.is, tree_literal) c.write_literal.ensures

pub write_bare-returns-in-Collection : goal.write_bare-returns-in-Collection
write_bare-returns-in-Collection t c = rw (c.in-Collection.is, tree_collection) c.write_collection.ensures

pub write_bare-returns-in_ok-write_prefix-in-Unary : goal.write_bare-returns-in_ok-write_prefix-in-Unary
write_bare-returns-in_ok-write_prefix-in-Unary t c =
    let e : pieces (tree_of c.args.e.now) ≡ prefix c.in-Unary.operator ++ standing c.prefix_of.result (tree_of c.get.result.now) (pieces (tree_of c.get.result.now)) =
    ap (λ n. pieces (tree_of n)) c.in-Unary.is ∙ (ap pieces (tree_unary _ _) ∙ (pieces_unary _ _ ∙ rw (c.prefix_of.ensures, c.get.ensures) refl)) in
    on_ok_weaker c.write_at.result (λ w.
    subst (λ ps. Wrote c.args.out.now ps c.write_at.new.out) (sym e)
    (two (string_bytes c.args.out.now) (prefix c.in-Unary.operator) (standing c.prefix_of.result (tree_of c.get.result.now) (pieces (tree_of c.get.result.now))) c.in_ok-write_prefix-in-Unary.ensures w)) c.write_at.ensures

pub write_bare-returns-in-Binary : goal.write_bare-returns-in-Binary
write_bare-returns-in-Binary t c = rw (c.in-Binary.is, tree_binary, sym c.get-in-Binary.ensures, sym c.get-in-Binary-2.ensures) c.write_binary.ensures

pub write_bare-returns-in-If : goal.write_bare-returns-in-If
write_bare-returns-in-If t c = rw (c.in-If.is, tree_conditional, sym c.get-in-If.ensures, sym c.get-in-If-2.ensures, sym c.get-in-If-3.ensures) c.write_if.ensures

pub write_bare-returns-in-Let : goal.write_bare-returns-in-Let
write_bare-returns-in-Let t c = rw (c.in-Let.is, tree_let_in, sym c.get-in-Let.ensures, sym c.get-in-Let-2.ensures) c.write_let.ensures

pub write_bare-returns-in_ok-write_sign-in-Feature : goal.write_bare-returns-in_ok-write_sign-in-Feature
write_bare-returns-in_ok-write_sign-in-Feature t c =
    let e : pieces (tree_of c.args.e.now) ≡ standing at.Post (tree_of c.get-in-Feature.result.now) (pieces (tree_of c.get-in-Feature.result.now)) ++ (mark s.Dot ∷ token (Name c.in-Feature.name) ∷ []) =
    ap (λ n. pieces (tree_of n)) c.in-Feature.is ∙ (ap pieces (tree_feature _ _) ∙ (pieces_feature _ _ ∙ rw c.get-in-Feature.ensures refl)) in
    on_ok_weaker c.write_name-in-Feature.result (λ w.
    subst (λ ps. Wrote c.args.out.now ps c.write_name-in-Feature.new.out) (sym e)
    (three (string_bytes c.args.out.now) (string_bytes c.write_at-in-Feature.new.out) (standing at.Post (tree_of c.get-in-Feature.result.now) (pieces (tree_of c.get-in-Feature.result.now))) (mark s.Dot ∷ []) (token (Name c.in-Feature.name) ∷ [])
    c.in_ok-write_at-in-Feature.ensures c.in_ok-write_sign-in-Feature.ensures w)) c.write_name-in-Feature.ensures

pub write_bare-returns-in_ok-write_name-in-Call : goal.write_bare-returns-in_ok-write_name-in-Call
write_bare-returns-in_ok-write_name-in-Call t c =
    let x = tree_of c.get-in-Call.result.now in
    let behind = enclosed false (argument_pieces false (arguments_in c.in-Call.arguments)) in
    let e : pieces (tree_of c.args.e.now) ≡ standing at.Post x (pieces x) ++ (mark c.link_of.result ∷ token (Name c.in-Call.name) ∷ behind) =
    ap (λ n. pieces (tree_of n)) c.in-Call.is ∙ (ap pieces (tree_call _ _ _ _) ∙ (pieces_call _ _ _ _ ∙ rw (c.get-in-Call.ensures, c.link_of.ensures) refl)) in
    on_ok_weaker c.write_arguments.result (λ w.
    subst (λ ps. Wrote c.args.out.now ps c.write_arguments.new.out) (sym e)
    (two (string_bytes c.args.out.now) (standing at.Post x (pieces x)) (mark c.link_of.result ∷ token (Name c.in-Call.name) ∷ behind) c.in_ok-write_at-in-Call.ensures
    (three (string_bytes c.write_at-in-Call.new.out) (string_bytes c.write_sign-in-Call.new.out) (mark c.link_of.result ∷ []) (token (Name c.in-Call.name) ∷ []) behind
    c.in_ok-write_sign-in-Call.ensures c.in_ok-write_name-in-Call.ensures w))) c.write_arguments.ensures

-- ---- binary operators, conditions and bindings

pub write_binary-returns : goal.write_binary-returns
write_binary-returns t c =
    let x = tree_of c.args.left.now in
    let y = tree_of c.args.right.now in
    let e : pieces (tree.Binary c.args.operator x y) ≡ standing c.left_of.result x (pieces x) ++ (apart c.sign_of.result ++ standing c.right_of.result y (pieces y)) =
    pieces_binary c.args.operator x y ∙ rw (c.left_of.ensures, c.sign_of.ensures, c.right_of.ensures) refl in
    on_ok_weaker c.write_at-2.result (λ w.
    subst (λ ps. Wrote c.args.out.now ps c.write_at-2.new.out) (sym e)
    (three (string_bytes c.args.out.now) (string_bytes c.write_at.new.out) (standing c.left_of.result x (pieces x)) (apart c.sign_of.result) (standing c.right_of.result y (pieces y))
    c.in_ok-write_at.ensures c.in_ok-write_apart.ensures w)) c.write_at-2.ensures

pub write_if-returns : goal.write_if-returns
write_if-returns t c =
    let x = tree_of c.args.condition.now in
    let y = tree_of c.args.yes.now in
    let z = tree_of c.args.no.now in
    let last = blank ∷ mark s.Endif ∷ [] in
    let third = pieces z ++ last in
    let second = pieces y ++ (apart s.Else ++ third) in
    let first = pieces x ++ (apart s.Then ++ second) in
    on_ok_weaker c.write_sign-2.result (λ w.
    subst (λ ps. Wrote c.args.out.now ps c.write_sign-2.new.out) (sym (pieces_if x y z))
    (three (string_bytes c.args.out.now) (string_bytes c.write_sign.new.out) (mark s.If ∷ []) (blank ∷ []) first c.in_ok-write_sign.ensures c.in_ok-write_blank.ensures
    (three (string_bytes c.write_blank.new.out) (string_bytes c.write_bare.new.out) (pieces x) (apart s.Then) second c.in_ok-write_bare.ensures c.in_ok-write_apart.ensures
    (three (string_bytes c.write_apart.new.out) (string_bytes c.write_bare-2.new.out) (pieces y) (apart s.Else) third c.in_ok-write_bare-2.ensures c.in_ok-write_apart-2.ensures
    (three (string_bytes c.write_apart-2.new.out) (string_bytes c.write_bare-3.new.out) (pieces z) (blank ∷ []) (mark s.Endif ∷ []) c.in_ok-write_bare-3.ensures c.in_ok-write_blank-2.ensures w))))) c.write_sign-2.ensures

pub write_let-returns : goal.write_let-returns
write_let-returns t c =
    let x = tree_of c.args.value.now in
    let y = tree_of c.args.body.now in
    let second = pieces x ++ (apart s.In ++ pieces y) in
    let first = token (Name c.args.name.now) ∷ (apart s.Equal ++ second) in
    on_ok_weaker c.write_bare-2.result (λ w.
    subst (λ ps. Wrote c.args.out.now ps c.write_bare-2.new.out) (sym (pieces_let c.args.name.now x y))
    (three (string_bytes c.args.out.now) (string_bytes c.write_sign.new.out) (mark s.Let ∷ []) (blank ∷ []) first c.in_ok-write_sign.ensures c.in_ok-write_blank.ensures
    (three (string_bytes c.write_blank.new.out) (string_bytes c.write_name.new.out) (token (Name c.args.name.now) ∷ []) (apart s.Equal) second c.in_ok-write_name.ensures c.in_ok-write_apart.ensures
    (three (string_bytes c.write_apart.new.out) (string_bytes c.write_bare.new.out) (pieces x) (apart s.In) (pieces y) c.in_ok-write_bare.ensures c.in_ok-write_apart-2.ensures w)))) c.write_bare-2.ensures

-- ---- collections

pub write_collection-write_bare-requires : goal.write_collection-write_bare-requires
write_collection-write_bare-requires t c =
    let l = c.loop-element in
    let xs = c.as_slice-element-items.result.now in
    let x = c.element-item.result in
    let here : drop l.element-index xs ≡ x ∷ drop (l.element-index + 1) xs = drop_more xs l.element-index x (omega arith) ∙ ap (λ y. y ∷ drop (l.element-index + 1) xs) (sym c.element-item.is) in
    let smaller : weight (tree_of x) ≤ elements_weight (trees_in c.args.elements.now) =
    subst (λ ys. weight (tree_of x) ≤ elements_weight (trees_in ys)) c.as_slice-element-items.ensures (next_element l.element-index xs x _ here) in
    search rules

pub write_collection-loop-element-preserved : goal.write_collection-loop-element-preserved
write_collection-loop-element-preserved t c =
    let l = c.loop-element in
    let xs = c.as_slice-element-items.result.now in
    let x = c.element-item.result in
    let here : drop l.element-index xs ≡ x ∷ drop (l.element-index + 1) xs = drop_more xs l.element-index x (omega arith) ∙ ap (λ y. y ∷ drop (l.element-index + 1) xs) (sym c.element-item.is) in
    one_more (string_bytes l.out) (comma_if l.later) (pieces (tree_of x)) (element_pieces true (trees_in (drop (l.element-index + 1) xs)))
    c.in_ok-write_comma.ensures c.in_ok-write_bare.ensures
    (ap (λ ps. string_bytes l.out ++ bytes_in ps) (sym (ap (λ ys. element_pieces l.later (trees_in ys)) here ∙ element_pieces_behind l.later (tree_of x) (trees_in (drop (l.element-index + 1) xs)))) ∙ l.invariant)

pub write_collection-returns : goal.write_collection-returns
write_collection-returns t c =
    let l = c.loop-element in
    let xs = c.as_slice-element-items.result.now in
    let none : drop l.element-index xs ≡ [] = drop_all l.element-index xs (omega arith) in
    let inside = element_pieces false (trees_in c.args.elements.now) in
    let all : string_bytes l.out ≡ string_bytes c.write_sign-2.new.out ++ bytes_in inside =
    no_more (string_bytes l.out) (element_pieces l.later (trees_in (drop l.element-index xs))) (ap (λ ys. element_pieces l.later (trees_in ys)) none ∙ no_element_pieces l.later) l.invariant
    ∙ ap (λ ys. string_bytes c.write_sign-2.new.out ++ bytes_in (element_pieces false (trees_in ys))) c.as_slice-element-items.ensures in
    let e : pieces (tree.Collection c.args.kind (trees_in c.args.elements.now)) ≡ mark c.word_of_kind.result ∷ mark s.OpenBrace ∷ (inside ++ (mark s.CloseBrace ∷ [])) =
    pieces_collection c.args.kind (trees_in c.args.elements.now) ∙ rw c.word_of_kind.ensures refl in
    on_ok_weaker c.write_sign-3.result (λ w.
    subst (λ ps. Wrote c.args.out.now ps c.write_sign-3.new.out) (sym e)
    (three (string_bytes c.args.out.now) (string_bytes c.write_sign.new.out) (mark c.word_of_kind.result ∷ []) (mark s.OpenBrace ∷ []) (inside ++ (mark s.CloseBrace ∷ [])) c.in_ok-write_sign.ensures c.in_ok-write_sign-2.ensures
    (two (string_bytes c.write_sign-2.new.out) inside (mark s.CloseBrace ∷ []) all w))) c.write_sign-3.ensures
