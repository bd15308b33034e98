use Rattle.std.proofs.Common.{arith, refl, sym, subst, ap, ◌∙◌}
use Rattle.std.proofs.lemmas.Result.{IfOk-weaker}
use Rattle.wb_aql_grammar.specs.Tree as tree
use Rattle.wb_aql_grammar.specs.View.{tree_of, arguments_in}
use Rattle.wb_aql_grammar.specs.Grammar.{last, PostMore}
use Rattle.wb_aql_grammar.specs.invariants.Runs as run
use Rattle.wb_aql_grammar.specs.invariants.Runs.{Runs}
use Rattle.wb_aql_grammar.specs.invariants.Reading.{more}
use Rattle.wb_aql_tokens.specs.declared.token.Token.TheVariants.{Name}
use Rattle.wb_aql_grammar.proofs.Growing.{trees_in-push, arguments_in-push}
use Rattle.wb_aql_grammar.proofs.Local.{not_both}
use Rattle.wb_aql_grammar.proofs.Parts.{exit, as_tree, stop_by, stop_phrase, stop_inside, comes_linked, comes_argument, comes_enclosed}
use Rattle.wb_aql_grammar.proofs.Picks.{begins_chain, takes_let, takes_implies, takes_not, takes_comparison, takes_minus, takes_post, takes_integer, takes_text, takes_name, no_atom_end, no_atom_bad, no_atom_sign, takes_null, takes_true, takes_false, takes_parentheses, takes_if, takes_sequence, takes_ordered_set, takes_no_arguments, takes_arguments, takes_more_arguments, ends_arguments, takes_argument, takes_no_elements, takes_elements, takes_element, takes_more_elements, ends_elements, takes_sum, takes_atom}
use Rattle.wb_aql_grammar.proofs.Shorter.{runs_within, sign_within, name_within, enters_within, behind_within}
use Rattle.wb_aql_grammar.proofs.Steps.{comes, enclose, join}
use Rattle.wb_aql_grammar.proofs.+parser.Goals as goal

-- ---- expressions

pub parser::parse_expression-returns-in_err-inside : goal.parser::parse_expression-returns-in_err-inside
parser::parse_expression-returns-in_err-inside t c = exit _ _ _ _ c.from_residual.ensures.1
    (stop_by _ (takes_let _ (c.if-is_next.ensures.0 refl)) (c.in_err-inside.ensures.entered _ _))

pub parser::parse_expression-returns-in_ok-inside : goal.parser::parse_expression-returns-in_ok-inside
parser::parse_expression-returns-in_ok-inside t c = comes _ _ _ _ _ _ _ _ _
    (λ o d. takes_let _ (c.if-is_next.ensures.0 refl) o (enclose c.in_ok-inside.ensures.entered _ o d)) c.parse_binding.ensures

pub parser::parse_expression-returns-else-is_next : goal.parser::parse_expression-returns-else-is_next
parser::parse_expression-returns-else-is_next t c = comes _ _ _ _ _ _ _ _ _
    (takes_implies _ (λ h. not_both (c.if-is_next.ensures.1 h))) c.parse_level.ensures

pub parser::parse_ended-returns-in_err-node : goal.parser::parse_ended-returns-in_err-node
parser::parse_ended-returns-in_err-node t c = exit _ _ _ _ c.from_residual.ensures.1 (λ r. stop_phrase _ _ _ _ _ _ c.in_err-node.ensures)

pub parser::parse_ended-returns-in_err-rest : goal.parser::parse_ended-returns-in_err-rest
parser::parse_ended-returns-in_err-rest t c = exit _ _ _ _ c.from_residual-in_err-rest.ensures.1
    (λ r. stop_by _ (join c.in_ok-node.ensures _) (c.in_err-rest.ensures _ _ _))

pub parser::parse_ended-returns : goal.parser::parse_ended-returns
parser::parse_ended-returns t c = λ r o d. join c.in_ok-node.ensures _ o (c.in_ok-rest.ensures _ _ _ o d)

pub parser::parse_binding-returns-in_err-name : goal.parser::parse_binding-returns-in_err-name
parser::parse_binding-returns-in_err-name t c = exit _ _ _ _ c.from_residual.ensures.1 (c.in_err-name.ensures _ _ _)

pub parser::parse_binding-returns-in_err-rest : goal.parser::parse_binding-returns-in_err-rest
parser::parse_binding-returns-in_err-rest t c = exit _ _ _ _ c.from_residual-in_err-rest.ensures.1
    (stop_by _ (c.in_ok-name.ensures _ _ _) (c.in_err-rest.ensures _ _ _))

pub parser::parse_binding-returns-in_err-value : goal.parser::parse_binding-returns-in_err-value
parser::parse_binding-returns-in_err-value t c = exit _ _ _ _ c.from_residual-in_err-value.ensures.1
    (stop_by _ (c.in_ok-name.ensures _ _ _) (stop_by _ (c.in_ok-rest.ensures _ _ _) (c.in_err-value.ensures _)))

pub parser::parse_binding-returns-in_err-body : goal.parser::parse_binding-returns-in_err-body
parser::parse_binding-returns-in_err-body t c = exit _ _ _ _ c.from_residual-in_err-body.ensures.1
    (stop_by _ (c.in_ok-name.ensures _ _ _) (stop_by _ (c.in_ok-rest.ensures _ _ _)
    (stop_by _ (c.in_ok-value.ensures _) (stop_phrase _ _ _ _ _ _ c.in_err-body.ensures))))

pub parser::parse_binding-returns : goal.parser::parse_binding-returns
parser::parse_binding-returns t c = as_tree c.in_ok-let_in.ensures
    (c.in_ok-name.ensures _ _ _ _ (c.in_ok-rest.ensures _ _ _ _ (c.in_ok-value.ensures _ _ (join c.in_ok-body.ensures _ _ run.runs_done))))

-- ---- levels

pub parser::parse_level-returns-in_err-left : goal.parser::parse_level-returns-in_err-left
parser::parse_level-returns-in_err-left t c = exit _ _ _ _ c.from_residual.ensures.1
    (stop_by _ (begins_chain c.args.level _) (stop_phrase _ _ _ _ _ _ c.in_err-left.ensures))

pub parser::parse_level-chain-init : goal.parser::parse_level-chain-init
parser::parse_level-chain-init t c = λ o d. begins_chain c.args.level _ o (join c.in_ok-left.ensures _ o d)

pub parser::parse_level-returns-in_err-right : goal.parser::parse_level-returns-in_err-right
parser::parse_level-returns-in_err-right t c = exit _ _ _ _ c.from_residual-in_err-right.ensures.1
    (stop_by _ c.chain.invariant (stop_by _ (c.in-Some.ensures.operator _ _ _) (stop_phrase _ _ _ _ _ _ c.in_err-right.ensures)))

pub parser::parse_level-chain-smaller : goal.parser::parse_level-chain-smaller
parser::parse_level-chain-smaller t c = omega (arith, c.in-Some.ensures.shorter, runs_within c.in_ok-right.ensures)

pub parser::parse_level-chain-preserved : goal.parser::parse_level-chain-preserved
parser::parse_level-chain-preserved t c = λ o d. c.chain.invariant o (c.in-Some.ensures.operator _ _ _ o (join c.in_ok-right.ensures _ o
    (subst (λ z. Runs c.args.room.openings c.args.room.lambdas (last (more c.args.level z)) c.in_ok-right.after.now o) c.in_ok-left-2.ensures d)))

pub parser::parse_comparison-returns-in_err-left : goal.parser::parse_comparison-returns-in_err-left
parser::parse_comparison-returns-in_err-left t c = exit _ _ _ _ c.from_residual.ensures.1
    (stop_by _ (takes_sum _) (stop_phrase _ _ _ _ _ _ c.in_err-left.ensures))

pub parser::parse_comparison-returns-in_err-right-in-Some : goal.parser::parse_comparison-returns-in_err-right-in-Some
parser::parse_comparison-returns-in_err-right-in-Some t c = exit _ _ _ _ c.from_residual-in_err-right-in-Some.ensures.1
    (stop_by _ (takes_sum _) (stop_by _ (join c.in_ok-left.ensures _) (stop_by _ (c.in-Some.ensures _ _ _) (stop_phrase _ _ _ _ _ _ c.in_err-right-in-Some.ensures))))

pub parser::parse_comparison-returns-in_ok-binary-in-Some : goal.parser::parse_comparison-returns-in_ok-binary-in-Some
parser::parse_comparison-returns-in_ok-binary-in-Some t c = as_tree c.in_ok-binary-in-Some.ensures
    (takes_sum _ _ (join c.in_ok-left.ensures _ _ (c.in-Some.ensures _ _ _ _ (join c.in_ok-right-in-Some.ensures _ _ run.runs_done))))

pub parser::parse_comparison-returns-in-None : goal.parser::parse_comparison-returns-in-None
parser::parse_comparison-returns-in-None t c = takes_sum _ _ (join c.in_ok-left.ensures _ _ (c.in-None.ensures _ _ _))

-- ---- signs before an operand

pub parser::parse_negation-returns-in_err-inside : goal.parser::parse_negation-returns-in_err-inside
parser::parse_negation-returns-in_err-inside t c = exit _ _ _ _ c.from_residual.ensures.1
    (stop_by _ (takes_not _ (c.if-is_next.ensures.0 refl)) (c.in_err-inside.ensures.entered _ _))

pub parser::parse_negation-returns-in_err-operand : goal.parser::parse_negation-returns-in_err-operand
parser::parse_negation-returns-in_err-operand t c = exit _ _ _ _ c.from_residual-in_err-operand.ensures.1
    (stop_by _ (takes_not _ (c.if-is_next.ensures.0 refl)) (stop_inside _ _ _ c.in_ok-inside.ensures.entered (stop_phrase _ _ _ _ _ _ c.in_err-operand.ensures)))

pub parser::parse_negation-returns-in_ok-unary : goal.parser::parse_negation-returns-in_ok-unary
parser::parse_negation-returns-in_ok-unary t c = as_tree c.in_ok-unary.ensures
    (takes_not _ (c.if-is_next.ensures.0 refl) _ (enclose c.in_ok-inside.ensures.entered _ _ (join c.in_ok-operand.ensures _ _ run.runs_done)))

pub parser::parse_negation-returns-else-is_next : goal.parser::parse_negation-returns-else-is_next
parser::parse_negation-returns-else-is_next t c = comes _ _ _ _ _ _ _ _ _
    (takes_comparison _ (λ h. not_both (c.if-is_next.ensures.1 h))) c.parse_comparison.ensures

pub parser::parse_unary-returns-in_err-inside : goal.parser::parse_unary-returns-in_err-inside
parser::parse_unary-returns-in_err-inside t c = exit _ _ _ _ c.from_residual.ensures.1
    (stop_by _ (takes_minus _ (c.if-is_next.ensures.0 refl)) (c.in_err-inside.ensures.entered _ _))

pub parser::parse_unary-returns-in_err-operand : goal.parser::parse_unary-returns-in_err-operand
parser::parse_unary-returns-in_err-operand t c = exit _ _ _ _ c.from_residual-in_err-operand.ensures.1
    (stop_by _ (takes_minus _ (c.if-is_next.ensures.0 refl)) (stop_inside _ _ _ c.in_ok-inside.ensures.entered (stop_phrase _ _ _ _ _ _ c.in_err-operand.ensures)))

pub parser::parse_unary-returns-in_ok-unary : goal.parser::parse_unary-returns-in_ok-unary
parser::parse_unary-returns-in_ok-unary t c = as_tree c.in_ok-unary.ensures
    (takes_minus _ (c.if-is_next.ensures.0 refl) _ (enclose c.in_ok-inside.ensures.entered _ _ (join c.in_ok-operand.ensures _ _ run.runs_done)))

pub parser::parse_unary-returns-else-is_next : goal.parser::parse_unary-returns-else-is_next
parser::parse_unary-returns-else-is_next t c = comes _ _ _ _ _ _ _ _ _
    (takes_post _ (λ h. not_both (c.if-is_next.ensures.1 h))) c.parse_postfix.ensures

-- ---- links

pub postfix::parse_postfix-returns-in_err-receiver : goal.postfix::parse_postfix-returns-in_err-receiver
postfix::parse_postfix-returns-in_err-receiver t c = exit _ _ _ _ c.from_residual.ensures.1
    (stop_by _ (takes_atom _) (stop_phrase _ _ _ _ _ _ c.in_err-receiver.ensures))

pub postfix::parse_postfix-chain-init : goal.postfix::parse_postfix-chain-init
postfix::parse_postfix-chain-init t c = λ o d. takes_atom _ o (join c.in_ok-receiver.ensures _ o d)

pub postfix::parse_postfix-returns-in_err-linked : goal.postfix::parse_postfix-returns-in_err-linked
postfix::parse_postfix-returns-in_err-linked t c = exit _ _ _ _ c.from_residual-in_err-linked.ensures.1
    (stop_by _ c.chain.invariant (stop_by _ (c.in-Some.ensures.link _ _ _) c.in_err-linked.ensures.link))

pub postfix::parse_link-returns-in_err-name-clause-link : goal.postfix::parse_link-returns-in_err-name-clause-link
postfix::parse_link-returns-in_err-name-clause-link t c = exit _ _ _ _ c.from_residual.ensures.1 (c.in_err-name.ensures _ _ _)

pub postfix::parse_link-returns-then-is_call-clause-link : goal.postfix::parse_link-returns-then-is_call-clause-link
postfix::parse_link-returns-then-is_call-clause-link t c = comes_linked _ _ _ _ _ _ _
    (λ o d. c.in_ok-name.ensures _ _ _ o (c.if-is_call.ensures _ _ _ _ o d)) c.parse_call.ensures.call

pub postfix::parse_link-returns-then-is_call-clause-within : goal.postfix::parse_link-returns-then-is_call-clause-within
postfix::parse_link-returns-then-is_call-clause-within t c = IfOk-weaker c.parse_call.result _ _
    (λ u i. omega (arith, i, name_within c.in_ok-name.ensures)) c.parse_call.ensures.within

pub postfix::parse_link-returns-in_ok-feature-clause-link : goal.postfix::parse_link-returns-in_ok-feature-clause-link
postfix::parse_link-returns-in_ok-feature-clause-link t c = λ o d. c.in_ok-name.ensures _ _ _ o (c.if-is_call.ensures _ _ _ _ o
    (subst (λ z. Runs c.args.room.openings c.args.room.lambdas (last (PostMore z)) c.in_ok-name.rest.now o) c.in_ok-feature.ensures d))

pub postfix::parse_link-returns-in_ok-feature-clause-within : goal.postfix::parse_link-returns-in_ok-feature-clause-within
postfix::parse_link-returns-in_ok-feature-clause-within t c = name_within c.in_ok-name.ensures

pub postfix::parse_call-returns-in_err-inside-clause-call : goal.postfix::parse_call-returns-in_err-inside-clause-call
postfix::parse_call-returns-in_err-inside-clause-call t c = exit _ _ _ _ c.from_residual.ensures.1 (c.in_err-inside.ensures.entered _ _)

pub postfix::parse_call-returns-in_err-arguments-clause-call : goal.postfix::parse_call-returns-in_err-arguments-clause-call
postfix::parse_call-returns-in_err-arguments-clause-call t c = exit _ _ _ _ c.from_residual-in_err-arguments.ensures.1
    (stop_inside _ _ _ c.in_ok-inside.ensures.entered (stop_phrase _ _ _ _ _ _ (c.in_err-arguments.ensures _ _ _)))

pub postfix::parse_call-returns-in_err-rest-clause-call : goal.postfix::parse_call-returns-in_err-rest-clause-call
postfix::parse_call-returns-in_err-rest-clause-call t c = exit _ _ _ _ c.from_residual-in_err-rest.ensures.1
    (stop_inside _ _ _ c.in_ok-inside.ensures.entered (stop_by _ (join (c.in_ok-arguments.ensures _ _ _) _) (c.in_err-rest.ensures _ _ _)))

pub postfix::parse_call-returns-clause-call : goal.postfix::parse_call-returns-clause-call
postfix::parse_call-returns-clause-call t c = λ o d. (c.in_ok-inside.ensures.entered _ _).1 _ _ o
    (join (c.in_ok-arguments.ensures _ _ _) _ _ (c.in_ok-rest.ensures _ _ _ _ run.runs_done))
    (subst (λ z. Runs c.args.room.openings c.args.room.lambdas (last (PostMore z)) c.in_ok-rest.rest.now o) c.in_ok-call.ensures d)

pub postfix::parse_call-returns-clause-within : goal.postfix::parse_call-returns-clause-within
postfix::parse_call-returns-clause-within t c =
    omega (arith, enters_within c.in_ok-inside.ensures.entered, runs_within (c.in_ok-arguments.ensures c.args.kind (tree_of c.args.receiver) c.args.name), sign_within c.in_ok-rest.ensures)

-- ---- arguments

pub postfix::parse_arguments-returns-then-is_closing : goal.postfix::parse_arguments-returns-then-is_closing
postfix::parse_arguments-returns-then-is_closing t c = λ k x v. rw c.new-arguments.ensures (takes_no_arguments k x v _ (c.if-is_closing.ensures.0 refl))

pub postfix::parse_arguments-arguments-init : goal.postfix::parse_arguments-arguments-init
postfix::parse_arguments-arguments-init t c = λ k x v o d.
    takes_arguments k x v _ (λ h. not_both (c.if-is_closing.ensures.1 h)) o (rw c.new-arguments.ensures at d)

pub postfix::parse_arguments-returns-in_err-argument : goal.postfix::parse_arguments-returns-in_err-argument
postfix::parse_arguments-returns-in_err-argument t c = exit _ _ _ _ c.from_residual.ensures.1
    (λ k x v. stop_by _ (c.arguments.invariant k x v) (c.in_err-argument.ensures.argument k x v (arguments_in c.arguments.arguments)))

pub postfix::parse_arguments-arguments-preserved : goal.postfix::parse_arguments-arguments-preserved
postfix::parse_arguments-arguments-preserved t c = λ k x v o d. c.arguments.invariant k x v o
    (c.in_ok-argument.ensures.argument k x v (arguments_in c.arguments.arguments) o
    (takes_more_arguments k x v _ _ _ c.in-Some.ensures o (rw (c.in_ok-push.ensures.ok, arguments_in-push) at d)))

pub postfix::parse_arguments-returns-in-None : goal.postfix::parse_arguments-returns-in-None
postfix::parse_arguments-returns-in-None t c = λ k x v. rw (c.in_ok-push.ensures.ok, arguments_in-push) (c.arguments.invariant k x v _
    (c.in_ok-argument.ensures.argument k x v (arguments_in c.arguments.arguments) _ (ends_arguments k x v _ _ c.in-None.ensures)))

pub postfix::parse_argument-returns-in_err-node-in-Expression-clause-argument : goal.postfix::parse_argument-returns-in_err-node-in-Expression-clause-argument
postfix::parse_argument-returns-in_err-node-in-Expression-clause-argument t c = exit _ _ _ _ c.from_residual.ensures.1
    (λ k x v xs. stop_by _ (takes_argument k x v xs _ _ (c.in-Expression.ensures k x v xs)) (stop_phrase _ _ _ _ _ _ c.in_err-node-in-Expression.ensures))

pub postfix::parse_argument-returns-in-Lambda-clause-argument : goal.postfix::parse_argument-returns-in-Lambda-clause-argument
postfix::parse_argument-returns-in-Lambda-clause-argument t c = comes_argument _ _ _ _ _ _
    (λ k x v xs. takes_argument k x v xs _ _ (c.in-Lambda.ensures k x v xs)) c.parse_lambda.ensures.lambda

pub postfix::parse_argument-returns-in-Class-clause-argument : goal.postfix::parse_argument-returns-in-Class-clause-argument
postfix::parse_argument-returns-in-Class-clause-argument t c = comes_argument _ _ _ _ _ _
    (λ k x v xs. takes_argument k x v xs _ _ (c.in-Class.ensures k x v xs)) (c.parse_class.ensures.class _ _)

pub postfix::parse_argument-returns-in_ok-new-in-Expression-clause-argument : goal.postfix::parse_argument-returns-in_ok-new-in-Expression-clause-argument
postfix::parse_argument-returns-in_ok-new-in-Expression-clause-argument t c = λ k x v xs o d.
    takes_argument k x v xs _ _ (c.in-Expression.ensures k x v xs) o (join c.in_ok-node-in-Expression.ensures _ o
    (rw c.in_ok-new-in-Expression.ensures at d))

pub postfix::parse_argument-returns-in_ok-new-in-Expression-clause-within : goal.postfix::parse_argument-returns-in_ok-new-in-Expression-clause-within
postfix::parse_argument-returns-in_ok-new-in-Expression-clause-within t c = runs_within c.in_ok-node-in-Expression.ensures

pub postfix::parse_lambda-returns-in_err-name-clause-lambda : goal.postfix::parse_lambda-returns-in_err-name-clause-lambda
postfix::parse_lambda-returns-in_err-name-clause-lambda t c = exit _ _ _ _ c.from_residual.ensures.1 (λ k x v xs. c.in_err-name.ensures _ _ _)

pub postfix::parse_lambda-returns-in_err-inside-clause-lambda : goal.postfix::parse_lambda-returns-in_err-inside-clause-lambda
postfix::parse_lambda-returns-in_err-inside-clause-lambda t c = exit _ _ _ _ c.from_residual-in_err-inside.ensures.1
    (λ k x v xs. stop_by _ (c.in_ok-name.ensures _ _ _) (c.in_err-inside.ensures.entered _ _))

pub postfix::parse_lambda-returns-in_err-body-clause-lambda : goal.postfix::parse_lambda-returns-in_err-body-clause-lambda
postfix::parse_lambda-returns-in_err-body-clause-lambda t c = exit _ _ _ _ c.from_residual-in_err-body.ensures.1
    (λ k x v xs. stop_by _ (c.in_ok-name.ensures _ _ _) (stop_inside _ _ _ c.in_ok-inside.ensures.entered c.in_err-body.ensures))

pub postfix::parse_lambda-returns-clause-lambda : goal.postfix::parse_lambda-returns-clause-lambda
postfix::parse_lambda-returns-clause-lambda t c = λ k x v xs o d. c.in_ok-name.ensures _ _ _ o
    ((c.in_ok-inside.ensures.entered _ _).1 _ _ o c.in_ok-body.ensures (rw (c.in_ok-new.ensures, c.name.view_is) at d))

pub postfix::parse_lambda-returns-clause-within : goal.postfix::parse_lambda-returns-clause-within
postfix::parse_lambda-returns-clause-within t c =
    omega (arith, name_within c.in_ok-name.ensures, enters_within c.in_ok-inside.ensures.entered, runs_within c.in_ok-body.ensures)

-- ---- atoms

pub atom::parse_atom-returns-in-Some-Integer-default : goal.atom::parse_atom-returns-in-Some-Integer-default
atom::parse_atom-returns-in-Some-Integer-default t c = as_tree c.integer.ensures
    (takes_integer _ _ _ _ c.in-Some-Integer-default.ensures c.in-Some-Integer-default.field-0-0-is)

pub atom::parse_atom-returns-in_ok-copy-in-Some-Quoted-default : goal.atom::parse_atom-returns-in_ok-copy-in-Some-Quoted-default
atom::parse_atom-returns-in_ok-copy-in-Some-Quoted-default t c = as_tree (c.text.ensures ∙ ap tree.Text c.in_ok-copy-in-Some-Quoted-default.ensures)
    (takes_text _ _ _ _ c.in-Some-Quoted-default.ensures c.in-Some-Quoted-default.field-0-0-is)

pub atom::parse_atom-returns-in_ok-copy-in-Some-Name-default : goal.atom::parse_atom-returns-in_ok-copy-in-Some-Name-default
atom::parse_atom-returns-in_ok-copy-in-Some-Name-default t c = comes _ _ _ _ _ _ _ _ _
    (takes_name _ _ _ _ c.in-Some-Name-default.ensures (c.in-Some-Name-default.field-0-0-is ∙ ap Name (sym c.in_ok-copy-in-Some-Name-default.ensures)))
    (c.parse_named.ensures _ _)

pub atom::parse_atom-returns-in-Some-Bad-default : goal.atom::parse_atom-returns-in-Some-Bad-default
atom::parse_atom-returns-in-Some-Bad-default t c = no_atom_bad _ _ _ c.in-Some-Bad-default.ensures c.in-Some-Bad-default.field-0-0-is

pub atom::parse_atom-returns-in-None : goal.atom::parse_atom-returns-in-None
atom::parse_atom-returns-in-None t c = no_atom_end _ c.in-None.ensures

pub atom::parse_marked-returns-in_err-inside-in-Open : goal.atom::parse_marked-returns-in_err-inside-in-Open
atom::parse_marked-returns-in_err-inside-in-Open t c = exit _ _ _ _ c.from_residual.ensures.1
    (stop_by _ (takes_parentheses _ _ _ c.requires c.in-Open.is) (c.in_err-inside-in-Open.ensures.entered _ _))

pub atom::parse_marked-returns-in_err-inside-in-If : goal.atom::parse_marked-returns-in_err-inside-in-If
atom::parse_marked-returns-in_err-inside-in-If t c = exit _ _ _ _ c.from_residual-in_err-inside-in-If.ensures.1
    (stop_by _ (takes_if _ _ _ c.requires c.in-If.is) (c.in_err-inside-in-If.ensures.entered _ _))

pub atom::parse_marked-returns-in-Null : goal.atom::parse_marked-returns-in-Null
atom::parse_marked-returns-in-Null t c = as_tree c.constant.ensures (takes_null _ _ _ c.requires c.in-Null.is)

pub atom::parse_marked-returns-in-True : goal.atom::parse_marked-returns-in-True
atom::parse_marked-returns-in-True t c = as_tree c.constant-in-True.ensures (takes_true _ _ _ c.requires c.in-True.is)

pub atom::parse_marked-returns-in-False : goal.atom::parse_marked-returns-in-False
atom::parse_marked-returns-in-False t c = as_tree c.constant-in-False.ensures (takes_false _ _ _ c.requires c.in-False.is)

pub atom::parse_marked-returns-in_ok-inside-in-Open : goal.atom::parse_marked-returns-in_ok-inside-in-Open
atom::parse_marked-returns-in_ok-inside-in-Open t c = comes _ _ _ _ _ _ _ _ _ (takes_parentheses _ _ _ c.requires c.in-Open.is)
    (comes_enclosed _ _ _ _ _ _ _ _ _ c.in_ok-inside-in-Open.ensures.entered c.parse_ended.ensures)

pub atom::parse_marked-returns-in_ok-inside-in-If : goal.atom::parse_marked-returns-in_ok-inside-in-If
atom::parse_marked-returns-in_ok-inside-in-If t c = comes _ _ _ _ _ _ _ _ _
    (λ o d. takes_if _ _ _ c.requires c.in-If.is o (enclose c.in_ok-inside-in-If.ensures.entered _ o d)) c.parse_branches.ensures

pub atom::parse_marked-returns-in-Sequence : goal.atom::parse_marked-returns-in-Sequence
atom::parse_marked-returns-in-Sequence t c = comes _ _ _ _ _ _ _ _ _ (takes_sequence _ _ _ c.requires c.in-Sequence.is) c.parse_collection.ensures

pub atom::parse_marked-returns-in-OrderedSet : goal.atom::parse_marked-returns-in-OrderedSet
atom::parse_marked-returns-in-OrderedSet t c = comes _ _ _ _ _ _ _ _ _ (takes_ordered_set _ _ _ c.requires c.in-OrderedSet.is) c.parse_collection-in-OrderedSet.ensures

pub atom::parse_marked-returns-in_default : goal.atom::parse_marked-returns-in_default
atom::parse_marked-returns-in_default t c = no_atom_sign _ _ _ c.requires c.in_default.not-Null c.in_default.not-True c.in_default.not-False c.in_default.not-Open
    c.in_default.not-If c.in_default.not-Sequence c.in_default.not-OrderedSet

pub atom::parse_branches-returns-in_err-condition : goal.atom::parse_branches-returns-in_err-condition
atom::parse_branches-returns-in_err-condition t c = exit _ _ _ _ c.from_residual.ensures.1 (c.in_err-condition.ensures _)

pub atom::parse_branches-returns-in_err-yes : goal.atom::parse_branches-returns-in_err-yes
atom::parse_branches-returns-in_err-yes t c = exit _ _ _ _ c.from_residual-in_err-yes.ensures.1
    (stop_by _ (c.in_ok-condition.ensures _) (c.in_err-yes.ensures _))

pub atom::parse_branches-returns-in_err-no : goal.atom::parse_branches-returns-in_err-no
atom::parse_branches-returns-in_err-no t c = exit _ _ _ _ c.from_residual-in_err-no.ensures.1
    (stop_by _ (c.in_ok-condition.ensures _) (stop_by _ (c.in_ok-yes.ensures _) (c.in_err-no.ensures _)))

pub atom::parse_branches-returns : goal.atom::parse_branches-returns
atom::parse_branches-returns t c = as_tree c.in_ok-conditional.ensures
    (c.in_ok-condition.ensures _ _ (c.in_ok-yes.ensures _ _ (c.in_ok-no.ensures _ _ run.runs_done)))

pub atom::parse_collection-returns-in_err-inside : goal.atom::parse_collection-returns-in_err-inside
atom::parse_collection-returns-in_err-inside t c = exit _ _ _ _ c.from_residual.ensures.1 (c.in_err-inside.ensures.entered _ _)

pub atom::parse_collection-returns-in_err-elements : goal.atom::parse_collection-returns-in_err-elements
atom::parse_collection-returns-in_err-elements t c = exit _ _ _ _ c.from_residual-in_err-elements.ensures.1
    (stop_inside _ _ _ c.in_ok-inside.ensures.entered (stop_phrase _ _ _ _ _ _ (c.in_err-elements.ensures _)))

pub atom::parse_collection-returns-in_err-rest : goal.atom::parse_collection-returns-in_err-rest
atom::parse_collection-returns-in_err-rest t c = exit _ _ _ _ c.from_residual-in_err-rest.ensures.1
    (stop_inside _ _ _ c.in_ok-inside.ensures.entered (stop_by _ (join (c.in_ok-elements.ensures _) _) (c.in_err-rest.ensures _ _ _)))

pub atom::parse_collection-returns : goal.atom::parse_collection-returns
atom::parse_collection-returns t c = as_tree c.collection.ensures
    (enclose c.in_ok-inside.ensures.entered _ _ (join (c.in_ok-elements.ensures _) _ _ (c.in_ok-rest.ensures _ _ _ _ run.runs_done)))

-- ---- elements

pub atom::parse_elements-returns-then-is_closing : goal.atom::parse_elements-returns-then-is_closing
atom::parse_elements-returns-then-is_closing t c = λ k. rw c.new-elements.ensures (takes_no_elements k _ (c.if-is_closing.ensures.0 refl))

pub atom::parse_elements-elements-init : goal.atom::parse_elements-elements-init
atom::parse_elements-elements-init t c = λ k o d. takes_elements k _ (λ h. not_both (c.if-is_closing.ensures.1 h)) o (rw c.new-elements.ensures at d)

pub atom::parse_elements-returns-in_err-element : goal.atom::parse_elements-returns-in_err-element
atom::parse_elements-returns-in_err-element t c = exit _ _ _ _ c.from_residual.ensures.1
    (λ k. stop_by _ (c.elements.invariant k) (stop_by _ (takes_element k _ _) (stop_phrase _ _ _ _ _ _ c.in_err-element.ensures)))

pub atom::parse_elements-elements-smaller : goal.atom::parse_elements-elements-smaller
atom::parse_elements-elements-smaller t c = omega (arith, runs_within c.in_ok-element.ensures, behind_within _ _ _ c.in-Some.ensures)

pub atom::parse_elements-elements-preserved : goal.atom::parse_elements-elements-preserved
atom::parse_elements-elements-preserved t c = λ k o d. c.elements.invariant k o (takes_element k _ _ o
    (join c.in_ok-element.ensures _ o (takes_more_elements k _ _ _ c.in-Some.ensures o (rw (c.in_ok-push.ensures.ok, trees_in-push) at d))))

pub atom::parse_elements-returns-in-None : goal.atom::parse_elements-returns-in-None
atom::parse_elements-returns-in-None t c = λ k. rw (c.in_ok-push.ensures.ok, trees_in-push) (c.elements.invariant k _ (takes_element k _ _ _
    (join c.in_ok-element.ensures _ _ (ends_elements k _ _ c.in-None.ensures))))
