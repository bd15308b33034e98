-- The pieces of each form of tree, as they are written.
use Rattle.std.proofs.Common.{◌≡◌, ℕ, List, [], ◌∷◌, ◌++◌, true, false, Bool, refl, sym, ap, append-nil}
use Rattle.wb_aql_grammar.specs.Tree.{Tree, Trees, Arguments, no_trees, trees, no_arguments, lambda, type_named, expression}
use Rattle.wb_aql_grammar.specs.Tree as t
use Rattle.wb_aql_grammar.specs.View.{tree_of, arguments_in}
use Rattle.wb_aql_syntax.specs.Canonical.{blank, token, mark, apart, prefix, prefix_of, left_of, right_of, sign_of, link_of, word_of_constant, word_of_kind, comma_if, enclosed, standing, pieces, element_pieces, argument_pieces}
use Rattle.wb_aql_tokens.specs.declared.token.Token.TheVariants.{Name, Integer, Quoted}
use Rattle.wb_aql_tokens.specs.declared.token.Sign.TheVariants as s
use Rattle.wb_aql_grammar.specs.declared.expr.Constant.{Constant}
use Rattle.wb_aql_grammar.specs.declared.expr.CollectionKind.{CollectionKind}
use Rattle.wb_aql_grammar.specs.declared.expr.Unary.{Unary as UnaryOperator}
use Rattle.wb_aql_grammar.specs.declared.expr.Binary.{Binary as BinaryOperator}
use Rattle.wb_aql_grammar.specs.declared.expr.CallKind.{CallKind}
use Rattle.wb_aql_grammar.specs.declared.expr.Node.{Node}
use Rattle.wb_aql_grammar.specs.declared.expr.Argument.{Argument}
use Rattle.wb_aql_grammar.specs.declared.expr.Argument.TheVariants as a
use Rattle.wb_aql_syntax.specs.declared.tightness.Tightness.TheVariants as at

pub pieces_integer : (i : ℕ) → pieces (t.Integer i) ≡ token (Integer i) ∷ []
unfolding pieces
pieces_integer i = refl

pub pieces_text : (v : List ℕ) → pieces (t.Text v) ≡ token (Quoted v) ∷ []
unfolding pieces
pieces_text v = refl

pub pieces_constant : (c : Constant) → pieces (t.Const c) ≡ mark (word_of_constant c) ∷ []
unfolding pieces
pieces_constant c = refl

pub pieces_variable : (v : List ℕ) → pieces (t.Variable v) ≡ token (Name v) ∷ []
unfolding pieces
pieces_variable v = refl

pub pieces_unary : (o : UnaryOperator) (x : Tree) → pieces (t.Unary o x) ≡ prefix o ++ standing (prefix_of o) x (pieces x)
unfolding pieces
pieces_unary o x = refl

pub pieces_binary : (o : BinaryOperator) (x y : Tree) → pieces (t.Binary o x y) ≡ standing (left_of o) x (pieces x) ++ (apart (sign_of o) ++ standing (right_of o) y (pieces y))
unfolding pieces
pieces_binary o x y = refl

pub pieces_if : (x y z : Tree) → pieces (t.If x y z) ≡ mark s.If ∷ blank ∷ (pieces x ++ (apart s.Then ++ (pieces y ++ (apart s.Else ++ (pieces z ++ (blank ∷ mark s.Endif ∷ []))))))
unfolding pieces
pieces_if x y z = refl

pub pieces_let : (v : List ℕ) (x y : Tree) → pieces (t.Let v x y) ≡ mark s.Let ∷ blank ∷ token (Name v) ∷ (apart s.Equal ++ (pieces x ++ (apart s.In ++ pieces y)))
unfolding pieces
pieces_let v x y = refl

pub pieces_feature : (x : Tree) (v : List ℕ) → pieces (t.Feature x v) ≡ standing at.Post x (pieces x) ++ (mark s.Dot ∷ token (Name v) ∷ [])
unfolding pieces
pieces_feature x v = refl

pub pieces_call : (d : CallKind) (x : Tree) (v : List ℕ) (xs : Arguments) →
    pieces (t.Call d x v xs) ≡ standing at.Post x (pieces x) ++ (mark (link_of d) ∷ token (Name v) ∷ enclosed false (argument_pieces false xs))
unfolding pieces
pieces_call d x v xs = refl

pub pieces_collection : (k : CollectionKind) (xs : Trees) → pieces (t.Collection k xs) ≡ mark (word_of_kind k) ∷ mark s.OpenBrace ∷ (element_pieces false xs ++ (mark s.CloseBrace ∷ []))
unfolding pieces
pieces_collection k xs = refl

pub no_element_pieces : (later : Bool) → element_pieces later no_trees ≡ []
unfolding pieces
no_element_pieces later = refl

pub element_pieces_behind : (later : Bool) (x : Tree) (xs : Trees) → element_pieces later (trees x xs) ≡ comma_if later ++ (pieces x ++ element_pieces true xs)
unfolding pieces
element_pieces_behind later x xs = refl

pub no_argument_pieces : (later : Bool) → argument_pieces later no_arguments ≡ []
unfolding pieces
no_argument_pieces later = refl

pub lambda_pieces : (v : List ℕ) (x : Tree) → argument_pieces false (lambda v x no_arguments) ≡ token (Name v) ∷ (apart s.Bar ++ pieces x)
unfolding pieces
lambda_pieces v x = ap (λ ps. token (Name v) ∷ (apart s.Bar ++ ps)) (append-nil (pieces x))

pub type_pieces : (p c : List ℕ) → argument_pieces false (type_named p c no_arguments) ≡ token (Name p) ∷ mark s.Colons ∷ token (Name c) ∷ []
unfolding pieces
type_pieces p c = refl

pub expression_pieces : (x : Tree) → argument_pieces false (expression x no_arguments) ≡ pieces x
unfolding pieces
expression_pieces x = append-nil (pieces x)

-- the pieces of one argument, and of those behind it
pub argument_pieces_behind : (later : Bool) (e : Argument Node) (es : List (Argument Node)) →
    argument_pieces later (arguments_in (e ∷ es)) ≡ comma_if later ++ (argument_pieces false (arguments_in (e ∷ [])) ++ argument_pieces true (arguments_in es))
unfolding pieces
argument_pieces_behind later (a.Lambda v x) es =
    ap (λ ps. comma_if later ++ (token (Name v) ∷ (apart s.Bar ++ (ps ++ argument_pieces true (arguments_in es))))) (sym (append-nil (pieces (tree_of x))))
argument_pieces_behind later (a.Type p c) es = refl
argument_pieces_behind later (a.Expression x) es = ap (λ ps. comma_if later ++ (ps ++ argument_pieces true (arguments_in es))) (sym (append-nil (pieces (tree_of x))))
