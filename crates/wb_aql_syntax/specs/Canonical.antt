-- The canonical spelling of a tree: its tokens with the blanks between them, and the bounds that it needs.
use Rattle.std.specs.Prelude.{ℕ, suc, max, nat_le, Bool, true, false, List, [], ◌∷◌, ◌++◌}
use Rattle.wb_aql_grammar.specs.Tree.{Tree, Trees, Arguments}
use Rattle.wb_aql_grammar.specs.Tree as t
use Rattle.wb_aql_tokens.specs.declared.token.Token.{Token}
use Rattle.wb_aql_tokens.specs.declared.token.Token.TheVariants.{Sign, Name, Integer, Quoted}
use Rattle.wb_aql_tokens.specs.declared.token.Sign.{Sign as SignName}
use Rattle.wb_aql_tokens.specs.declared.token.Sign.TheVariants as s
use Rattle.wb_aql_grammar.specs.declared.expr.Constant.{Constant}
use Rattle.wb_aql_grammar.specs.declared.expr.Constant.TheVariants as c
use Rattle.wb_aql_grammar.specs.declared.expr.CollectionKind.{CollectionKind}
use Rattle.wb_aql_grammar.specs.declared.expr.CollectionKind.TheVariants as k
use Rattle.wb_aql_grammar.specs.declared.expr.Unary.{Unary as UnaryOperator}
use Rattle.wb_aql_grammar.specs.declared.expr.Unary.TheVariants as u
use Rattle.wb_aql_grammar.specs.declared.expr.Binary.{Binary as BinaryOperator}
use Rattle.wb_aql_grammar.specs.declared.expr.Binary.TheVariants as b
use Rattle.wb_aql_grammar.specs.declared.expr.CallKind.{CallKind}
use Rattle.wb_aql_grammar.specs.declared.expr.CallKind.TheVariants as d
use Rattle.wb_aql_syntax.specs.declared.tightness.Tightness.{Tightness}
use Rattle.wb_aql_syntax.specs.declared.tightness.Tightness.TheVariants as at

-- ---- which phrase a tree is, and which phrases its operands have to be

-- the phrases from the loosest to the tightest
abbrev pub rank : Tightness → ℕ
rank at.Expr = 0
rank at.Implies = 1
rank at.Or = 2
rank at.Xor = 3
rank at.And = 4
rank at.Neg = 5
rank at.Cmp = 6
rank at.Sum = 7
rank at.Term = 8
rank at.Unary = 9
rank at.Post = 10
rank at.Atom = 11

-- does a phrase of the second sort stand for one of the first?
abbrev pub stands : Tightness → Tightness → Bool
stands wanted found = nat_le (rank wanted) (rank found)

-- the phrase of a binary operator, of its left and of its right operand
abbrev pub whole_of : BinaryOperator → Tightness
whole_of b.Implies = at.Implies
whole_of b.Or = at.Or
whole_of b.Xor = at.Xor
whole_of b.And = at.And
whole_of b.Add = at.Sum
whole_of b.Subtract = at.Sum
whole_of b.Multiply = at.Term
whole_of b.Divide = at.Term
whole_of b.Equal = at.Cmp
whole_of b.NotEqual = at.Cmp
whole_of b.Less = at.Cmp
whole_of b.LessEqual = at.Cmp
whole_of b.Greater = at.Cmp
whole_of b.GreaterEqual = at.Cmp

abbrev pub left_of : BinaryOperator → Tightness
left_of b.Implies = at.Implies
left_of b.Or = at.Or
left_of b.Xor = at.Xor
left_of b.And = at.And
left_of b.Multiply = at.Term
left_of b.Divide = at.Term
left_of b.Equal = at.Sum
left_of b.NotEqual = at.Sum
left_of b.Less = at.Sum
left_of b.LessEqual = at.Sum
left_of b.Greater = at.Sum
left_of b.GreaterEqual = at.Sum
left_of b.Add = at.Sum
left_of b.Subtract = at.Sum

abbrev pub right_of : BinaryOperator → Tightness
right_of b.Implies = at.Or
right_of b.Or = at.Xor
right_of b.Xor = at.And
right_of b.And = at.Neg
right_of b.Add = at.Term
right_of b.Subtract = at.Term
right_of b.Multiply = at.Unary
right_of b.Divide = at.Unary
right_of b.Equal = at.Sum
right_of b.NotEqual = at.Sum
right_of b.Less = at.Sum
right_of b.LessEqual = at.Sum
right_of b.Greater = at.Sum
right_of b.GreaterEqual = at.Sum

-- that of a prefix operator, and of its operand
abbrev pub prefix_of : UnaryOperator → Tightness
prefix_of u.Not = at.Neg
prefix_of u.Negate = at.Unary

-- the tightest phrase that the tree is without parentheses round it
abbrev pub tightness : Tree → Tightness
tightness (t.Unary o x) = prefix_of o
tightness (t.Binary o x y) = whole_of o
tightness (t.Let v x y) = at.Expr
tightness (t.Feature x v) = at.Post
tightness (t.Call k x v xs) = at.Post
tightness (t.Integer i) = at.Atom
tightness (t.Text v) = at.Atom
tightness (t.Const c) = at.Atom
tightness (t.Variable v) = at.Atom
tightness (t.Literal p e l) = at.Atom
tightness (t.Collection k xs) = at.Atom
tightness (t.If x y z) = at.Atom

-- ---- the tokens, and the blanks between them

pub data Piece : Type 0 where
  blank : Piece
  token : Token → Piece

abbrev pub mark : SignName → Piece
mark a = token (Sign a)

abbrev pub sign_of : BinaryOperator → SignName
sign_of b.Implies = s.Implies
sign_of b.Or = s.Or
sign_of b.Xor = s.Xor
sign_of b.And = s.And
sign_of b.Equal = s.Equal
sign_of b.NotEqual = s.NotEqual
sign_of b.Less = s.Less
sign_of b.LessEqual = s.LessEqual
sign_of b.Greater = s.Greater
sign_of b.GreaterEqual = s.GreaterEqual
sign_of b.Add = s.Plus
sign_of b.Subtract = s.Minus
sign_of b.Multiply = s.Times
sign_of b.Divide = s.Div

abbrev pub word_of_constant : Constant → SignName
word_of_constant c.Null = s.Null
word_of_constant c.True = s.True
word_of_constant c.False = s.False

abbrev pub word_of_kind : CollectionKind → SignName
word_of_kind k.Sequence = s.Sequence
word_of_kind k.OrderedSet = s.OrderedSet

abbrev pub link_of : CallKind → SignName
link_of d.Dot = s.Dot
link_of d.Arrow = s.Arrow

-- `not` has a blank behind it, a prefix `-` has none
abbrev pub prefix : UnaryOperator → List Piece
prefix u.Not = mark s.Not ∷ blank ∷ []
prefix u.Negate = mark s.Minus ∷ []

-- a sign or a word with a blank on either side
abbrev pub apart : SignName → List Piece
apart a = blank ∷ mark a ∷ blank ∷ []

-- before an element or an argument: a comma, if others stand before it
abbrev pub comma_if : Bool → List Piece
comma_if true = mark s.Comma ∷ blank ∷ []
comma_if false = []

-- in parentheses, unless it stands there without them
abbrev pub enclosed : Bool → List Piece → List Piece
enclosed true pieces = pieces
enclosed false pieces = mark s.Open ∷ (pieces ++ (mark s.Close ∷ []))

-- the pieces of a tree where this phrase is wanted
abbrev pub standing : Tightness → Tree → List Piece → List Piece
standing wanted x pieces = enclosed (stands wanted (tightness x)) pieces

unfoldable mutual
  -- the pieces of a tree where any phrase may stand
  pub pieces : Tree → List Piece
  pieces (t.Integer n) = token (Integer n) ∷ []
  pieces (t.Text v) = token (Quoted v) ∷ []
  pieces (t.Const c) = mark (word_of_constant c) ∷ []
  pieces (t.Variable v) = token (Name v) ∷ []
  pieces (t.Literal p e v) = token (Name p) ∷ mark s.Colons ∷ token (Name e) ∷ mark s.Colons ∷ token (Name v) ∷ []
  pieces (t.Collection k xs) = mark (word_of_kind k) ∷ mark s.OpenBrace ∷ (element_pieces false xs ++ (mark s.CloseBrace ∷ []))
  pieces (t.Unary o x) = prefix o ++ standing (prefix_of o) x (pieces x)
  pieces (t.Binary o x y) = standing (left_of o) x (pieces x) ++ (apart (sign_of o) ++ standing (right_of o) y (pieces y))
  pieces (t.If x y z) = mark s.If ∷ blank ∷ (pieces x ++ (apart s.Then ++ (pieces y ++ (apart s.Else ++ (pieces z ++ (blank ∷ mark s.Endif ∷ []))))))
  pieces (t.Let v x y) = mark s.Let ∷ blank ∷ token (Name v) ∷ (apart s.Equal ++ (pieces x ++ (apart s.In ++ pieces y)))
  pieces (t.Feature x v) = standing at.Post x (pieces x) ++ (mark s.Dot ∷ token (Name v) ∷ [])
  pieces (t.Call d x v xs) = standing at.Post x (pieces x) ++ (mark (link_of d) ∷ token (Name v) ∷ mark s.Open ∷ (argument_pieces false xs ++ (mark s.Close ∷ [])))

  -- of elements; do others stand before them?
  pub element_pieces : Bool → Trees → List Piece
  element_pieces later t.no_trees = []
  element_pieces later (t.trees x xs) = comma_if later ++ (pieces x ++ element_pieces true xs)

  -- the same of arguments
  pub argument_pieces : Bool → Arguments → List Piece
  argument_pieces later t.no_arguments = []
  argument_pieces later (t.lambda v x xs) = comma_if later ++ (token (Name v) ∷ (apart s.Bar ++ (pieces x ++ argument_pieces true xs)))
  argument_pieces later (t.type_named p c xs) = comma_if later ++ (token (Name p) ∷ mark s.Colons ∷ token (Name c) ∷ argument_pieces true xs)
  argument_pieces later (t.expression x xs) = comma_if later ++ (pieces x ++ argument_pieces true xs)

abbrev pub tokens_in : List Piece → List Token
tokens_in [] = []
tokens_in (blank ∷ rest) = tokens_in rest
tokens_in (token a ∷ rest) = a ∷ tokens_in rest

-- the canonical tokens
abbrev pub canon : Tree → List Token
canon x = tokens_in (pieces x)

-- ---- how many openings, and how many lambdas, stand open at once

-- with one more for parentheses, unless it stands there without them
abbrev pub enclosed_openings : Bool → ℕ → ℕ
enclosed_openings true n = n
enclosed_openings false n = suc n

abbrev pub standing_openings : Tightness → Tree → ℕ → ℕ
standing_openings wanted x n = enclosed_openings (stands wanted (tightness x)) n

unfoldable mutual
  pub openings_of : Tree → ℕ
  openings_of (t.Collection k xs) = suc (element_openings xs)
  openings_of (t.Unary o x) = suc (standing_openings (prefix_of o) x (openings_of x))
  openings_of (t.Binary o x y) = max (standing_openings (left_of o) x (openings_of x)) (standing_openings (right_of o) y (openings_of y))
  openings_of (t.If x y z) = suc (max (openings_of x) (max (openings_of y) (openings_of z)))
  openings_of (t.Let v x y) = suc (max (openings_of x) (openings_of y))
  openings_of (t.Feature x v) = standing_openings at.Post x (openings_of x)
  openings_of (t.Call d x v xs) = max (standing_openings at.Post x (openings_of x)) (suc (argument_openings xs))
  openings_of (t.Integer i) = 0
  openings_of (t.Text v) = 0
  openings_of (t.Const c) = 0
  openings_of (t.Variable v) = 0
  openings_of (t.Literal p e l) = 0

  pub element_openings : Trees → ℕ
  element_openings t.no_trees = 0
  element_openings (t.trees x xs) = max (openings_of x) (element_openings xs)

  pub argument_openings : Arguments → ℕ
  argument_openings t.no_arguments = 0
  argument_openings (t.lambda v x xs) = max (openings_of x) (argument_openings xs)
  argument_openings (t.type_named p c xs) = argument_openings xs
  argument_openings (t.expression x xs) = max (openings_of x) (argument_openings xs)

unfoldable mutual
  pub lambdas_of : Tree → ℕ
  lambdas_of (t.Collection k xs) = element_lambdas xs
  lambdas_of (t.Unary o x) = lambdas_of x
  lambdas_of (t.Binary o x y) = max (lambdas_of x) (lambdas_of y)
  lambdas_of (t.If x y z) = max (lambdas_of x) (max (lambdas_of y) (lambdas_of z))
  lambdas_of (t.Let v x y) = max (lambdas_of x) (lambdas_of y)
  lambdas_of (t.Feature x v) = lambdas_of x
  lambdas_of (t.Call d x v xs) = max (lambdas_of x) (argument_lambdas xs)
  lambdas_of (t.Integer i) = 0
  lambdas_of (t.Text v) = 0
  lambdas_of (t.Const c) = 0
  lambdas_of (t.Variable v) = 0
  lambdas_of (t.Literal p e l) = 0

  pub element_lambdas : Trees → ℕ
  element_lambdas t.no_trees = 0
  element_lambdas (t.trees x xs) = max (lambdas_of x) (element_lambdas xs)

  pub argument_lambdas : Arguments → ℕ
  argument_lambdas t.no_arguments = 0
  argument_lambdas (t.lambda v x xs) = max (suc (lambdas_of x)) (argument_lambdas xs)
  argument_lambdas (t.type_named p c xs) = argument_lambdas xs
  argument_lambdas (t.expression x xs) = max (lambdas_of x) (argument_lambdas xs)
