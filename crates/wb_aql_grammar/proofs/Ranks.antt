-- How tightly a token binds: the place of the table in which the parser looks an operator up.
use Rattle.std.specs.Prelude.{ℕ, Option, Some}
use Rattle.wb_aql_grammar.specs.Grammar.{Phrase, Expr, Implies, Or, Xor, And, Neg, Cmp, Sum, Term, Unary, Post, Atom, ImpliesMore, OrMore, XorMore, AndMore, CmpMore, SumMore, TermMore, PostMore, Named, Featured}
use Rattle.wb_aql_tokens.specs.declared.token.Token.{Token}
use Rattle.wb_aql_tokens.specs.declared.token.Token.TheVariants.{Sign, Name, Integer, Quoted}
use Rattle.wb_aql_tokens.specs.declared.token.Sign.TheVariants as s

-- where it may follow a phrase
abbrev pub rank : Option Token → ℕ
rank (Some (Sign s.Close)) = 0
rank (Some (Sign s.CloseBrace)) = 0
rank (Some (Sign s.Implies)) = 2
rank (Some (Sign s.Or)) = 3
rank (Some (Sign s.Xor)) = 4
rank (Some (Sign s.And)) = 5
rank (Some (Sign s.Equal)) = 6
rank (Some (Sign s.NotEqual)) = 6
rank (Some (Sign s.Less)) = 6
rank (Some (Sign s.LessEqual)) = 6
rank (Some (Sign s.Greater)) = 6
rank (Some (Sign s.GreaterEqual)) = 6
rank (Some (Sign s.Plus)) = 7
rank (Some (Sign s.Minus)) = 7
rank (Some (Sign s.Times)) = 8
rank (Some (Sign s.Div)) = 8
rank (Some (Sign s.Dot)) = 9
rank (Some (Sign s.Arrow)) = 9
rank (Some (Sign s.Colons)) = 10
rank (Some (Sign s.Open)) = 10
rank (Some (Sign s.Bar)) = 10
rank _ = 1

-- a phrase may stop early at tokens of this rank and above
abbrev pub level : Phrase → ℕ
level Expr = 2
level Implies = 2
level (ImpliesMore x) = 2
level Or = 3
level (OrMore x) = 3
level Xor = 4
level (XorMore x) = 4
level And = 5
level (AndMore x) = 5
level Neg = 6
level Cmp = 6
level (CmpMore x) = 6
level Sum = 7
level (SumMore x) = 7
level Term = 8
level (TermMore x) = 8
level Unary = 9
level Post = 9
level (PostMore x) = 9
level (Featured x v) = 9
level Atom = 10
level (Named v) = 10
level _ = 1

-- where it may begin a phrase: an atom, a unary, a `neg`, an expression, or none
abbrev pub grade : Option Token → ℕ
grade (Some (Sign s.Let)) = 4
grade (Some (Sign s.Not)) = 3
grade (Some (Sign s.Minus)) = 2
grade (Some (Name v)) = 1
grade (Some (Integer n)) = 1
grade (Some (Quoted v)) = 1
grade (Some (Sign s.Null)) = 1
grade (Some (Sign s.True)) = 1
grade (Some (Sign s.False)) = 1
grade (Some (Sign s.Open)) = 1
grade (Some (Sign s.If)) = 1
grade (Some (Sign s.Sequence)) = 1
grade (Some (Sign s.OrderedSet)) = 1
grade _ = 5
