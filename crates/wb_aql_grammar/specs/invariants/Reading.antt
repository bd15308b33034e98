-- What a step of the parser says of what it read, by the outcomes of the rest of a line.
use Rattle.std.specs.Prelude.{ℕ, List, Bool, true, false, Result, MatchResult}
use Rattle.std.specs.Borrow.{Bor}
use Rattle.wb_aql_grammar.specs.Tree.{Tree, Arguments, with_lambda, with_type, with_expression}
use Rattle.wb_aql_grammar.specs.Tree as t
use Rattle.wb_aql_grammar.specs.View.{tree_of, trees_in, arguments_in}
use Rattle.wb_aql_grammar.specs.Grammar.{Phrase, Expr, Implies, Or, Xor, And, Neg, Sum, Term, Unary, ImpliesMore, OrMore, XorMore, AndMore, SumMore, TermMore, CmpMore, PostMore, Featured, CallArguments, Argument as ArgumentPhrase, ArgumentMore, Elements, Bound, openings, Rest, done, sign, name, phrase, opening, last, inside}
use Rattle.wb_aql_grammar.specs.invariants.Runs.{Outcome, Good, IsUnread, Runs, call, lambda_line, class_line, expression_line}
use Rattle.wb_aql_grammar.specs.invariants.Runs as o
use Rattle.wb_aql_tokens.specs.declared.token.Token.{Token}
use Rattle.wb_aql_grammar.specs.declared.expr.Node.{Node}
use Rattle.wb_aql_grammar.specs.declared.expr.Argument.{Argument}
use Rattle.wb_aql_grammar.specs.declared.expr.Argument.TheVariants as a
use Rattle.wb_aql_tokens.specs.declared.token.Token.TheVariants.{Sign}
use Rattle.wb_aql_tokens.specs.declared.token.Sign.TheVariants as s
use Rattle.wb_aql_grammar.specs.declared.expr.Binary.{Binary}
use Rattle.wb_aql_grammar.specs.declared.expr.CollectionKind.{CollectionKind}
use Rattle.wb_aql_grammar.specs.declared.expr.CallKind.{CallKind}
use Rattle.wb_aql_grammar.specs.declared.expr.CallKind.TheVariants as d
use Rattle.wb_aql_grammar.specs.declared.unread.Unread.{Unread}
use Rattle.wb_aql_grammar.specs.declared.unread.Unread.TheVariants as e
use Rattle.wb_aql_grammar.specs.declared.level.Level.{Level}
use Rattle.wb_aql_grammar.specs.declared.level.Level.TheVariants as v
use Rattle.wb_aql_grammar.specs.declared.arguments.Shape.{Shape}
use Rattle.wb_aql_grammar.specs.declared.arguments.Shape.TheVariants as h

-- the outcome of an error; want of memory has none
abbrev pub IsOutcome : (Outcome → Type 0) → Unread → Type 0
IsOutcome R (e.Wrong rest) = R (o.Wrong rest.now)
IsOutcome R (e.Deep rest) = R (o.Deep rest.now)
IsOutcome R e.NoMemory = Unit {0}

-- the sign is read: what comes of the rest comes of the whole
abbrev pub ReadsSign : Token → List Token → List Token → Type 0
ReadsSign a text rest = (n l : ℕ) (r : Rest) (o : Outcome) → Runs n l r rest o → Runs n l (sign a r) text o

abbrev pub NoSign : Token → List Token → Unread → Type 0
NoSign a text e = (n l : ℕ) (r : Rest) → IsOutcome (Runs n l (sign a r) text) e

abbrev pub ReadsName : List ℕ → List Token → List Token → Type 0
ReadsName v text rest = (n l : ℕ) (r : List ℕ → Rest) (o : Outcome) → Runs n l (r v) rest o → Runs n l (name r) text o

abbrev pub NoName : List Token → Unread → Type 0
NoName text e = (n l : ℕ) (r : List ℕ → Rest) → IsOutcome (Runs n l (name r) text) e

-- what stands inside an opening, up to its end, is read
abbrev pub Enters : Bound → Token → List Token → List Token → (n l m k : ℕ) → Type 0
Enters b a text rest n l m k = (i : Rest) (r : Tree → Rest) →
    ((o : Outcome) → IsUnread o → Runs m k i rest o → Runs n l (opening b a i r) text o) ×
    ((y : Tree) (more : List Token) (o : Outcome) → Runs m k i rest (Good y more) → Runs n l (r y) more o → Runs n l (opening b a i r) text o)

abbrev pub NoEntry : Bound → Token → List Token → (n l : ℕ) → Unread → Type 0
NoEntry b a text n l e = (i : Rest) (r : Tree → Rest) → IsOutcome (Runs n l (opening b a i r) text) e

-- a phrase is read
abbrev pub ReadsPhrase : ℕ → ℕ → Phrase → List Token → Tree → List Token → Type 0
ReadsPhrase n l p text x rest = (r : Tree → Rest) (o : Outcome) → Runs n l (r x) rest o → Runs n l (phrase p r) text o

abbrev pub NoPhrase : ℕ → ℕ → Phrase → List Token → Unread → Type 0
NoPhrase n l p text e = (r : Tree → Rest) → IsOutcome (Runs n l (phrase p r) text) e

-- what comes of the rest of a line
abbrev pub Comes : ℕ → ℕ → Rest → List Token → Result (Node × Bor (List Token)) Unread → Type 0
Comes n l r text result = MatchResult result (λ u. Runs n l r text (Good (tree_of u.0) u.1.now)) (IsOutcome (Runs n l r text))

-- the phrases of a level of binary operators
abbrev pub whole : Level → Phrase
whole v.Implies = Implies
whole v.Or = Or
whole v.Xor = Xor
whole v.And = And
whole v.Sum = Sum
whole v.Term = Term

abbrev pub operand : Level → Phrase
operand v.Implies = Or
operand v.Or = Xor
operand v.Xor = And
operand v.And = Neg
operand v.Sum = Term
operand v.Term = Unary

abbrev pub more : Level → Tree → Phrase
more v.Implies x = ImpliesMore x
more v.Or x = OrMore x
more v.Xor x = XorMore x
more v.And x = AndMore x
more v.Sum x = SumMore x
more v.Term x = TermMore x

-- the arguments with one more
abbrev pub with_argument : Arguments → Argument Node → Arguments
with_argument xs (a.Lambda v x) = with_lambda xs v (tree_of x)
with_argument xs (a.Type p c) = with_type xs p c
with_argument xs (a.Expression x) = with_expression xs (tree_of x)

abbrev pub line_of : Shape → CallKind → Tree → List ℕ → Arguments → Rest
line_of h.Lambda = lambda_line
line_of h.Class = class_line
line_of h.Expression = expression_line

-- an operator of the level stands next
abbrev pub GoesOn : Level → Binary → List Token → List Token → Type 0
GoesOn v op text rest = (n l : ℕ) (x : Tree) (o : Outcome) →
    Runs n l (phrase (operand v) (λ y. last (more v (t.Binary op x y)))) rest o → Runs n l (last (more v x)) text o

-- none stands next
abbrev pub Ends : Level → List Token → Type 0
Ends v text = (n l : ℕ) (x : Tree) → Runs n l (last (more v x)) text (Good x text)

-- the same of a comparison
abbrev pub Compares : Binary → List Token → List Token → Type 0
Compares op text rest = (n l : ℕ) (x : Tree) (o : Outcome) → Runs n l (phrase Sum (λ y. done (t.Binary op x y))) rest o → Runs n l (last (CmpMore x)) text o

abbrev pub NoComparison : List Token → Type 0
NoComparison text = (n l : ℕ) (x : Tree) → Runs n l (last (CmpMore x)) text (Good x text)

-- what follows the name behind `.` or `->`
abbrev pub linked : CallKind → Tree → List ℕ → Rest
linked d.Dot x v = last (Featured x v)
linked d.Arrow x v = call d.Arrow x v

-- a `.` or a `->` stands next
abbrev pub Links : CallKind → List Token → List Token → Type 0
Links k text rest = (n l : ℕ) (x : Tree) (o : Outcome) → Runs n l (name (λ v. linked k x v)) rest o → Runs n l (last (PostMore x)) text o

abbrev pub NoLink : List Token → Type 0
NoLink text = (n l : ℕ) (x : Tree) → Runs n l (last (PostMore x)) text (Good x text)

-- what was named is a service that is called, or a feature
abbrev pub named_link : Bool → CallKind → Tree → List ℕ → Rest
named_link true k x v = call k x v
named_link false k x v = last (PostMore (t.Feature x v))

abbrev pub IsCalled : Bool → CallKind → List Token → Type 0
IsCalled called k text = (n l : ℕ) (x : Tree) (v : List ℕ) (o : Outcome) → Runs n l (named_link called k x v) text o → Runs n l (linked k x v) text o

-- one link of a chain of `.` and `->` is read: what comes of the chain behind it comes of the whole
abbrev pub ComesLinked : ℕ → ℕ → Rest → List Token → Result (Node × Bor (List Token)) Unread → Type 0
ComesLinked n l r text result = MatchResult result
    (λ u. (o : Outcome) → Runs n l (last (PostMore (tree_of u.0))) u.1.now o → Runs n l r text o) (IsOutcome (Runs n l r text))

-- an expression that ends with this sign is read
abbrev pub ComesEnded : ℕ → ℕ → Token → List Token → Result (Node × Bor (List Token)) Unread → Type 0
ComesEnded n l a text result = MatchResult result
    (λ u. (r : Tree → Rest) (o : Outcome) → Runs n l (r (tree_of u.0)) u.1.now o → Runs n l (phrase Expr (λ x. sign a (r x))) text o)
    (λ e. (r : Tree → Rest) → IsOutcome (Runs n l (phrase Expr (λ x. sign a (r x))) text) e)

-- the arguments of a call are read
abbrev pub ComesArguments : ℕ → ℕ → List Token → Result (List (Argument Node) × Bor (List Token)) Unread → Type 0
ComesArguments n l text result = MatchResult result
    (λ u. (k : CallKind) (x : Tree) (v : List ℕ) → Runs n l (last (CallArguments k x v)) text (Good (t.Call k x v (arguments_in u.0)) u.1.now))
    (λ e. (k : CallKind) (x : Tree) (v : List ℕ) → IsOutcome (Runs n l (last (CallArguments k x v)) text) e)

-- one argument is read
abbrev pub ComesArgument : ℕ → ℕ → (CallKind → Tree → List ℕ → Arguments → Rest) → List Token → Result (Argument Node × Bor (List Token)) Unread → Type 0
ComesArgument n l r text result = MatchResult result
    (λ u. (k : CallKind) (x : Tree) (v : List ℕ) (xs : Arguments) (o : Outcome) →
    Runs n l (last (ArgumentMore k x v (with_argument xs u.0))) u.1.now o → Runs n l (r k x v xs) text o)
    (λ e. (k : CallKind) (x : Tree) (v : List ℕ) (xs : Arguments) → IsOutcome (Runs n l (r k x v xs) text) e)

-- the elements of a collection are read
abbrev pub ComesElements : ℕ → ℕ → List Token → Result (List Node × Bor (List Token)) Unread → Type 0
ComesElements n l text result = MatchResult result
    (λ u. (k : CollectionKind) → Runs n l (last (Elements k)) text (Good (t.Collection k (trees_in u.0)) u.1.now))
    (λ e. (k : CollectionKind) → IsOutcome (Runs n l (last (Elements k)) text) e)

-- the line of an argument
abbrev pub any_argument : CallKind → Tree → List ℕ → Arguments → Rest
any_argument k x v xs = last (ArgumentPhrase k x v xs)

-- the parts of an `if` and of a `let`, behind its first word
abbrev pub if_inside : Rest
if_inside = phrase Expr (λ x. sign (Sign s.Then) (phrase Expr (λ y. sign (Sign s.Else) (phrase Expr (λ z. sign (Sign s.Endif) (done (t.If x y z)))))))

abbrev pub let_inside : Rest
let_inside = name (λ v. sign (Sign s.Equal) (phrase Expr (λ x. sign (Sign s.In) (phrase Expr (λ y. done (t.Let v x y))))))

abbrev pub let_line : Rest
let_line = opening openings (Sign s.Let) let_inside done

abbrev pub if_line : Rest
if_line = opening openings (Sign s.If) if_inside done

abbrev pub parentheses_line : Rest
parentheses_line = opening openings (Sign s.Open) (inside Expr (Sign s.Close)) done

-- the braces of a collection
abbrev pub braces : CollectionKind → Rest
braces k = opening openings (Sign s.OpenBrace) (inside (Elements k) (Sign s.CloseBrace)) done

-- behind a first name and its `::`
abbrev pub literal_rest : List ℕ → Rest
literal_rest v = name (λ w. sign (Sign s.Colons) (name (λ n. done (t.Literal v w n))))
