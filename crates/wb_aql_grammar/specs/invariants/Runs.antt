-- How a text is read from the left: which line of the grammar is taken at which next token, and what comes of it.
use Rattle.std.specs.Prelude.{ℕ, zero, List, ◌∷◌, ◌≡◌, ◌≢◌, Option, Some, None}
use Rattle.wb_aql_grammar.specs.Tree.{Tree, Trees, Arguments, no_trees, no_arguments, with_tree, with_lambda, with_type, with_expression}
use Rattle.wb_aql_grammar.specs.Tree as t
use Rattle.wb_aql_grammar.specs.Places.{head}
use Rattle.wb_aql_grammar.specs.Grammar.{Phrase, Expr, Implies, Or, Xor, And, Neg, Cmp, Sum, Term, Unary, Post, Atom, ImpliesMore, OrMore, XorMore, AndMore, CmpMore, SumMore, TermMore, PostMore, Named, Featured, CallArguments, Argument, ArgumentMore, Elements, Element, ElementMore, Bound, openings, lambdas, Rest, done, sign, name, phrase, opening, last, inside, Takes}
use Rattle.wb_aql_tokens.specs.declared.token.Token.{Token}
use Rattle.wb_aql_tokens.specs.declared.token.Token.TheVariants.{Sign, Name, Integer, Quoted}
use Rattle.wb_aql_tokens.specs.declared.token.Sign.TheVariants as s
use Rattle.wb_aql_grammar.specs.declared.expr.Constant.TheVariants as c
use Rattle.wb_aql_grammar.specs.declared.expr.CollectionKind.{CollectionKind}
use Rattle.wb_aql_grammar.specs.declared.expr.CollectionKind.TheVariants as k
use Rattle.wb_aql_grammar.specs.declared.expr.Unary.TheVariants as u
use Rattle.wb_aql_grammar.specs.declared.expr.Binary.{Binary}
use Rattle.wb_aql_grammar.specs.declared.expr.Binary.TheVariants as b
use Rattle.wb_aql_grammar.specs.declared.expr.CallKind.{CallKind}
use Rattle.wb_aql_grammar.specs.declared.expr.CallKind.TheVariants as d

-- what comes of reading: a tree and what follows it, or what follows the front that can still be read,
-- where the next token cannot go on, or opens one more than may be open
pub data Outcome : Type 0 where
  Good : Tree → List Token → Outcome
  Wrong : List Token → Outcome
  Deep : List Token → Outcome

-- nothing was read
pub data IsUnread : Outcome → Type 0 where
  wrong_unread : {rest : List Token} → IsUnread (Wrong rest)
  deep_unread : {rest : List Token} → IsUnread (Deep rest)

-- a chain goes on with an operator and an operand
abbrev pub chain : Token → Phrase → (Tree → Phrase) → Rest
chain a operand more = sign a (phrase operand (λ y. last (more y)))

abbrev pub compare : Token → Binary → Tree → Rest
compare a op x = sign a (phrase Sum (λ y. done (t.Binary op x y)))

abbrev pub implies_next : Tree → Option Token → Rest
implies_next x (Some (Sign s.Implies)) = chain (Sign s.Implies) Or (λ y. ImpliesMore (t.Binary b.Implies x y))
implies_next x _ = done x

abbrev pub or_next : Tree → Option Token → Rest
or_next x (Some (Sign s.Or)) = chain (Sign s.Or) Xor (λ y. OrMore (t.Binary b.Or x y))
or_next x _ = done x

abbrev pub xor_next : Tree → Option Token → Rest
xor_next x (Some (Sign s.Xor)) = chain (Sign s.Xor) And (λ y. XorMore (t.Binary b.Xor x y))
xor_next x _ = done x

abbrev pub and_next : Tree → Option Token → Rest
and_next x (Some (Sign s.And)) = chain (Sign s.And) Neg (λ y. AndMore (t.Binary b.And x y))
and_next x _ = done x

abbrev pub cmp_next : Tree → Option Token → Rest
cmp_next x (Some (Sign s.Equal)) = compare (Sign s.Equal) b.Equal x
cmp_next x (Some (Sign s.NotEqual)) = compare (Sign s.NotEqual) b.NotEqual x
cmp_next x (Some (Sign s.Less)) = compare (Sign s.Less) b.Less x
cmp_next x (Some (Sign s.LessEqual)) = compare (Sign s.LessEqual) b.LessEqual x
cmp_next x (Some (Sign s.Greater)) = compare (Sign s.Greater) b.Greater x
cmp_next x (Some (Sign s.GreaterEqual)) = compare (Sign s.GreaterEqual) b.GreaterEqual x
cmp_next x _ = done x

abbrev pub sum_next : Tree → Option Token → Rest
sum_next x (Some (Sign s.Plus)) = chain (Sign s.Plus) Term (λ y. SumMore (t.Binary b.Add x y))
sum_next x (Some (Sign s.Minus)) = chain (Sign s.Minus) Term (λ y. SumMore (t.Binary b.Subtract x y))
sum_next x _ = done x

abbrev pub term_next : Tree → Option Token → Rest
term_next x (Some (Sign s.Times)) = chain (Sign s.Times) Unary (λ y. TermMore (t.Binary b.Multiply x y))
term_next x (Some (Sign s.Div)) = chain (Sign s.Div) Unary (λ y. TermMore (t.Binary b.Divide x y))
term_next x _ = done x

-- the parentheses of a call, and what follows them
abbrev pub call : CallKind → Tree → List ℕ → Rest
call d x v = opening openings (Sign s.Open) (inside (CallArguments d x v) (Sign s.Close)) (λ y. last (PostMore y))

abbrev pub post_next : Tree → Option Token → Rest
post_next x (Some (Sign s.Dot)) = sign (Sign s.Dot) (name (λ v. last (Featured x v)))
post_next x (Some (Sign s.Arrow)) = sign (Sign s.Arrow) (name (λ v. call d.Arrow x v))
post_next x _ = done x

abbrev pub featured_next : Tree → List ℕ → Option Token → Rest
featured_next x v (Some (Sign s.Open)) = call d.Dot x v
featured_next x v _ = last (PostMore (t.Feature x v))

abbrev pub named_next : List ℕ → Option Token → Rest
named_next v (Some (Sign s.Colons)) = sign (Sign s.Colons) (name (λ w. sign (Sign s.Colons) (name (λ n. done (t.Literal v w n)))))
named_next v _ = done (t.Variable v)

abbrev pub expr_next : Option Token → Rest
expr_next (Some (Sign s.Let)) = opening openings (Sign s.Let)
    (name (λ v. sign (Sign s.Equal) (phrase Expr (λ x. sign (Sign s.In) (phrase Expr (λ y. done (t.Let v x y))))))) done
expr_next _ = last Implies

abbrev pub neg_next : Option Token → Rest
neg_next (Some (Sign s.Not)) = opening openings (Sign s.Not) (phrase Neg (λ x. done (t.Unary u.Not x))) done
neg_next _ = last Cmp

abbrev pub unary_next : Option Token → Rest
unary_next (Some (Sign s.Minus)) = opening openings (Sign s.Minus) (phrase Unary (λ x. done (t.Unary u.Negate x))) done
unary_next _ = last Post

abbrev pub collection : Token → CollectionKind → Rest
collection a k = sign a (opening openings (Sign s.OpenBrace) (inside (Elements k) (Sign s.CloseBrace)) done)

-- the line of an atom, where one begins
abbrev pub atom_next : Option Token → Option Rest
atom_next (Some (Integer n)) = Some (sign (Integer n) (done (t.Integer n)))
atom_next (Some (Quoted v)) = Some (sign (Quoted v) (done (t.Text v)))
atom_next (Some (Name v)) = Some (name (λ v. last (Named v)))
atom_next (Some (Sign s.Null)) = Some (sign (Sign s.Null) (done (t.Const c.Null)))
atom_next (Some (Sign s.True)) = Some (sign (Sign s.True) (done (t.Const c.True)))
atom_next (Some (Sign s.False)) = Some (sign (Sign s.False) (done (t.Const c.False)))
atom_next (Some (Sign s.Open)) = Some (opening openings (Sign s.Open) (inside Expr (Sign s.Close)) done)
atom_next (Some (Sign s.If)) = Some (opening openings (Sign s.If) (phrase Expr (λ x. sign (Sign s.Then) (phrase Expr (λ y. sign (Sign s.Else)
    (phrase Expr (λ z. sign (Sign s.Endif) (done (t.If x y z)))))))) done)
atom_next (Some (Sign s.Sequence)) = Some (collection (Sign s.Sequence) k.Sequence)
atom_next (Some (Sign s.OrderedSet)) = Some (collection (Sign s.OrderedSet) k.OrderedSet)
atom_next _ = None

abbrev pub arguments_next : CallKind → Tree → List ℕ → Option Token → Rest
arguments_next d x v (Some (Sign s.Close)) = done (t.Call d x v no_arguments)
arguments_next d x v (Some (Sign s.CloseBrace)) = done (t.Call d x v no_arguments)
arguments_next d x v _ = last (Argument d x v no_arguments)

abbrev pub argument_more_next : CallKind → Tree → List ℕ → Arguments → Option Token → Rest
argument_more_next d x v xs (Some (Sign s.Comma)) = sign (Sign s.Comma) (last (Argument d x v xs))
argument_more_next d x v xs _ = done (t.Call d x v xs)

abbrev pub elements_next : CollectionKind → Option Token → Rest
elements_next k (Some (Sign s.Close)) = done (t.Collection k no_trees)
elements_next k (Some (Sign s.CloseBrace)) = done (t.Collection k no_trees)
elements_next k _ = last (Element k no_trees)

abbrev pub element_more_next : CollectionKind → Trees → Option Token → Rest
element_more_next k xs (Some (Sign s.Comma)) = sign (Sign s.Comma) (last (Element k xs))
element_more_next k xs _ = done (t.Collection k xs)

abbrev pub lambda_line : CallKind → Tree → List ℕ → Arguments → Rest
lambda_line d x v xs = name (λ w. opening lambdas (Sign s.Bar) (last Expr) (λ y. last (ArgumentMore d x v (with_lambda xs w y))))

abbrev pub class_line : CallKind → Tree → List ℕ → Arguments → Rest
class_line d x v xs = name (λ w. sign (Sign s.Colons) (name (λ n. last (ArgumentMore d x v (with_type xs w n)))))

abbrev pub expression_line : CallKind → Tree → List ℕ → Arguments → Rest
expression_line d x v xs = phrase Expr (λ y. last (ArgumentMore d x v (with_expression xs y)))

-- the line that is taken at this next token
abbrev pub next : Phrase → Option Token → Option Rest
next Expr h = Some (expr_next h)
next Implies h = Some (phrase Or (λ x. last (ImpliesMore x)))
next Or h = Some (phrase Xor (λ x. last (OrMore x)))
next Xor h = Some (phrase And (λ x. last (XorMore x)))
next And h = Some (phrase Neg (λ x. last (AndMore x)))
next Neg h = Some (neg_next h)
next Cmp h = Some (phrase Sum (λ x. last (CmpMore x)))
next Sum h = Some (phrase Term (λ x. last (SumMore x)))
next Term h = Some (phrase Unary (λ x. last (TermMore x)))
next Unary h = Some (unary_next h)
next Post h = Some (phrase Atom (λ x. last (PostMore x)))
next Atom h = atom_next h
next (ImpliesMore x) h = Some (implies_next x h)
next (OrMore x) h = Some (or_next x h)
next (XorMore x) h = Some (xor_next x h)
next (AndMore x) h = Some (and_next x h)
next (CmpMore x) h = Some (cmp_next x h)
next (SumMore x) h = Some (sum_next x h)
next (TermMore x) h = Some (term_next x h)
next (PostMore x) h = Some (post_next x h)
next (Named v) h = Some (named_next v h)
next (Featured x v) h = Some (featured_next x v h)
next (CallArguments d x v) h = Some (arguments_next d x v h)
next (Argument d x v xs) h = Some (expression_line d x v xs)
next (ArgumentMore d x v xs) h = Some (argument_more_next d x v xs h)
next (Elements k) h = Some (elements_next k h)
next (Element k xs) h = Some (phrase Expr (λ y. last (ElementMore k (with_tree xs y))))
next (ElementMore k xs) h = Some (element_more_next k xs h)

-- behind `name '::' name` of an argument: another `::`, so that it is a literal?
abbrev pub class_or_literal : Rest → Rest → Option Token → Rest
class_or_literal class expression (Some (Sign s.Colons)) = expression
class_or_literal class expression _ = class

-- the line of an argument, by up to four tokens
abbrev pub argument_next : CallKind → Tree → List ℕ → Arguments → List Token → Rest
argument_next d x v xs (Name w ∷ Sign s.Bar ∷ text) = lambda_line d x v xs
argument_next d x v xs (Name w ∷ Sign s.Colons ∷ Name n ∷ text) = class_or_literal (class_line d x v xs) (expression_line d x v xs) (head text)
argument_next d x v xs _ = expression_line d x v xs

abbrev pub pick : Phrase → List Token → Option Rest
pick (Argument d x v xs) text = Some (argument_next d x v xs text)
pick p text = next p (head text)

-- none of the first bound may be opened any more
pub data Spent : Bound → ℕ → ℕ → Type 0 where
  no_opening : {l : ℕ} → Spent openings zero l
  no_lambda : {n : ℕ} → Spent lambdas n zero

pub data Runs : ℕ → ℕ → Rest → List Token → Outcome → Type 0 where
  runs_done : {n l : ℕ} {x : Tree} {text : List Token} → Runs n l (done x) text (Good x text)
  runs_sign : {n l : ℕ} {a : Token} {r : Rest} {text : List Token} {o : Outcome} →
      Runs n l r text o → Runs n l (sign a r) (a ∷ text) o
  runs_no_sign : {n l : ℕ} {a : Token} {r : Rest} {text : List Token} → head text ≢ Some a → Runs n l (sign a r) text (Wrong text)
  runs_name : {n l : ℕ} {v : List ℕ} {r : List ℕ → Rest} {text : List Token} {o : Outcome} →
      Runs n l (r v) text o → Runs n l (name r) (Name v ∷ text) o
  runs_no_name : {n l : ℕ} {r : List ℕ → Rest} {text : List Token} →
      ((v : List ℕ) → head text ≢ Some (Name v)) → Runs n l (name r) text (Wrong text)
  runs_phrase : {n l : ℕ} {p : Phrase} {line : Rest} {r : Tree → Rest} {text more : List Token} {y : Tree} {o : Outcome} →
      pick p text ≡ Some line → Runs n l line text (Good y more) → Runs n l (r y) more o → Runs n l (phrase p r) text o
  runs_phrase_stop : {n l : ℕ} {p : Phrase} {line : Rest} {r : Tree → Rest} {text : List Token} {o : Outcome} →
      pick p text ≡ Some line → Runs n l line text o → IsUnread o → Runs n l (phrase p r) text o
  runs_no_phrase : {n l : ℕ} {p : Phrase} {r : Tree → Rest} {text : List Token} →
      pick p text ≡ None → Runs n l (phrase p r) text (Wrong text)
  runs_opening : {bound : Bound} {n l m k : ℕ} {a : Token} {i : Rest} {r : Tree → Rest} {text more : List Token} {y : Tree} {o : Outcome} →
      Takes bound n l m k → Runs m k i text (Good y more) → Runs n l (r y) more o → Runs n l (opening bound a i r) (a ∷ text) o
  runs_opening_stop : {bound : Bound} {n l m k : ℕ} {a : Token} {i : Rest} {r : Tree → Rest} {text : List Token} {o : Outcome} →
      Takes bound n l m k → Runs m k i text o → IsUnread o → Runs n l (opening bound a i r) (a ∷ text) o
  runs_no_opening : {bound : Bound} {n l : ℕ} {a : Token} {i : Rest} {r : Tree → Rest} {text : List Token} →
      head text ≢ Some a → Runs n l (opening bound a i r) text (Wrong text)
  runs_too_deep : {bound : Bound} {n l : ℕ} {a : Token} {i : Rest} {r : Tree → Rest} {text : List Token} →
      Spent bound n l → Runs n l (opening bound a i r) (a ∷ text) (Deep (a ∷ text))
