-- No spelling of a tree has fewer tokens, openings or lambdas than its canonical one.
use Rattle.std.proofs.Common.{◌≡◌, ℕ, zero, suc, ◌≤◌, ◌+◌, List, false, length, refl, subst, arith, lit≤}
use Rattle.wb_aql_grammar.specs.Tree.{Tree, Trees, Arguments, no_trees, no_arguments}
use Rattle.wb_aql_grammar.specs.Tree as t
use Rattle.wb_aql_grammar.specs.Grammar.{Phrase, Expr, Implies, Or, Xor, And, Neg, Cmp, Sum, Term, Unary, Post, Atom, ImpliesMore, OrMore, XorMore, AndMore, CmpMore, SumMore, TermMore, PostMore, Named, Featured, CallArguments, Argument, ArgumentMore, Elements, Element, ElementMore, openings, lambdas, Rest, done, sign, name, phrase, opening, last, inside, Line, Takes, takes_opening, takes_lambda, Reads, reads_done, reads_sign, reads_name, reads_phrase, reads_opening, Spells}
use Rattle.wb_aql_grammar.specs.Grammar as g
use Rattle.wb_aql_syntax.specs.Canonical.{rank, left_of, right_of, whole_of, pieces, element_pieces, argument_pieces, canon, openings_of, element_openings, argument_openings, lambdas_of, element_lambdas, argument_lambdas}
use Rattle.wb_aql_tokens.specs.declared.token.Token.{Token}
use Rattle.wb_aql_tokens.specs.declared.token.Token.TheVariants.{Sign}
use Rattle.wb_aql_tokens.specs.declared.token.Sign.TheVariants as s
use Rattle.wb_aql_grammar.specs.declared.expr.Constant.{Constant}
use Rattle.wb_aql_grammar.specs.declared.expr.Constant.TheVariants as c
use Rattle.wb_aql_grammar.specs.declared.expr.Binary.{Binary as BinaryOperator}
use Rattle.wb_aql_grammar.specs.declared.expr.Binary.TheVariants as b
use Rattle.wb_aql_grammar.specs.declared.expr.CallKind.{CallKind}
use Rattle.wb_aql_grammar.specs.declared.expr.CallKind.TheVariants as d
use Rattle.wb_aql_grammar.specs.declared.expr.CollectionKind.{CollectionKind}
use Rattle.wb_aql_grammar.specs.declared.expr.CollectionKind.TheVariants as k
use Rattle.wb_aql_syntax.specs.declared.tightness.Tightness.{Tightness}
use Rattle.wb_aql_syntax.specs.declared.tightness.Tightness.TheVariants as at
use Rattle.wb_aql_syntax.proofs.Sizes.{count, count_tokens, size_at, open_at, Cost, looser, more, plain, any_tokens, any_opened, in_parentheses, cost_binary, cost_not, cost_negate, cost_if, cost_let, cost_feature, size_call, size_collection, cost_call, cost_collection, element_comma, argument_comma, size_elements, size_expression, size_lambda, size_type, elements_opened, elements_bound, expression_opened, expression_bound, lambda_opened, lambda_bound, type_opened, type_bound}
use Rattle.wb_aql_syntax.proofs.CanonicalSpells.{spelled}
use Rattle.wb_aql_grammar.proofs.Unique.{unambiguous}

-- ---- what a phrase costs

-- the tree of a phrase is one of this sort
abbrev sort : Phrase → Tightness
sort Expr = at.Expr
sort Implies = at.Implies
sort (ImpliesMore x) = at.Implies
sort Or = at.Or
sort (OrMore x) = at.Or
sort Xor = at.Xor
sort (XorMore x) = at.Xor
sort And = at.And
sort (AndMore x) = at.And
sort Neg = at.Neg
sort Cmp = at.Cmp
sort (CmpMore x) = at.Cmp
sort Sum = at.Sum
sort (SumMore x) = at.Sum
sort Term = at.Term
sort (TermMore x) = at.Term
sort Unary = at.Unary
sort Post = at.Post
sort (PostMore x) = at.Post
sort (Featured x v) = at.Post
sort (CallArguments d x v) = at.Post
sort (Argument d x v ys) = at.Post
sort (ArgumentMore d x v ys) = at.Post
sort _ = at.Atom

-- so many of its tokens stand before it, or behind the bracket that ends it
abbrev around : Phrase → ℕ
around (ImpliesMore x) = size_at at.Implies x
around (OrMore x) = size_at at.Or x
around (XorMore x) = size_at at.Xor x
around (AndMore x) = size_at at.And x
around (CmpMore x) = size_at at.Sum x
around (SumMore x) = size_at at.Sum x
around (TermMore x) = size_at at.Term x
around (PostMore x) = size_at at.Post x
around (Named v) = 1
around (Featured x v) = suc (suc (size_at at.Post x))
around (CallArguments d x v) = size_call x no_arguments
around (Argument d x v ys) = argument_comma ys + size_call x ys
around (ArgumentMore d x v ys) = size_call x ys
around (Elements k) = size_collection no_trees
around (Element k ys) = element_comma ys + size_collection ys
around (ElementMore k ys) = size_collection ys
around _ = 0

-- what stands inside the bracket of a call or a collection is read with one opening less
abbrev outside : Phrase → ℕ → ℕ
outside (CallArguments d x v) n = suc n
outside (Argument d x v ys) n = suc n
outside (ArgumentMore d x v ys) n = suc n
outside (Elements k) n = suc n
outside (Element k ys) n = suc n
outside (ElementMore k ys) n = suc n
outside _ n = n

-- the trees before it are within the bounds
abbrev AtMost : ℕ → ℕ → Tightness → Tree → Type 0
AtMost n l p x = (open_at p x ≤ n) × (lambdas_of x ≤ l)

abbrev Given : ℕ → ℕ → Phrase → Type 0
Given n l (ImpliesMore x) = AtMost n l at.Implies x
Given n l (OrMore x) = AtMost n l at.Or x
Given n l (XorMore x) = AtMost n l at.Xor x
Given n l (AndMore x) = AtMost n l at.And x
Given n l (CmpMore x) = AtMost n l at.Sum x
Given n l (SumMore x) = AtMost n l at.Sum x
Given n l (TermMore x) = AtMost n l at.Term x
Given n l (PostMore x) = AtMost n l at.Post x
Given n l (Featured x v) = AtMost n l at.Post x
Given n l (CallArguments d x v) = AtMost (suc n) l at.Post x
Given n l (Argument d x v ys) = AtMost (suc n) l at.Post x × (argument_openings ys ≤ n) × (argument_lambdas ys ≤ l)
Given n l (ArgumentMore d x v ys) = AtMost (suc n) l at.Post x × (argument_openings ys ≤ n) × (argument_lambdas ys ≤ l)
Given n l (Element k ys) = (element_openings ys ≤ n) × (element_lambdas ys ≤ l)
Given n l (ElementMore k ys) = (element_openings ys ≤ n) × (element_lambdas ys ≤ l)
Given n l _ = Unit {0}

-- a phrase of j tokens costs no more
abbrev Due : ℕ → ℕ → Phrase → ℕ → Tree → Type 0
Due n l p j y = Cost (outside p n) l (sort p) (j + around p) y

-- Where each phrase costs no more, the rest of a line, behind c tokens of it, gives a tree that costs no more
-- than all its tokens, within N openings and L lambdas.
abbrev Pays : Rest → (n l N L : ℕ) → Tightness → ℕ → Type 0
Pays (done x) n l N L p c = Cost N L p c x
Pays (sign a r) n l N L p c = Pays r n l N L p (suc c)
Pays (name r) n l N L p c = (v : List ℕ) → Pays (r v) n l N L p (suc c)
Pays (phrase q r) n l N L p c = Given n l q × ((y : Tree) (j : ℕ) → Due n l q j y → Pays (r y) n l N L p (j + c))
Pays (opening bound a i r) n l N L p c = (m k : ℕ) → Takes bound n l m k →
    (M : ℕ) × (K : ℕ) × (q : Tightness) × (e : ℕ) × Pays i m k M K q e × ((y : Tree) (j : ℕ) → Cost M K q (j + e) y → Pays (r y) n l N L p (suc (j + c)))

-- ---- each line of the grammar

open_line : (T : ℕ → ℕ → Type 0) (n l : ℕ) → T n l → (m k : ℕ) → Takes openings (suc n) l m k → T m k
open_line T n l f m k takes_opening = f

bar_line : (T : ℕ → ℕ → Type 0) (n l : ℕ) → T n l → (m k : ℕ) → Takes lambdas n (suc l) m k → T m k
bar_line T n l f m k takes_lambda = f

no_opening : (T : ℕ → ℕ → Type 0) (l m k : ℕ) → Takes openings 0 l m k → T m k
no_opening T l m k takes = elim takes [ ]

no_bar : (T : ℕ → ℕ → Type 0) (n m k : ℕ) → Takes lambdas n 0 m k → T m k
no_bar T n m k takes = elim takes [ ]

module _ {n l : ℕ} where
  ended : (p : Tightness) (x : Tree) → AtMost n l p x → Cost n l p (size_at p x) x
  ended p x u = record { tokens = omega arith; opened = u.0; bound = u.1 }

  -- a chain begins
  begins : (p q : Tightness) → rank p ≤ rank q → (j : ℕ) (y : Tree) → Cost n l q (j + 0) y →
      AtMost n l p y × ((z : Tree) (i : ℕ) → Cost n l p (i + size_at p y) z → Cost n l p (i + (j + 0)) z)
  begins p q h j y c = let d = looser p q h c in ((d.opened, d.bound), λ z i e. more (omega (arith, d.tokens)) e)

  -- a chain goes on
  goes_on : (o : BinaryOperator) (x : Tree) → AtMost n l (left_of o) x → (j : ℕ) (y : Tree) → Cost n l (right_of o) (j + 0) y →
      AtMost n l (whole_of o) (t.Binary o x y)
      × ((z : Tree) (i : ℕ) → Cost n l (whole_of o) (i + size_at (whole_of o) (t.Binary o x y)) z → Cost n l (whole_of o) (i + (j + suc (size_at (left_of o) x))) z)
  goes_on o x u j y c = let d = cost_binary o x y (j + 0) u.0 u.1 c in ((d.opened, d.bound), λ z i e. more (omega (arith, d.tokens)) e)

  compares : (o : BinaryOperator) (x : Tree) → AtMost n l (left_of o) x → (j : ℕ) (y : Tree) → Cost n l (right_of o) (j + 0) y → Cost n l (whole_of o) (j + suc (size_at (left_of o) x)) (t.Binary o x y)
  compares o x u j y c = more (omega arith) (cost_binary o x y (j + 0) u.0 u.1 c)

  leaf_integer : (i : ℕ) → Cost n l at.Atom 1 (t.Integer i)
  unfolding pieces openings_of lambdas_of
  leaf_integer i = plain at.Atom (t.Integer i) refl (omega arith) (omega arith) (omega arith)

  leaf_text : (v : List ℕ) → Cost n l at.Atom 1 (t.Text v)
  unfolding pieces openings_of lambdas_of
  leaf_text v = plain at.Atom (t.Text v) refl (omega arith) (omega arith) (omega arith)

  leaf_constant : (c : Constant) → Cost n l at.Atom 1 (t.Const c)
  unfolding pieces openings_of lambdas_of
  leaf_constant c = plain at.Atom (t.Const c) refl (omega arith) (omega arith) (omega arith)

  leaf_variable : (v : List ℕ) → Cost n l at.Atom 1 (t.Variable v)
  unfolding pieces openings_of lambdas_of
  leaf_variable v = plain at.Atom (t.Variable v) refl (omega arith) (omega arith) (omega arith)

  leaf_literal : (p e v : List ℕ) → Cost n l at.Atom 5 (t.Literal p e v)
  unfolding pieces openings_of lambdas_of
  leaf_literal p e v = plain at.Atom (t.Literal p e v) refl (omega arith) (omega arith) (omega arith)

no_arguments_within : (n l : ℕ) → (argument_openings no_arguments ≤ n) × (argument_lambdas no_arguments ≤ l)
unfolding openings_of lambdas_of
no_arguments_within n l = (omega arith, omega arith)

no_elements_within : (n l : ℕ) → (element_openings no_trees ≤ n) × (element_lambdas no_trees ≤ l)
unfolding openings_of lambdas_of
no_elements_within n l = (omega arith, omega arith)

no_arguments_size : count (argument_pieces false no_arguments) ≡ 0
unfolding pieces
no_arguments_size = refl

no_elements_size : count (element_pieces false no_trees) ≡ 0
unfolding pieces
no_elements_size = refl

one_element_comma : (ys : Trees) → element_comma ys ≤ 1
one_element_comma no_trees = omega arith
one_element_comma ys = omega arith

one_argument_comma : (ys : Arguments) → argument_comma ys ≤ 1
one_argument_comma no_arguments = omega arith
one_argument_comma ys = omega arith

-- the parentheses of a call, behind its name
calls : (d : CallKind) (n l : ℕ) (x : Tree) (v : List ℕ) → AtMost (suc n) l at.Post x →
    (M : ℕ) × (K : ℕ) × (q : Tightness) × (e : ℕ) × Pays (inside (CallArguments d x v) (Sign s.Close)) n l M K q e
    × ((y : Tree) (j : ℕ) → Cost M K q (j + e) y → Pays (last (PostMore y)) (suc n) l (suc n) l at.Post (suc (j + suc (suc (size_at at.Post x)))))
calls d n l x v u = (
  suc n,
  l,
  at.Post,
  3 + size_at at.Post x,
  (u, λ y j c. more (omega (arith, no_arguments_size)) c),
  λ y j c. ((c.opened, c.bound), λ z i e. more (omega (arith, c.tokens)) e),
)

-- the braces of a collection, behind its word
collects : (k : CollectionKind) (n l : ℕ) →
    (M : ℕ) × (K : ℕ) × (q : Tightness) × (e : ℕ) × Pays (inside (Elements k) (Sign s.CloseBrace)) n l M K q e
    × ((y : Tree) (j : ℕ) → Cost M K q (j + e) y → Pays (done y) (suc n) l (suc n) l at.Atom (suc (j + 1)))
collects k n l = (
  suc n,
  l,
  at.Atom,
  2,
  (tt, λ y j c. more (omega (arith, no_elements_size)) c),
  λ y j c. more (omega arith) c,
)

lines : {p : Phrase} {line : Rest} → Line p line → (n l : ℕ) → Given n l p → Pays line n l (outside p n) l (sort p) (around p)
lines g.let_in zero l u = no_opening _ l
lines g.let_in (suc n) l u = open_line _ n l (
  suc n,
  l,
  at.Expr,
  1,
  λ v. (tt, λ x j c. (tt, λ y i e. more (omega arith) (cost_let v x y (j + 0) (i + 0) c e))),
  λ y j c. more (omega arith) c,
)
lines g.expr n l u = (tt, λ y j c. looser at.Expr at.Implies (lit≤ tt) c)
lines g.implies n l u = (tt, λ y j c. begins at.Implies at.Or (lit≤ tt) j y c)
lines (g.implies_more {x = x}) n l u = (tt, λ y j c. goes_on b.Implies x u j y c)
lines (g.implies_end {x = x}) n l u = ended at.Implies x u
lines g.or n l u = (tt, λ y j c. begins at.Or at.Xor (lit≤ tt) j y c)
lines (g.or_more {x = x}) n l u = (tt, λ y j c. goes_on b.Or x u j y c)
lines (g.or_end {x = x}) n l u = ended at.Or x u
lines g.xor n l u = (tt, λ y j c. begins at.Xor at.And (lit≤ tt) j y c)
lines (g.xor_more {x = x}) n l u = (tt, λ y j c. goes_on b.Xor x u j y c)
lines (g.xor_end {x = x}) n l u = ended at.Xor x u
lines g.and n l u = (tt, λ y j c. begins at.And at.Neg (lit≤ tt) j y c)
lines (g.and_more {x = x}) n l u = (tt, λ y j c. goes_on b.And x u j y c)
lines (g.and_end {x = x}) n l u = ended at.And x u
lines g.not zero l u = no_opening _ l
lines g.not (suc n) l u = open_line _ n l (suc n, l, at.Neg, 1, (tt, λ x j c. more (omega arith) (cost_not x (j + 0) c)), λ y j c. more (omega arith) c)
lines g.neg n l u = (tt, λ y j c. looser at.Neg at.Cmp (lit≤ tt) c)
lines g.cmp n l u = (tt, λ y j c. ((c.opened, c.bound), λ z i e. more (omega (arith, c.tokens)) e))
lines (g.equal {x = x}) n l u = (tt, λ y j c. compares b.Equal x u j y c)
lines (g.not_equal {x = x}) n l u = (tt, λ y j c. compares b.NotEqual x u j y c)
lines (g.less {x = x}) n l u = (tt, λ y j c. compares b.Less x u j y c)
lines (g.less_equal {x = x}) n l u = (tt, λ y j c. compares b.LessEqual x u j y c)
lines (g.greater {x = x}) n l u = (tt, λ y j c. compares b.Greater x u j y c)
lines (g.greater_equal {x = x}) n l u = (tt, λ y j c. compares b.GreaterEqual x u j y c)
lines (g.cmp_end {x = x}) n l u = looser at.Cmp at.Sum (lit≤ tt) (ended at.Sum x u)
lines g.sum n l u = (tt, λ y j c. begins at.Sum at.Term (lit≤ tt) j y c)
lines (g.plus {x = x}) n l u = (tt, λ y j c. goes_on b.Add x u j y c)
lines (g.minus {x = x}) n l u = (tt, λ y j c. goes_on b.Subtract x u j y c)
lines (g.sum_end {x = x}) n l u = ended at.Sum x u
lines g.term n l u = (tt, λ y j c. begins at.Term at.Unary (lit≤ tt) j y c)
lines (g.times {x = x}) n l u = (tt, λ y j c. goes_on b.Multiply x u j y c)
lines (g.div {x = x}) n l u = (tt, λ y j c. goes_on b.Divide x u j y c)
lines (g.term_end {x = x}) n l u = ended at.Term x u
lines g.negate zero l u = no_opening _ l
lines g.negate (suc n) l u = open_line _ n l (suc n, l, at.Unary, 1, (tt, λ x j c. more (omega arith) (cost_negate x (j + 0) c)), λ y j c. more (omega arith) c)
lines g.unary n l u = (tt, λ y j c. looser at.Unary at.Post (lit≤ tt) c)
lines g.post n l u = (tt, λ y j c. begins at.Post at.Atom (lit≤ tt) j y c)
lines g.dot n l u = λ v. (u, λ y j c. more (omega arith) c)
lines (g.arrow {x = x}) zero l u = λ v. no_opening _ l
lines (g.arrow {x = x}) (suc n) l u = λ v. open_line _ n l (calls d.Arrow n l x v u)
lines (g.post_end {x = x}) n l u = ended at.Post x u
lines (g.dot_call {x = x}) zero l u = no_opening _ l
lines (g.dot_call {x = x} {v = v}) (suc n) l u = open_line _ n l (calls d.Dot n l x v u)
lines (g.feature {x = x} {v = v}) n l u = let d = cost_feature x v u.0 u.1 in ((d.opened, d.bound), λ z i e. more (omega (arith, d.tokens)) e)
lines (g.no_argument {d = d} {x = x} {v = v}) n l u = cost_call d x v no_arguments u.0 u.1 (no_arguments_within n l).0 (no_arguments_within n l).1
lines g.first_argument n l u = ((u, (no_arguments_within n l).0, (no_arguments_within n l).1), λ y j c. more (omega arith) c)
lines (g.next_argument {xs = ys}) n l u = (u, λ y j c. more (omega (arith, one_argument_comma ys)) c)
lines (g.arguments_end {d = d} {x = x} {v = v} {xs = ys}) n l u = cost_call d x v ys u.0.0 u.0.1 u.1 u.2
lines (g.lambda {x = x} {xs = ys}) n zero u = λ w. no_bar _ n
lines (g.lambda {x = x} {xs = ys}) n (suc l) u = λ w. bar_line _ n l (
  n,
  l,
  at.Expr,
  0,
  (tt, λ y j c. more (omega arith) c),
  λ y j c. ((u.0, lambda_opened n (suc l) w y ys (any_opened c) u.1, lambda_bound n (suc l) w y ys (omega (arith, c.bound)) u.2), λ z i e. more (omega (arith, size_lambda w y ys, any_tokens c)) e),
)
lines (g.class {xs = ys}) n l u = λ w e. ((u.0, type_opened n l w e ys u.1, type_bound n l w e ys u.2), λ z i c. more (omega (arith, size_type w e ys)) c)
lines (g.expression {xs = ys}) n l u =
    (tt, λ y j c. ((u.0, expression_opened n l y ys (any_opened c) u.1, expression_bound n l y ys c.bound u.2), λ z i e. more (omega (arith, size_expression y ys, any_tokens c)) e))
lines (g.integer {n = i}) n l u = leaf_integer i
lines (g.text {v = v}) n l u = leaf_text v
lines g.null n l u = leaf_constant c.Null
lines g.true n l u = leaf_constant c.True
lines g.false n l u = leaf_constant c.False
lines g.named n l u = λ v. (tt, λ y j c. c)
lines (g.variable {v = v}) n l u = leaf_variable v
lines (g.literal {v = v}) n l u = λ w e. leaf_literal v w e
lines g.parentheses zero l u = no_opening _ l
lines g.parentheses (suc n) l u = open_line _ n l (suc n, l, at.Atom, 1, (tt, λ x j c. more (omega arith) (in_parentheses c)), λ y j c. more (omega arith) c)
lines g.if zero l u = no_opening _ l
lines g.if (suc n) l u = open_line _ n l (
  suc n,
  l,
  at.Atom,
  1,
  (tt, λ x j c. (tt, λ y i e. (tt, λ z h f. more (omega arith) (cost_if x y z (j + 0) (i + 0) (h + 0) c e f)))),
  λ y j c. more (omega arith) c,
)
lines g.sequence zero l u = no_opening _ l
lines g.sequence (suc n) l u = open_line _ n l (collects k.Sequence n l)
lines g.ordered_set zero l u = no_opening _ l
lines g.ordered_set (suc n) l u = open_line _ n l (collects k.OrderedSet n l)
lines (g.no_element {k = k}) n l u = cost_collection k no_trees (no_elements_within n l).0 (no_elements_within n l).1
lines g.first_element n l u = (no_elements_within n l, λ y j c. more (omega arith) c)
lines (g.element {xs = ys}) n l u = (tt, λ y j c. ((elements_opened n l y ys (any_opened c) u.0, elements_bound n l y ys c.bound u.1), λ z i e. more (omega (arith, size_elements y ys, any_tokens c)) e))
lines (g.next_element {xs = ys}) n l u = (u, λ y j c. more (omega (arith, one_element_comma ys)) c)
lines (g.elements_end {k = k} {xs = ys}) n l u = cost_collection k ys u.0 u.1

-- ---- every reading

read : {n l : ℕ} {r : Rest} {text rest : List Token} {x : Tree} → Reads n l r text rest x → (N L : ℕ) (p : Tightness) (c : ℕ) → Pays r n l N L p c →
    (k : ℕ) × (length text ≡ k + length rest) × Cost N L p (k + c) x
read reads_done N L p c pays = (0, omega arith, more (omega arith) pays)
read (reads_sign d) N L p c pays = let u = read d N L p (suc c) pays in (suc u.0, omega (arith, u.1), more (omega arith) u.2)
read (reads_name {v = v} d) N L p c pays = let u = read d N L p (suc c) (pays v) in (suc u.0, omega (arith, u.1), more (omega arith) u.2)
read {n = n} {l = l} (reads_phrase {p = q} {y = y} line d e) N L p c pays =
    let u = read d (outside q n) l (sort q) (around q) (lines line n l pays.0) in
    let w = read e N L p (u.0 + c) (pays.1 y u.0 u.2) in
    (u.0 + w.0, omega (arith, u.1, w.1), more (omega arith) w.2)
read (reads_opening {m = m} {k = k} {y = y} takes d e) N L p c pays =
    let inner = pays m k takes in
    let u = read d inner.0 inner.1 inner.2 inner.3 inner.4 in
    let w = read e N L p (suc (u.0 + c)) (inner.5 y u.0 u.2) in
    (suc (u.0 + w.0), omega (arith, u.1, w.1), more (omega arith) w.2)

cost_spelled : (n l : ℕ) (tokens : List Token) (x : Tree) → Spells n l tokens x → Cost n l at.Expr (length tokens) x
cost_spelled n l tokens x d = let u = read d n l at.Expr 0 (tt, λ y j c. more (omega arith) c) in more (omega (arith, u.1)) u.2

pub fewest_tokens : (n l : ℕ) (tokens : List Token) (x : Tree) → Spells n l tokens x → length (canon x) ≤ length tokens
fewest_tokens n l tokens x d = omega (arith, count_tokens (pieces x), any_tokens (cost_spelled n l tokens x d))

pub least_bounds : (n l : ℕ) (tokens : List Token) (x : Tree) → Spells n l tokens x → (openings_of x ≤ n) × (lambdas_of x ≤ l)
least_bounds n l tokens x d = let cost = cost_spelled n l tokens x d in (any_opened cost, cost.bound)

pub same_tree : (x y : Tree) → canon x ≡ canon y → x ≡ y
same_tree x y e = unambiguous (openings_of x) (lambdas_of x) (openings_of y) (lambdas_of y) (canon y) x y
    (subst (λ tokens. Spells (openings_of x) (lambdas_of x) tokens x) e (spelled x)) (spelled y)
