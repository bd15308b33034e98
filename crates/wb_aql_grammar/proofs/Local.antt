-- What each line of the grammar begins with, and that the next token picks it.
use Rattle.std.proofs.Common.{◌≡◌, ℕ, ◌≤◌, List, ◌∷◌, refl, sym, ap, subst, inl, inr, arith, Bool, true, false, ◌⊎◌, lit≤}
use Rattle.std.specs.Prelude.{Option, Some, None}
use Rattle.wb_aql_grammar.specs.Tree.{Tree, Trees, Arguments, no_trees, no_arguments}
use Rattle.wb_aql_grammar.specs.Tree as t
use Rattle.wb_aql_grammar.specs.Grammar.{Phrase, Expr, Implies, Or, Xor, And, Neg, Cmp, Sum, Term, Unary, Post, Atom, ImpliesMore, OrMore, XorMore, AndMore, CmpMore, SumMore, TermMore, PostMore, Named, Featured, CallArguments, Argument, ArgumentMore, Elements, Element, ElementMore, Rest, done, sign, name, phrase, opening, last, Line, Reads, reads_done, reads_sign, reads_name, reads_phrase, reads_opening}
use Rattle.wb_aql_grammar.specs.Grammar as g
use Rattle.wb_aql_grammar.specs.invariants.Runs.{next, pick, expr_next, neg_next, unary_next, atom_next, implies_next, or_next, xor_next, and_next, cmp_next, sum_next, term_next, post_next, featured_next, named_next, arguments_next, argument_more_next, elements_next, element_more_next, argument_next, class_or_literal, class_line, expression_line}
use Rattle.wb_aql_grammar.specs.Places.{head}
use Rattle.wb_aql_tokens.specs.declared.token.Token.{Token}
use Rattle.wb_aql_tokens.specs.declared.token.Token.TheVariants.{Sign, Name, Integer, Quoted}
use Rattle.wb_aql_tokens.specs.declared.token.Sign.TheVariants as s
use Rattle.wb_aql_grammar.specs.declared.expr.CallKind.{CallKind}
use Rattle.wb_aql_grammar.specs.declared.expr.CollectionKind.{CollectionKind}
use Rattle.wb_aql_grammar.proofs.Ranks.{rank, level, grade}

pub not_both : false ≡ true → ⊥
not_both e = cc

-- which tokens a front of the phrase that is not empty begins with
abbrev pub Fit : Phrase → Option Token → Type 0
Fit Implies h = grade h ≤ 3
Fit Or h = grade h ≤ 3
Fit Xor h = grade h ≤ 3
Fit And h = grade h ≤ 3
Fit Neg h = grade h ≤ 3
Fit Cmp h = grade h ≤ 2
Fit Sum h = grade h ≤ 2
Fit Term h = grade h ≤ 2
Fit Unary h = grade h ≤ 2
Fit Post h = grade h ≤ 1
Fit Atom h = grade h ≤ 1
Fit (ImpliesMore x) h = rank h ≡ 2
Fit (OrMore x) h = rank h ≡ 3
Fit (XorMore x) h = rank h ≡ 4
Fit (AndMore x) h = rank h ≡ 5
Fit (CmpMore x) h = rank h ≡ 6
Fit (SumMore x) h = rank h ≡ 7
Fit (TermMore x) h = rank h ≡ 8
Fit (PostMore x) h = rank h ≡ 9
Fit (Featured x v) h = 9 ≤ rank h
Fit (Named v) h = rank h ≡ 10
Fit (ArgumentMore d x v xs) h = rank h ≡ 1
Fit (ElementMore k xs) h = rank h ≡ 1
Fit _ h = grade h ≤ 4

-- may the phrase be empty?
abbrev pub nullable : Phrase → Bool
nullable Expr = false
nullable Implies = false
nullable Or = false
nullable Xor = false
nullable And = false
nullable Neg = false
nullable Cmp = false
nullable Sum = false
nullable Term = false
nullable Unary = false
nullable Post = false
nullable Atom = false
nullable (Argument d x v xs) = false
nullable (Element k xs) = false
nullable _ = true

-- what a reading of the rest of a line begins with
abbrev pub Front : Rest → List Token → List Token → Type 0
Front (done x) text rest = rest ≡ text
Front (sign a r) text rest = head text ≡ Some a
Front (name r) text rest = (v : List ℕ) × (head text ≡ Some (Name v))
Front (phrase p r) text rest = Fit p (head text) ⊎ ((nullable p ≡ true) × ((y : Tree) × Front (r y) text rest))
Front (opening bound a i r) text rest = head text ≡ Some a

abbrev pub Heads : Phrase → List Token → List Token → Type 0
Heads p text rest = Fit p (head text) ⊎ ((nullable p ≡ true) × (rest ≡ text))

pub heads : {p : Phrase} {line : Rest} → Line p line → (text rest : List Token) → Front line text rest → Heads p text rest
heads g.let_in text rest e = inl (subst (λ h. grade h ≤ 4) (sym e) (lit≤ tt))
heads g.expr text rest (inl h) = inl (omega arith)
heads g.expr text rest (inr u) = absurd (not_both u.0)
heads g.implies text rest (inl h) = inl h
heads g.implies text rest (inr u) = absurd (not_both u.0)
heads g.implies_more text rest e = inl (subst (λ h. rank h ≡ 2) (sym e) refl)
heads g.implies_end text rest e = inr (refl, e)
heads g.or text rest (inl h) = inl h
heads g.or text rest (inr u) = absurd (not_both u.0)
heads g.or_more text rest e = inl (subst (λ h. rank h ≡ 3) (sym e) refl)
heads g.or_end text rest e = inr (refl, e)
heads g.xor text rest (inl h) = inl h
heads g.xor text rest (inr u) = absurd (not_both u.0)
heads g.xor_more text rest e = inl (subst (λ h. rank h ≡ 4) (sym e) refl)
heads g.xor_end text rest e = inr (refl, e)
heads g.and text rest (inl h) = inl h
heads g.and text rest (inr u) = absurd (not_both u.0)
heads g.and_more text rest e = inl (subst (λ h. rank h ≡ 5) (sym e) refl)
heads g.and_end text rest e = inr (refl, e)
heads g.not text rest e = inl (subst (λ h. grade h ≤ 3) (sym e) (lit≤ tt))
heads g.neg text rest (inl h) = inl (omega arith)
heads g.neg text rest (inr u) = absurd (not_both u.0)
heads g.cmp text rest (inl h) = inl h
heads g.cmp text rest (inr u) = absurd (not_both u.0)
heads g.equal text rest e = inl (subst (λ h. rank h ≡ 6) (sym e) refl)
heads g.not_equal text rest e = inl (subst (λ h. rank h ≡ 6) (sym e) refl)
heads g.less text rest e = inl (subst (λ h. rank h ≡ 6) (sym e) refl)
heads g.less_equal text rest e = inl (subst (λ h. rank h ≡ 6) (sym e) refl)
heads g.greater text rest e = inl (subst (λ h. rank h ≡ 6) (sym e) refl)
heads g.greater_equal text rest e = inl (subst (λ h. rank h ≡ 6) (sym e) refl)
heads g.cmp_end text rest e = inr (refl, e)
heads g.sum text rest (inl h) = inl h
heads g.sum text rest (inr u) = absurd (not_both u.0)
heads g.plus text rest e = inl (subst (λ h. rank h ≡ 7) (sym e) refl)
heads g.minus text rest e = inl (subst (λ h. rank h ≡ 7) (sym e) refl)
heads g.sum_end text rest e = inr (refl, e)
heads g.term text rest (inl h) = inl h
heads g.term text rest (inr u) = absurd (not_both u.0)
heads g.times text rest e = inl (subst (λ h. rank h ≡ 8) (sym e) refl)
heads g.div text rest e = inl (subst (λ h. rank h ≡ 8) (sym e) refl)
heads g.term_end text rest e = inr (refl, e)
heads g.negate text rest e = inl (subst (λ h. grade h ≤ 2) (sym e) (lit≤ tt))
heads g.unary text rest (inl h) = inl (omega arith)
heads g.unary text rest (inr u) = absurd (not_both u.0)
heads g.post text rest (inl h) = inl h
heads g.post text rest (inr u) = absurd (not_both u.0)
heads g.dot text rest e = inl (subst (λ h. rank h ≡ 9) (sym e) refl)
heads g.arrow text rest e = inl (subst (λ h. rank h ≡ 9) (sym e) refl)
heads g.post_end text rest e = inr (refl, e)
heads g.dot_call text rest e = inl (subst (λ h. 9 ≤ rank h) (sym e) (lit≤ tt))
heads g.feature text rest (inl h) = inl (omega (arith, h))
heads g.feature text rest (inr u) = inr (refl, u.1.1)
heads g.no_argument text rest e = inr (refl, e)
heads g.first_argument text rest (inl h) = inl h
heads g.first_argument text rest (inr u) = absurd (not_both u.0)
heads g.next_argument text rest e = inl (subst (λ h. rank h ≡ 1) (sym e) refl)
heads g.arguments_end text rest e = inr (refl, e)
heads g.lambda text rest u = inl (subst (λ h. grade h ≤ 4) (sym u.1) (lit≤ tt))
heads g.class text rest u = inl (subst (λ h. grade h ≤ 4) (sym u.1) (lit≤ tt))
heads g.expression text rest (inl h) = inl h
heads g.expression text rest (inr u) = absurd (not_both u.0)
heads g.integer text rest e = inl (subst (λ h. grade h ≤ 1) (sym e) (lit≤ tt))
heads g.text text rest e = inl (subst (λ h. grade h ≤ 1) (sym e) (lit≤ tt))
heads g.null text rest e = inl (subst (λ h. grade h ≤ 1) (sym e) (lit≤ tt))
heads g.true text rest e = inl (subst (λ h. grade h ≤ 1) (sym e) (lit≤ tt))
heads g.false text rest e = inl (subst (λ h. grade h ≤ 1) (sym e) (lit≤ tt))
heads g.named text rest u = inl (subst (λ h. grade h ≤ 1) (sym u.1) (lit≤ tt))
heads g.variable text rest e = inr (refl, e)
heads g.literal text rest e = inl (subst (λ h. rank h ≡ 10) (sym e) refl)
heads g.parentheses text rest e = inl (subst (λ h. grade h ≤ 1) (sym e) (lit≤ tt))
heads g.if text rest e = inl (subst (λ h. grade h ≤ 1) (sym e) (lit≤ tt))
heads g.sequence text rest e = inl (subst (λ h. grade h ≤ 1) (sym e) (lit≤ tt))
heads g.ordered_set text rest e = inl (subst (λ h. grade h ≤ 1) (sym e) (lit≤ tt))
heads g.no_element text rest e = inr (refl, e)
heads g.first_element text rest (inl h) = inl h
heads g.first_element text rest (inr u) = absurd (not_both u.0)
heads g.element text rest (inl h) = inl h
heads g.element text rest (inr u) = absurd (not_both u.0)
heads g.next_element text rest e = inl (subst (λ h. rank h ≡ 1) (sym e) refl)
heads g.elements_end text rest e = inr (refl, e)

pub front_of : {n l : ℕ} {r : Rest} {text rest : List Token} {x : Tree} → Reads n l r text rest x → Front r text rest
front_of reads_done = refl
front_of (reads_sign d) = refl
front_of (reads_name {v = v} d) = (v, refl)
front_of (reads_phrase {p = p} {r = r} {text = text} {more = more} {rest = rest} {y = y} line d e) = begun p r y (heads line text more (front_of d)) (front_of e)
  where
    begun : (p : Phrase) (r : Tree → Rest) (y : Tree) → Heads p text more → Front (r y) more rest → Front (phrase p r) text rest
    begun p r y (inl h) i = inl h
    begun p r y (inr u) i = inr (u.0, (y, subst (λ z. Front (r y) z rest) u.1 i))
front_of (reads_opening t d e) = refl

-- ---- the line that the next token picks

implies_default : (x : Tree) (h : Option Token) → (implies_next x h ≡ done x) ⊎ (2 ≤ rank h)
implies_default x (Some (Sign s.Implies)) = inr (lit≤ tt)
implies_default x _ = inl refl

or_default : (x : Tree) (h : Option Token) → (or_next x h ≡ done x) ⊎ (3 ≤ rank h)
or_default x (Some (Sign s.Or)) = inr (lit≤ tt)
or_default x _ = inl refl

xor_default : (x : Tree) (h : Option Token) → (xor_next x h ≡ done x) ⊎ (4 ≤ rank h)
xor_default x (Some (Sign s.Xor)) = inr (lit≤ tt)
xor_default x _ = inl refl

and_default : (x : Tree) (h : Option Token) → (and_next x h ≡ done x) ⊎ (5 ≤ rank h)
and_default x (Some (Sign s.And)) = inr (lit≤ tt)
and_default x _ = inl refl

cmp_default : (x : Tree) (h : Option Token) → (cmp_next x h ≡ done x) ⊎ (6 ≤ rank h)
cmp_default x (Some (Sign s.Equal)) = inr (lit≤ tt)
cmp_default x (Some (Sign s.NotEqual)) = inr (lit≤ tt)
cmp_default x (Some (Sign s.Less)) = inr (lit≤ tt)
cmp_default x (Some (Sign s.LessEqual)) = inr (lit≤ tt)
cmp_default x (Some (Sign s.Greater)) = inr (lit≤ tt)
cmp_default x (Some (Sign s.GreaterEqual)) = inr (lit≤ tt)
cmp_default x _ = inl refl

sum_default : (x : Tree) (h : Option Token) → (sum_next x h ≡ done x) ⊎ (7 ≤ rank h)
sum_default x (Some (Sign s.Plus)) = inr (lit≤ tt)
sum_default x (Some (Sign s.Minus)) = inr (lit≤ tt)
sum_default x _ = inl refl

term_default : (x : Tree) (h : Option Token) → (term_next x h ≡ done x) ⊎ (8 ≤ rank h)
term_default x (Some (Sign s.Times)) = inr (lit≤ tt)
term_default x (Some (Sign s.Div)) = inr (lit≤ tt)
term_default x _ = inl refl

post_default : (x : Tree) (h : Option Token) → (post_next x h ≡ done x) ⊎ (9 ≤ rank h)
post_default x (Some (Sign s.Dot)) = inr (lit≤ tt)
post_default x (Some (Sign s.Arrow)) = inr (lit≤ tt)
post_default x _ = inl refl

named_default : (v : List ℕ) (h : Option Token) → (named_next v h ≡ done (t.Variable v)) ⊎ (10 ≤ rank h)
named_default v (Some (Sign s.Colons)) = inr (lit≤ tt)
named_default v _ = inl refl

arguments_default : (d : CallKind) (x : Tree) (v : List ℕ) (h : Option Token) → (arguments_next d x v h ≡ done (t.Call d x v no_arguments)) ⊎ (1 ≤ rank h)
arguments_default d x v (Some (Sign s.Close)) = inl refl
arguments_default d x v (Some (Sign s.CloseBrace)) = inl refl
arguments_default d x v _ = inr (lit≤ tt)

argument_more_default : (d : CallKind) (x : Tree) (v : List ℕ) (xs : Arguments) (h : Option Token) → (argument_more_next d x v xs h ≡ done (t.Call d x v xs)) ⊎ (1 ≤ rank h)
argument_more_default d x v xs (Some (Sign s.Comma)) = inr (lit≤ tt)
argument_more_default d x v xs _ = inl refl

elements_default : (k : CollectionKind) (h : Option Token) → (elements_next k h ≡ done (t.Collection k no_trees)) ⊎ (1 ≤ rank h)
elements_default k (Some (Sign s.Close)) = inl refl
elements_default k (Some (Sign s.CloseBrace)) = inl refl
elements_default k _ = inr (lit≤ tt)

element_more_default : (k : CollectionKind) (xs : Trees) (h : Option Token) → (element_more_next k xs h ≡ done (t.Collection k xs)) ⊎ (1 ≤ rank h)
element_more_default k xs (Some (Sign s.Comma)) = inr (lit≤ tt)
element_more_default k xs _ = inl refl

featured_default : (x : Tree) (v : List ℕ) (h : Option Token) → (featured_next x v h ≡ last (PostMore (t.Feature x v))) ⊎ (rank h ≡ 10)
featured_default x v (Some (Sign s.Open)) = inr refl
featured_default x v _ = inl refl

expr_default : (h : Option Token) → grade h ≤ 3 → expr_next h ≡ last Implies
expr_default (Some (Sign s.Let)) i = absurd (omega arith)
expr_default _ i = refl

neg_default : (h : Option Token) → grade h ≤ 2 → neg_next h ≡ last Cmp
neg_default (Some (Sign s.Not)) i = absurd (omega arith)
neg_default _ i = refl

unary_default : (h : Option Token) → grade h ≤ 1 → unary_next h ≡ last Post
unary_default (Some (Sign s.Minus)) i = absurd (omega arith)
unary_default _ i = refl

arguments_some : (d : CallKind) (x : Tree) (v : List ℕ) (h : Option Token) → grade h ≤ 4 → arguments_next d x v h ≡ last (Argument d x v no_arguments)
arguments_some d x v (Some (Sign s.Close)) i = absurd (omega arith)
arguments_some d x v (Some (Sign s.CloseBrace)) i = absurd (omega arith)
arguments_some d x v _ i = refl

elements_some : (k : CollectionKind) (h : Option Token) → grade h ≤ 4 → elements_next k h ≡ last (Element k no_trees)
elements_some k (Some (Sign s.Close)) i = absurd (omega arith)
elements_some k (Some (Sign s.CloseBrace)) i = absurd (omega arith)
elements_some k _ i = refl

-- every phrase but an argument, which is picked by more than the next token
abbrev pub Plain : Phrase → Type 0
Plain (Argument d x v xs) = ⊥
Plain _ = Unit {0}

abbrev Choice : Phrase → Rest → List Token → List Token → Type 0
Choice p line text rest = (next p (head text) ≡ Some line) ⊎ (level p ≤ rank (head rest))

ended : (f : ℕ) (r line : Rest) (text rest : List Token) → (r ≡ line) ⊎ (f ≤ rank (head text)) → rest ≡ text → (Some r ≡ Some line) ⊎ (f ≤ rank (head rest))
ended f r line text rest (inl i) e = inl (ap Some i)
ended f r line text rest (inr j) e = inr (subst (λ z. f ≤ rank (head z)) (sym e) j)

pub choice : {p : Phrase} {line : Rest} → Plain p → Line p line → (text rest : List Token) → Front line text rest → Choice p line text rest
choice ok g.let_in text rest e = inl (ap (next Expr) e)
choice ok g.expr text rest (inl h) = inl (ap Some (expr_default (head text) h))
choice ok g.expr text rest (inr u) = absurd (not_both u.0)
choice ok g.implies text rest e = inl refl
choice ok (g.implies_more {x = x}) text rest e = inl (ap (next (ImpliesMore x)) e)
choice ok (g.implies_end {x = x}) text rest e = ended 2 _ _ text rest (implies_default x (head text)) e
choice ok g.or text rest e = inl refl
choice ok (g.or_more {x = x}) text rest e = inl (ap (next (OrMore x)) e)
choice ok (g.or_end {x = x}) text rest e = ended 3 _ _ text rest (or_default x (head text)) e
choice ok g.xor text rest e = inl refl
choice ok (g.xor_more {x = x}) text rest e = inl (ap (next (XorMore x)) e)
choice ok (g.xor_end {x = x}) text rest e = ended 4 _ _ text rest (xor_default x (head text)) e
choice ok g.and text rest e = inl refl
choice ok (g.and_more {x = x}) text rest e = inl (ap (next (AndMore x)) e)
choice ok (g.and_end {x = x}) text rest e = ended 5 _ _ text rest (and_default x (head text)) e
choice ok g.not text rest e = inl (ap (next Neg) e)
choice ok g.neg text rest (inl h) = inl (ap Some (neg_default (head text) h))
choice ok g.neg text rest (inr u) = absurd (not_both u.0)
choice ok g.cmp text rest e = inl refl
choice ok (g.equal {x = x}) text rest e = inl (ap (next (CmpMore x)) e)
choice ok (g.not_equal {x = x}) text rest e = inl (ap (next (CmpMore x)) e)
choice ok (g.less {x = x}) text rest e = inl (ap (next (CmpMore x)) e)
choice ok (g.less_equal {x = x}) text rest e = inl (ap (next (CmpMore x)) e)
choice ok (g.greater {x = x}) text rest e = inl (ap (next (CmpMore x)) e)
choice ok (g.greater_equal {x = x}) text rest e = inl (ap (next (CmpMore x)) e)
choice ok (g.cmp_end {x = x}) text rest e = ended 6 _ _ text rest (cmp_default x (head text)) e
choice ok g.sum text rest e = inl refl
choice ok (g.plus {x = x}) text rest e = inl (ap (next (SumMore x)) e)
choice ok (g.minus {x = x}) text rest e = inl (ap (next (SumMore x)) e)
choice ok (g.sum_end {x = x}) text rest e = ended 7 _ _ text rest (sum_default x (head text)) e
choice ok g.term text rest e = inl refl
choice ok (g.times {x = x}) text rest e = inl (ap (next (TermMore x)) e)
choice ok (g.div {x = x}) text rest e = inl (ap (next (TermMore x)) e)
choice ok (g.term_end {x = x}) text rest e = ended 8 _ _ text rest (term_default x (head text)) e
choice ok g.negate text rest e = inl (ap (next Unary) e)
choice ok g.unary text rest (inl h) = inl (ap Some (unary_default (head text) h))
choice ok g.unary text rest (inr u) = absurd (not_both u.0)
choice ok g.post text rest e = inl refl
choice ok (g.dot {x = x}) text rest e = inl (ap (next (PostMore x)) e)
choice ok (g.arrow {x = x}) text rest e = inl (ap (next (PostMore x)) e)
choice ok (g.post_end {x = x}) text rest e = ended 9 _ _ text rest (post_default x (head text)) e
choice ok (g.dot_call {x = x} {v = v}) text rest e = inl (ap (next (Featured x v)) e)
choice ok (g.feature {x = x} {v = v}) text rest (inl h) = elim (featured_default x v (head text)) [ inl i ↦ inl (ap Some i) | inr j ↦ absurd (omega (arith, h, j)) ]
choice ok (g.feature {x = x} {v = v}) text rest (inr u) = elim (featured_default x v (head text)) [ inl i ↦ inl (ap Some i) | inr j ↦ inr (subst (λ z. 9 ≤ rank (head z)) (sym u.1.1) (omega (arith, j))) ]
choice ok (g.no_argument {d = d} {x = x} {v = v}) text rest e = ended 1 _ _ text rest (arguments_default d x v (head text)) e
choice ok (g.first_argument {d = d} {x = x} {v = v}) text rest (inl h) = inl (ap Some (arguments_some d x v (head text) h))
choice ok g.first_argument text rest (inr u) = absurd (not_both u.0)
choice ok (g.next_argument {d = d} {x = x} {v = v} {xs = xs}) text rest e = inl (ap (next (ArgumentMore d x v xs)) e)
choice ok (g.arguments_end {d = d} {x = x} {v = v} {xs = xs}) text rest e = ended 1 _ _ text rest (argument_more_default d x v xs (head text)) e
choice ok g.integer text rest e = inl (ap (next Atom) e)
choice ok g.text text rest e = inl (ap (next Atom) e)
choice ok g.null text rest e = inl (ap (next Atom) e)
choice ok g.true text rest e = inl (ap (next Atom) e)
choice ok g.false text rest e = inl (ap (next Atom) e)
choice ok g.named text rest u = inl (ap (next Atom) u.1)
choice ok (g.variable {v = v}) text rest e = ended 10 _ _ text rest (named_default v (head text)) e
choice ok (g.literal {v = v}) text rest e = inl (ap (next (Named v)) e)
choice ok g.parentheses text rest e = inl (ap (next Atom) e)
choice ok g.if text rest e = inl (ap (next Atom) e)
choice ok g.sequence text rest e = inl (ap (next Atom) e)
choice ok g.ordered_set text rest e = inl (ap (next Atom) e)
choice ok (g.no_element {k = k}) text rest e = ended 1 _ _ text rest (elements_default k (head text)) e
choice ok (g.first_element {k = k}) text rest (inl h) = inl (ap Some (elements_some k (head text) h))
choice ok g.first_element text rest (inr u) = absurd (not_both u.0)
choice ok g.element text rest e = inl refl
choice ok (g.next_element {k = k} {xs = xs}) text rest e = inl (ap (next (ElementMore k xs)) e)
choice ok (g.elements_end {k = k} {xs = xs}) text rest e = ended 1 _ _ text rest (element_more_default k xs (head text)) e
choice ok g.lambda text rest e = absurd ok
choice ok g.class text rest e = absurd ok
choice ok g.expression text rest e = absurd ok

-- ---- the line that is picked is one of the phrase's

pub some_same : {A : Type 0} {a b : A} → Some a ≡ Some b → a ≡ b
some_same e = cc

pub none_some : {A : Type 0} {a : A} → None ≡ Some a → ⊥
none_some e = cc

implies_line : (x : Tree) (h : Option Token) → Line (ImpliesMore x) (implies_next x h)
implies_line x (Some (Sign s.Implies)) = g.implies_more
implies_line x _ = g.implies_end

or_line : (x : Tree) (h : Option Token) → Line (OrMore x) (or_next x h)
or_line x (Some (Sign s.Or)) = g.or_more
or_line x _ = g.or_end

xor_line : (x : Tree) (h : Option Token) → Line (XorMore x) (xor_next x h)
xor_line x (Some (Sign s.Xor)) = g.xor_more
xor_line x _ = g.xor_end

and_line : (x : Tree) (h : Option Token) → Line (AndMore x) (and_next x h)
and_line x (Some (Sign s.And)) = g.and_more
and_line x _ = g.and_end

cmp_line : (x : Tree) (h : Option Token) → Line (CmpMore x) (cmp_next x h)
cmp_line x (Some (Sign s.Equal)) = g.equal
cmp_line x (Some (Sign s.NotEqual)) = g.not_equal
cmp_line x (Some (Sign s.Less)) = g.less
cmp_line x (Some (Sign s.LessEqual)) = g.less_equal
cmp_line x (Some (Sign s.Greater)) = g.greater
cmp_line x (Some (Sign s.GreaterEqual)) = g.greater_equal
cmp_line x _ = g.cmp_end

sum_line : (x : Tree) (h : Option Token) → Line (SumMore x) (sum_next x h)
sum_line x (Some (Sign s.Plus)) = g.plus
sum_line x (Some (Sign s.Minus)) = g.minus
sum_line x _ = g.sum_end

term_line : (x : Tree) (h : Option Token) → Line (TermMore x) (term_next x h)
term_line x (Some (Sign s.Times)) = g.times
term_line x (Some (Sign s.Div)) = g.div
term_line x _ = g.term_end

post_line : (x : Tree) (h : Option Token) → Line (PostMore x) (post_next x h)
post_line x (Some (Sign s.Dot)) = g.dot
post_line x (Some (Sign s.Arrow)) = g.arrow
post_line x _ = g.post_end

featured_line : (x : Tree) (v : List ℕ) (h : Option Token) → Line (Featured x v) (featured_next x v h)
featured_line x v (Some (Sign s.Open)) = g.dot_call
featured_line x v _ = g.feature

named_line : (v : List ℕ) (h : Option Token) → Line (Named v) (named_next v h)
named_line v (Some (Sign s.Colons)) = g.literal
named_line v _ = g.variable

expr_line : (h : Option Token) → Line Expr (expr_next h)
expr_line (Some (Sign s.Let)) = g.let_in
expr_line _ = g.expr

neg_line : (h : Option Token) → Line Neg (neg_next h)
neg_line (Some (Sign s.Not)) = g.not
neg_line _ = g.neg

unary_line : (h : Option Token) → Line Unary (unary_next h)
unary_line (Some (Sign s.Minus)) = g.negate
unary_line _ = g.unary

arguments_line : (d : CallKind) (x : Tree) (v : List ℕ) (h : Option Token) → Line (CallArguments d x v) (arguments_next d x v h)
arguments_line d x v (Some (Sign s.Close)) = g.no_argument
arguments_line d x v (Some (Sign s.CloseBrace)) = g.no_argument
arguments_line d x v _ = g.first_argument

argument_more_line : (d : CallKind) (x : Tree) (v : List ℕ) (xs : Arguments) (h : Option Token) → Line (ArgumentMore d x v xs) (argument_more_next d x v xs h)
argument_more_line d x v xs (Some (Sign s.Comma)) = g.next_argument
argument_more_line d x v xs _ = g.arguments_end

elements_line : (k : CollectionKind) (h : Option Token) → Line (Elements k) (elements_next k h)
elements_line k (Some (Sign s.Close)) = g.no_element
elements_line k (Some (Sign s.CloseBrace)) = g.no_element
elements_line k _ = g.first_element

element_more_line : (k : CollectionKind) (xs : Trees) (h : Option Token) → Line (ElementMore k xs) (element_more_next k xs h)
element_more_line k xs (Some (Sign s.Comma)) = g.next_element
element_more_line k xs _ = g.elements_end

class_or_literal_line : (d : CallKind) (x : Tree) (v : List ℕ) (xs : Arguments) (h : Option Token) →
    Line (Argument d x v xs) (class_or_literal (class_line d x v xs) (expression_line d x v xs) h)
class_or_literal_line d x v xs (Some (Sign s.Colons)) = g.expression
class_or_literal_line d x v xs _ = g.class

pub argument_line : (d : CallKind) (x : Tree) (v : List ℕ) (xs : Arguments) (text : List Token) → Line (Argument d x v xs) (argument_next d x v xs text)
argument_line d x v xs (Name w ∷ Sign s.Bar ∷ text) = g.lambda
argument_line d x v xs (Name w ∷ Sign s.Colons ∷ Name n ∷ text) = class_or_literal_line d x v xs (head text)
argument_line d x v xs _ = g.expression

atom_line : (h : Option Token) (line : Rest) → atom_next h ≡ Some line → Line Atom line
atom_line (Some (Integer n)) line e = subst (Line Atom) (some_same e) g.integer
atom_line (Some (Quoted v)) line e = subst (Line Atom) (some_same e) g.text
atom_line (Some (Name v)) line e = subst (Line Atom) (some_same e) g.named
atom_line (Some (Sign s.Null)) line e = subst (Line Atom) (some_same e) g.null
atom_line (Some (Sign s.True)) line e = subst (Line Atom) (some_same e) g.true
atom_line (Some (Sign s.False)) line e = subst (Line Atom) (some_same e) g.false
atom_line (Some (Sign s.Open)) line e = subst (Line Atom) (some_same e) g.parentheses
atom_line (Some (Sign s.If)) line e = subst (Line Atom) (some_same e) g.if
atom_line (Some (Sign s.Sequence)) line e = subst (Line Atom) (some_same e) g.sequence
atom_line (Some (Sign s.OrderedSet)) line e = subst (Line Atom) (some_same e) g.ordered_set
atom_line _ line e = absurd (none_some e)

pub pick_line : (p : Phrase) (text : List Token) (line : Rest) → pick p text ≡ Some line → Line p line
pick_line Expr text line e = subst (Line Expr) (some_same e) (expr_line (head text))
pick_line Implies text line e = subst (Line Implies) (some_same e) g.implies
pick_line Or text line e = subst (Line Or) (some_same e) g.or
pick_line Xor text line e = subst (Line Xor) (some_same e) g.xor
pick_line And text line e = subst (Line And) (some_same e) g.and
pick_line Neg text line e = subst (Line Neg) (some_same e) (neg_line (head text))
pick_line Cmp text line e = subst (Line Cmp) (some_same e) g.cmp
pick_line Sum text line e = subst (Line Sum) (some_same e) g.sum
pick_line Term text line e = subst (Line Term) (some_same e) g.term
pick_line Unary text line e = subst (Line Unary) (some_same e) (unary_line (head text))
pick_line Post text line e = subst (Line Post) (some_same e) g.post
pick_line (ImpliesMore x) text line e = subst (Line (ImpliesMore x)) (some_same e) (implies_line x (head text))
pick_line (OrMore x) text line e = subst (Line (OrMore x)) (some_same e) (or_line x (head text))
pick_line (XorMore x) text line e = subst (Line (XorMore x)) (some_same e) (xor_line x (head text))
pick_line (AndMore x) text line e = subst (Line (AndMore x)) (some_same e) (and_line x (head text))
pick_line (CmpMore x) text line e = subst (Line (CmpMore x)) (some_same e) (cmp_line x (head text))
pick_line (SumMore x) text line e = subst (Line (SumMore x)) (some_same e) (sum_line x (head text))
pick_line (TermMore x) text line e = subst (Line (TermMore x)) (some_same e) (term_line x (head text))
pick_line (PostMore x) text line e = subst (Line (PostMore x)) (some_same e) (post_line x (head text))
pick_line (Named v) text line e = subst (Line (Named v)) (some_same e) (named_line v (head text))
pick_line (Featured x v) text line e = subst (Line (Featured x v)) (some_same e) (featured_line x v (head text))
pick_line (CallArguments d x v) text line e = subst (Line (CallArguments d x v)) (some_same e) (arguments_line d x v (head text))
pick_line (Argument d x v xs) text line e = subst (Line (Argument d x v xs)) (some_same e) (argument_line d x v xs text)
pick_line (ArgumentMore d x v xs) text line e = subst (Line (ArgumentMore d x v xs)) (some_same e) (argument_more_line d x v xs (head text))
pick_line (Elements k) text line e = subst (Line (Elements k)) (some_same e) (elements_line k (head text))
pick_line (Element k xs) text line e = subst (Line (Element k xs)) (some_same e) g.element
pick_line (ElementMore k xs) text line e = subst (Line (ElementMore k xs)) (some_same e) (element_more_line k xs (head text))
pick_line Atom text line e = atom_line (head text) line e
