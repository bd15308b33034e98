-- Each line of the grammar fits its phrase: what follows a part cannot be taken by that part.
use Rattle.std.proofs.Common.{◌≡◌, ℕ, suc, ◌≤◌, ◌<◌, List, [], ◌∷◌, ◌++◌, refl, sym, ◌∙◌, subst, append_assoc, inl, inr, arith, true, false, lit≤, lit<}
use Rattle.std.specs.Prelude.{Option, Some}
use Rattle.wb_aql_grammar.specs.Tree.{Tree, no_trees, no_arguments, with_tree, with_lambda, with_type, with_expression}
use Rattle.wb_aql_grammar.specs.Tree as t
use Rattle.wb_aql_grammar.specs.Grammar.{Phrase, Expr, Implies, Or, Xor, And, Neg, Cmp, Sum, Term, Unary, Post, Atom, ImpliesMore, OrMore, XorMore, AndMore, CmpMore, SumMore, TermMore, PostMore, Named, Featured, CallArguments, Argument, ArgumentMore, Elements, Element, ElementMore, openings, Rest, done, sign, name, phrase, opening, last, inside, Line, Reads, reads_done, reads_sign, reads_name, reads_phrase, reads_opening}
use Rattle.wb_aql_grammar.specs.Grammar as g
use Rattle.wb_aql_grammar.specs.Places.{head}
use Rattle.wb_aql_grammar.specs.Places.{opens}
use Rattle.wb_aql_tokens.specs.declared.token.Token.{Token}
use Rattle.wb_aql_tokens.specs.declared.token.Token.TheVariants.{Sign, Name, Integer, Quoted}
use Rattle.wb_aql_tokens.specs.declared.token.Sign.TheVariants as s
use Rattle.wb_aql_grammar.specs.declared.expr.Binary.TheVariants as b
use Rattle.wb_aql_grammar.specs.declared.expr.Constant.TheVariants as c
use Rattle.wb_aql_grammar.specs.declared.expr.CallKind.TheVariants as d
use Rattle.wb_aql_grammar.specs.declared.expr.CollectionKind.TheVariants as k
use Rattle.wb_aql_grammar.proofs.Ranks.{rank, level}
use Rattle.wb_aql_grammar.proofs.Local.{Fit, nullable, Front, not_both}
use Rattle.wb_aql_grammar.proofs.Languages.{Language, Viable, room}

-- what a reading of the rest of a line takes
abbrev pub Lang : Rest → Language
Lang r n l text rest x = Reads n l r text rest x

-- it can be read within whatever bounds
abbrev pub Cheap : Rest → Type 0
Cheap r = (n l : ℕ) → Viable (Lang r) n l []

pub cheap_done : (x : Tree) → Cheap (done x)
cheap_done x n l = record { more = []; tree = x; reads = λ tail. reads_done }

pub cheap_sign : (a : Token) {r : Rest} → Cheap r → Cheap (sign a r)
cheap_sign a c n l = let v = c n l in record { more = a ∷ v.more; tree = v.tree; reads = λ tail. reads_sign (v.reads tail) }

pub cheap_name : {r : List ℕ → Rest} → ((v : List ℕ) → Cheap (r v)) → Cheap (name r)
cheap_name c n l = let v = c (120 ∷ []) n l in record { more = Name (120 ∷ []) ∷ v.more; tree = v.tree; reads = λ tail. reads_name (v.reads tail) }

pub cheap_phrase : {p : Phrase} {line : Rest} {r : Tree → Rest} → Line p line → Cheap line → ((y : Tree) → Cheap (r y)) → Cheap (phrase p r)
cheap_phrase {p = p} {line = line} {r = r} is c d n l =
    let v = c n l in let w = d v.tree n l in
    record {
      more = v.more ++ w.more;
      tree = w.tree;
      reads = λ tail. subst (λ z. Reads n l (phrase p r) z tail w.tree) (sym (append_assoc v.more w.more tail)) (reads_phrase is (v.reads (w.more ++ tail)) (w.reads tail));
    }

-- ---- the shortest text of each phrase

abbrev Short : Phrase → Type 0
Short p = (line : Rest) × Line p line × Cheap line

cheap_more : (p : Phrase) {r : Tree → Rest} → Short p → ((y : Tree) → Cheap (r y)) → Cheap (phrase p r)
cheap_more p u d = cheap_phrase u.1 u.2 d

short_end : {p : Phrase} (x : Tree) → Line p (done x) → Short p
short_end x line = (done x, line, cheap_done x)

short_atom : Short Atom
short_atom = (_, g.null, cheap_sign (Sign s.Null) (cheap_done (t.Const c.Null)))

short_post : Short Post
short_post = (_, g.post, cheap_more Atom short_atom (λ y. cheap_more (PostMore y) (short_end y g.post_end) cheap_done))

short_unary : Short Unary
short_unary = (_, g.unary, cheap_more Post short_post cheap_done)

short_term : Short Term
short_term = (_, g.term, cheap_more Unary short_unary (λ y. cheap_more (TermMore y) (short_end y g.term_end) cheap_done))

short_sum : Short Sum
short_sum = (_, g.sum, cheap_more Term short_term (λ y. cheap_more (SumMore y) (short_end y g.sum_end) cheap_done))

short_cmp : Short Cmp
short_cmp = (_, g.cmp, cheap_more Sum short_sum (λ y. cheap_more (CmpMore y) (short_end y g.cmp_end) cheap_done))

short_neg : Short Neg
short_neg = (_, g.neg, cheap_more Cmp short_cmp cheap_done)

short_and : Short And
short_and = (_, g.and, cheap_more Neg short_neg (λ y. cheap_more (AndMore y) (short_end y g.and_end) cheap_done))

short_xor : Short Xor
short_xor = (_, g.xor, cheap_more And short_and (λ y. cheap_more (XorMore y) (short_end y g.xor_end) cheap_done))

short_or : Short Or
short_or = (_, g.or, cheap_more Xor short_xor (λ y. cheap_more (OrMore y) (short_end y g.or_end) cheap_done))

short_implies : Short Implies
short_implies = (_, g.implies, cheap_more Or short_or (λ y. cheap_more (ImpliesMore y) (short_end y g.implies_end) cheap_done))

short_expr : Short Expr
short_expr = (_, g.expr, cheap_more Implies short_implies cheap_done)

pub short : (p : Phrase) → Short p
short Expr = short_expr
short Implies = short_implies
short Or = short_or
short Xor = short_xor
short And = short_and
short Neg = short_neg
short Cmp = short_cmp
short Sum = short_sum
short Term = short_term
short Unary = short_unary
short Post = short_post
short Atom = short_atom
short (ImpliesMore x) = short_end x g.implies_end
short (OrMore x) = short_end x g.or_end
short (XorMore x) = short_end x g.xor_end
short (AndMore x) = short_end x g.and_end
short (CmpMore x) = short_end x g.cmp_end
short (SumMore x) = short_end x g.sum_end
short (TermMore x) = short_end x g.term_end
short (PostMore x) = short_end x g.post_end
short (Named v) = short_end _ g.variable
short (Featured x v) = (_, g.feature, cheap_more (PostMore (t.Feature x v)) (short_end _ g.post_end) cheap_done)
short (CallArguments d x v) = short_end _ g.no_argument
short (Argument d x v xs) = (_, g.expression, cheap_more Expr short_expr (λ y. cheap_more (ArgumentMore d x v (with_expression xs y)) (short_end _ g.arguments_end) cheap_done))
short (ArgumentMore d x v xs) = short_end _ g.arguments_end
short (Elements k) = short_end _ g.no_element
short (Element k xs) = (_, g.element, cheap_more Expr short_expr (λ y. cheap_more (ElementMore k (with_tree xs y)) (short_end _ g.elements_end) cheap_done))
short (ElementMore k xs) = short_end _ g.elements_end

pub cheap_any : (p : Phrase) {r : Tree → Rest} → ((y : Tree) → Cheap (r y)) → Cheap (phrase p r)
cheap_any p d = cheap_more p (short p) d

pub cheap_last : (p : Phrase) → Cheap (last p)
cheap_last p = cheap_any p cheap_done

-- ---- what may follow a part

-- behind a phrase that may stop early at rank e, the rest of a line that may stop early at rank f
abbrev pub Blocks : ℕ → ℕ → Rest → Type 0
Blocks f e (done x) = f ≤ e
Blocks f e (sign a r) = rank (Some a) < e
Blocks f e (name r) = 1 < e
Blocks f e (opening b a i r) = rank (Some a) < e
Blocks f e (phrase p r) = ((h : Option Token) → Fit p h → rank h < e) × ((nullable p ≡ true) → (y : Tree) → Blocks f e (r y))

pub blocked : (r : Rest) (f e : ℕ) (text rest : List Token) → Blocks f e r → Front r text rest → e ≤ rank (head text) → f ≤ rank (head rest)
blocked (done x) f e text rest b i h = subst (λ z. f ≤ rank (head z)) (sym i) (omega (arith, b, h))
blocked (sign a r) f e text rest b i h = absurd (omega (arith, b, subst (λ z. e ≤ rank z) i h))
blocked (name r) f e text rest b i h = absurd (omega (arith, b, subst (λ z. e ≤ rank z) i.1 h))
blocked (opening bound a j r) f e text rest b i h = absurd (omega (arith, b, subst (λ z. e ≤ rank z) i h))
blocked (phrase p r) f e text rest b (inl i) h = absurd (omega (arith, b.0 (head text) i, h))
blocked (phrase p r) f e text rest b (inr u) h = blocked (r u.1.0) f e text rest (b.1 u.0 u.1.0) u.1.1 h

abbrev pub Fits : ℕ → Rest → Type 0
Fits f (done x) = Unit {0}
Fits f (sign a r) = ((opens a ≡ true) → Cheap r) × Fits f r
Fits f (name r) = (v : List ℕ) → Fits f (r v)
Fits f (phrase p r) = (y : Tree) → Cheap (r y) × Blocks f (level p) (r y) × Fits f (r y)
Fits f (opening bound a i r) = (opens a ≡ true) × (e : ℕ) × Fits e i × Cheap i × ((y : Tree) → Cheap (r y) × Blocks f e (r y) × Fits f (r y))

shut : (a : Token) (r : Rest) → opens a ≡ false → (opens a ≡ true) → Cheap r
shut a r e i = absurd (not_both (sym e ∙ i))

fits_sign : (f : ℕ) (a : Token) (r : Rest) → opens a ≡ false → Fits f r → Fits f (sign a r)
fits_sign f a r e d = (shut a r e, d)

fits_last : (f : ℕ) (p : Phrase) → f ≤ level p → Fits f (last p)
fits_last f p i y = (cheap_done y, i, tt)

-- a phrase, and then a last one that begins with tokens of rank c alone
fits_chain : (f c : ℕ) (p : Phrase) (more : Tree → Phrase) → ((y : Tree) (h : Option Token) → Fit (more y) h → rank h ≡ c) →
    c < level p → f ≤ level p → ((y : Tree) → f ≤ level (more y)) → Fits f (phrase p (λ y. last (more y)))
fits_chain f c p more fit i j k y = (cheap_last (more y), (λ h u. omega (arith, fit y h u, i), λ n z. j), fits_last f (more y) (k y))

-- one phrase inside brackets, that end with a token of rank 0
fits_inside : (f : ℕ) (p : Phrase) (a : Token) → opens a ≡ false → rank (Some a) < level p → Fits f (inside p a)
fits_inside f p a e i y = (cheap_sign a (cheap_done y), i, (shut a (done y) e, tt))

cheap_inside : (p : Phrase) (a : Token) → Cheap (inside p a)
cheap_inside p a = cheap_any p (λ y. cheap_sign a (cheap_done y))

-- the brackets of a call, and what follows them
fits_call : (p : Phrase) (a : Token) → opens a ≡ true → 0 < level p → Fits 9 (opening openings a (inside p (Sign s.Close)) (λ y. last (PostMore y)))
fits_call p a e i = (
  e,
  10,
  fits_inside 10 p (Sign s.Close) refl i,
  cheap_inside p (Sign s.Close),
  λ y. (cheap_last (PostMore y), (λ h u. omega (arith, u), λ n z. lit≤ tt), fits_last 9 (PostMore y) (lit≤ tt)),
)

pub fits : {p : Phrase} {line : Rest} → Line p line → Fits (level p) line
fits g.let_in = (
  refl,
  2,
  λ v. fits_sign 2 (Sign s.Equal) _ refl (λ x. (
    cheap_sign (Sign s.In) (cheap_any Expr (λ y. cheap_done _)),
    lit< tt,
    fits_sign 2 (Sign s.In) _ refl (λ y. (cheap_done _, lit≤ tt, tt)),
  )),
  cheap_name (λ v. cheap_sign (Sign s.Equal) (cheap_any Expr (λ x. cheap_sign (Sign s.In) (cheap_any Expr (λ y. cheap_done _))))),
  λ y. (cheap_done y, lit≤ tt, tt),
)
fits g.expr = fits_last 2 Implies (lit≤ tt)
fits g.implies = fits_chain 2 2 Or ImpliesMore (λ y h u. u) (lit< tt) (lit≤ tt) (λ y. lit≤ tt)
fits (g.implies_more {x = x}) = fits_sign 2 (Sign s.Implies) _ refl (fits_chain 2 2 Or (λ y. ImpliesMore (t.Binary b.Implies x y)) (λ y h u. u) (lit< tt) (lit≤ tt) (λ y. lit≤ tt))
fits g.implies_end = tt
fits g.or = fits_chain 3 3 Xor OrMore (λ y h u. u) (lit< tt) (lit≤ tt) (λ y. lit≤ tt)
fits (g.or_more {x = x}) = fits_sign 3 (Sign s.Or) _ refl (fits_chain 3 3 Xor (λ y. OrMore (t.Binary b.Or x y)) (λ y h u. u) (lit< tt) (lit≤ tt) (λ y. lit≤ tt))
fits g.or_end = tt
fits g.xor = fits_chain 4 4 And XorMore (λ y h u. u) (lit< tt) (lit≤ tt) (λ y. lit≤ tt)
fits (g.xor_more {x = x}) = fits_sign 4 (Sign s.Xor) _ refl (fits_chain 4 4 And (λ y. XorMore (t.Binary b.Xor x y)) (λ y h u. u) (lit< tt) (lit≤ tt) (λ y. lit≤ tt))
fits g.xor_end = tt
fits g.and = fits_chain 5 5 Neg AndMore (λ y h u. u) (lit< tt) (lit≤ tt) (λ y. lit≤ tt)
fits (g.and_more {x = x}) = fits_sign 5 (Sign s.And) _ refl (fits_chain 5 5 Neg (λ y. AndMore (t.Binary b.And x y)) (λ y h u. u) (lit< tt) (lit≤ tt) (λ y. lit≤ tt))
fits g.and_end = tt
fits g.not = (refl, 6, λ y. (cheap_done _, lit≤ tt, tt), cheap_any Neg (λ y. cheap_done _), λ y. (cheap_done y, lit≤ tt, tt))
fits g.neg = fits_last 6 Cmp (lit≤ tt)
fits g.cmp = fits_chain 6 6 Sum CmpMore (λ y h u. u) (lit< tt) (lit≤ tt) (λ y. lit≤ tt)
fits g.equal = fits_sign 6 (Sign s.Equal) _ refl (λ y. (cheap_done _, lit≤ tt, tt))
fits g.not_equal = fits_sign 6 (Sign s.NotEqual) _ refl (λ y. (cheap_done _, lit≤ tt, tt))
fits g.less = fits_sign 6 (Sign s.Less) _ refl (λ y. (cheap_done _, lit≤ tt, tt))
fits g.less_equal = fits_sign 6 (Sign s.LessEqual) _ refl (λ y. (cheap_done _, lit≤ tt, tt))
fits g.greater = fits_sign 6 (Sign s.Greater) _ refl (λ y. (cheap_done _, lit≤ tt, tt))
fits g.greater_equal = fits_sign 6 (Sign s.GreaterEqual) _ refl (λ y. (cheap_done _, lit≤ tt, tt))
fits g.cmp_end = tt
fits g.sum = fits_chain 7 7 Term SumMore (λ y h u. u) (lit< tt) (lit≤ tt) (λ y. lit≤ tt)
fits (g.plus {x = x}) = fits_sign 7 (Sign s.Plus) _ refl (fits_chain 7 7 Term (λ y. SumMore (t.Binary b.Add x y)) (λ y h u. u) (lit< tt) (lit≤ tt) (λ y. lit≤ tt))
fits (g.minus {x = x}) = (
  λ e. cheap_any Term (λ y. cheap_last (SumMore (t.Binary b.Subtract x y))),
  fits_chain 7 7 Term (λ y. SumMore (t.Binary b.Subtract x y)) (λ y h u. u) (lit< tt) (lit≤ tt) (λ y. lit≤ tt),
)
fits g.sum_end = tt
fits g.term = fits_chain 8 8 Unary TermMore (λ y h u. u) (lit< tt) (lit≤ tt) (λ y. lit≤ tt)
fits (g.times {x = x}) = fits_sign 8 (Sign s.Times) _ refl (fits_chain 8 8 Unary (λ y. TermMore (t.Binary b.Multiply x y)) (λ y h u. u) (lit< tt) (lit≤ tt) (λ y. lit≤ tt))
fits (g.div {x = x}) = fits_sign 8 (Sign s.Div) _ refl (fits_chain 8 8 Unary (λ y. TermMore (t.Binary b.Divide x y)) (λ y h u. u) (lit< tt) (lit≤ tt) (λ y. lit≤ tt))
fits g.term_end = tt
fits g.negate = (refl, 9, λ y. (cheap_done _, lit≤ tt, tt), cheap_any Unary (λ y. cheap_done _), λ y. (cheap_done y, lit≤ tt, tt))
fits g.unary = fits_last 9 Post (lit≤ tt)
fits g.post = fits_chain 9 9 Atom PostMore (λ y h u. u) (lit< tt) (lit≤ tt) (λ y. lit≤ tt)
fits (g.dot {x = x}) = fits_sign 9 (Sign s.Dot) _ refl (λ v. fits_last 9 (Featured x v) (lit≤ tt))
fits (g.arrow {x = x}) = fits_sign 9 (Sign s.Arrow) _ refl (λ v. fits_call (CallArguments d.Arrow x v) (Sign s.Open) refl (lit< tt))
fits g.post_end = tt
fits (g.dot_call {x = x} {v = v}) = fits_call (CallArguments d.Dot x v) (Sign s.Open) refl (lit< tt)
fits (g.feature {x = x} {v = v}) = fits_last 9 (PostMore (t.Feature x v)) (lit≤ tt)
fits g.no_argument = tt
fits (g.first_argument {d = d} {x = x} {v = v}) = fits_last 1 (Argument d x v no_arguments) (lit≤ tt)
fits (g.next_argument {d = d} {x = x} {v = v} {xs = xs}) = fits_sign 1 (Sign s.Comma) _ refl (fits_last 1 (Argument d x v xs) (lit≤ tt))
fits g.arguments_end = tt
fits (g.lambda {d = d} {x = x} {v = v} {xs = xs}) = λ w. (
  refl,
  2,
  fits_last 2 Expr (lit≤ tt),
  cheap_last Expr,
  λ y. (cheap_last (ArgumentMore d x v (with_lambda xs w y)), (λ h u. omega (arith, u), λ n z. lit≤ tt), fits_last 1 (ArgumentMore d x v (with_lambda xs w y)) (lit≤ tt)),
)
fits (g.class {d = d} {x = x} {v = v} {xs = xs}) = λ w. fits_sign 1 (Sign s.Colons) _ refl (λ n. fits_last 1 (ArgumentMore d x v (with_type xs w n)) (lit≤ tt))
fits (g.expression {d = d} {x = x} {v = v} {xs = xs}) = fits_chain 1 1 Expr (λ y. ArgumentMore d x v (with_expression xs y)) (λ y h u. u) (lit< tt) (lit≤ tt) (λ y. lit≤ tt)
fits (g.integer {n = n}) = fits_sign 10 (Integer n) _ refl tt
fits (g.text {v = v}) = fits_sign 10 (Quoted v) _ refl tt
fits g.null = fits_sign 10 (Sign s.Null) _ refl tt
fits g.true = fits_sign 10 (Sign s.True) _ refl tt
fits g.false = fits_sign 10 (Sign s.False) _ refl tt
fits g.named = λ v. fits_last 10 (Named v) (lit≤ tt)
fits g.variable = tt
fits g.literal = fits_sign 10 (Sign s.Colons) _ refl (λ w. fits_sign 10 (Sign s.Colons) _ refl (λ n. tt))
fits g.parentheses = (refl, 10, fits_inside 10 Expr (Sign s.Close) refl (lit< tt), cheap_inside Expr (Sign s.Close), λ y. (cheap_done y, lit≤ tt, tt))
fits g.if = (
  refl,
  10,
  λ x. (
    cheap_sign (Sign s.Then) (cheap_any Expr (λ y. cheap_sign (Sign s.Else) (cheap_any Expr (λ z. cheap_sign (Sign s.Endif) (cheap_done _))))),
    lit< tt,
    fits_sign 10 (Sign s.Then) _ refl (λ y. (
      cheap_sign (Sign s.Else) (cheap_any Expr (λ z. cheap_sign (Sign s.Endif) (cheap_done _))),
      lit< tt,
      fits_sign 10 (Sign s.Else) _ refl (λ z. (cheap_sign (Sign s.Endif) (cheap_done _), lit< tt, fits_sign 10 (Sign s.Endif) _ refl tt)),
    )),
  ),
  cheap_any Expr (λ x. cheap_sign (Sign s.Then) (cheap_any Expr (λ y. cheap_sign (Sign s.Else) (cheap_any Expr (λ z. cheap_sign (Sign s.Endif) (cheap_done _)))))),
  λ y. (cheap_done y, lit≤ tt, tt),
)
fits g.sequence = fits_sign 10 (Sign s.Sequence) _ refl (
  refl,
  10,
  fits_inside 10 (Elements k.Sequence) (Sign s.CloseBrace) refl (lit< tt),
  cheap_inside (Elements k.Sequence) (Sign s.CloseBrace),
  λ y. (cheap_done y, lit≤ tt, tt),
)
fits g.ordered_set = fits_sign 10 (Sign s.OrderedSet) _ refl (
  refl,
  10,
  fits_inside 10 (Elements k.OrderedSet) (Sign s.CloseBrace) refl (lit< tt),
  cheap_inside (Elements k.OrderedSet) (Sign s.CloseBrace),
  λ y. (cheap_done y, lit≤ tt, tt),
)
fits g.no_element = tt
fits (g.first_element {k = k}) = fits_last 1 (Element k no_trees) (lit≤ tt)
fits (g.element {k = k} {xs = xs}) = fits_chain 1 1 Expr (λ y. ElementMore k (with_tree xs y)) (λ y h u. u) (lit< tt) (lit≤ tt) (λ y. lit≤ tt)
fits (g.next_element {k = k} {xs = xs}) = fits_sign 1 (Sign s.Comma) _ refl (fits_last 1 (Element k xs) (lit≤ tt))
fits g.elements_end = tt

-- with one more opening and one more lambda every line can be read
pub alive : (r : Rest) (f : ℕ) → Fits f r → (n l : ℕ) → Viable (Lang r) (suc n) (suc l) []
alive (done x) f d n l = cheap_done x (suc n) (suc l)
alive (sign a r) f d n l = let v = alive r f d.1 n l in record { more = a ∷ v.more; tree = v.tree; reads = λ tail. reads_sign (v.reads tail) }
alive (name r) f d n l = let v = alive (r (120 ∷ [])) f (d (120 ∷ [])) n l in
    record { more = Name (120 ∷ []) ∷ v.more; tree = v.tree; reads = λ tail. reads_name (v.reads tail) }
alive (phrase p r) f d n l = cheap_any p (λ y. (d y).0) (suc n) (suc l)
alive (opening bound a i r) f d n l =
    let u = room bound n l in let v = d.3 u.0 u.1 in let w = (d.4 v.tree).0 (suc n) (suc l) in
    record {
      more = a ∷ (v.more ++ w.more);
      tree = w.tree;
      reads = λ tail. subst (λ z. Reads (suc n) (suc l) (opening bound a i r) (a ∷ z) tail w.tree) (sym (append_assoc v.more w.more tail))
          (reads_opening u.2 (v.reads (w.more ++ tail)) (w.reads tail));
    }
