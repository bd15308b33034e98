-- Reading from the left comes to an end on every text: the run of the parser is a function of the rest of a line and the text.
use Rattle.std.proofs.Common.{◌≡◌, ◌≢◌, ℕ, zero, suc, ◌+◌, ◌*◌, ◌≤◌, List, [], ◌∷◌, refl, sym, ap, subst, inl, inr, ◌⊎◌, true, false, arith, lit≤, length}
use Rattle.std.specs.Prelude.{Bool, Option, Some, None, bytes_eq}
use Rattle.std.specs.Bool.{Decides}
use Rattle.std.proofs.lemmas.Slice.Eq.{bytes_eq-Decides}
use Rattle.wb_aql_tokens.specs.Lexes.{word_of}
use Rattle.wb_aql_tokens.specs.declared.token.Token.{Token}
use Rattle.wb_aql_tokens.specs.declared.token.Token.TheVariants.{Sign, Name, Integer, Quoted, Bad}
use Rattle.wb_aql_tokens.proofs.Words.{same_sign}
use Rattle.wb_aql_grammar.specs.Tree.{Tree}
use Rattle.wb_aql_grammar.specs.Grammar.{Phrase, Expr, Implies, Or, Xor, And, Neg, Cmp, Sum, Term, Unary, Post, Atom, ImpliesMore, OrMore, XorMore, AndMore, CmpMore, SumMore, TermMore, PostMore, Named, Featured, CallArguments, Argument, ArgumentMore, Elements, Element, ElementMore, Bound, openings, lambdas, Rest, done, sign, name, phrase, opening, last, Line, takes_opening, takes_lambda}
use Rattle.wb_aql_grammar.specs.Grammar as g
use Rattle.wb_aql_grammar.specs.invariants.Runs.{Outcome, Good, Wrong, Deep, pick, Runs}
use Rattle.wb_aql_grammar.specs.Places.{head}
use Rattle.wb_aql_grammar.specs.invariants.Runs as run
use Rattle.wb_aql_grammar.proofs.Local.{pick_line}
use Rattle.wb_aql_grammar.proofs.Shorter.{runs_within}

-- ---- two tokens are the same, or not

same_bytes : (v w : List ℕ) → (v ≡ w) ⊎ (v ≢ w)
same_bytes v w = by (bytes_eq v w) (bytes_eq-Decides v w)
  where
    by : (b : Bool) → Decides b (v ≡ w) → (v ≡ w) ⊎ (v ≢ w)
    by true d = inl (d.0 refl)
    by false d = inr (λ e. let wrong : false ≡ true = d.1 e in cc)

same_number : (m n : ℕ) → (m ≡ n) ⊎ (m ≢ n)
same_number zero zero = inl refl
same_number zero (suc n) = inr (λ e. omega (arith, e))
same_number (suc m) zero = inr (λ e. omega (arith, e))
same_number (suc m) (suc n) = elim (same_number m n) [ inl e ↦ inl (ap suc e) | inr f ↦ inr (λ e. f (omega (arith, e))) ]

same_token : (a b : Token) → (a ≡ b) ⊎ (a ≢ b)
same_token (Sign a) (Sign b) = elim (same_bytes (word_of a) (word_of b)) [
  | inl e ↦ inl (ap Sign (same_sign a b e))
  | inr f ↦ inr (λ e. let same : a ≡ b = cc in f (ap word_of same))
]
same_token (Name v) (Name w) = elim (same_bytes v w) [ inl e ↦ inl (ap Name e) | inr f ↦ inr (λ e. f (cc)) ]
same_token (Integer m) (Integer n) = elim (same_number m n) [ inl e ↦ inl (ap Integer e) | inr f ↦ inr (λ e. f (cc)) ]
same_token (Quoted v) (Quoted w) = elim (same_bytes v w) [ inl e ↦ inl (ap Quoted e) | inr f ↦ inr (λ e. f (cc)) ]
same_token Bad Bad = inl refl
same_token _ _ = inr (λ e. cc)

-- the token comes next, with what follows it, or another does, or none
comes_next : (a : Token) (text : List Token) → ((rest : List Token) × (text ≡ a ∷ rest)) ⊎ (head text ≢ Some a)
comes_next a [] = inr (λ e. cc)
comes_next a (b ∷ rest) = elim (same_token b a) [ inl e ↦ inl (rest, ap (λ z. z ∷ rest) e) | inr f ↦ inr (λ e. f (cc)) ]

comes_name : (text : List Token) → ((v : List ℕ) × (rest : List Token) × (text ≡ Name v ∷ rest)) ⊎ ((v : List ℕ) → head text ≢ Some (Name v))
comes_name (Name v ∷ rest) = inl (v, rest, refl)
comes_name _ = inr (λ v e. cc)

-- ---- how many lines a phrase begins, one within the other, before a token is taken

abbrev height : Phrase → ℕ
height Expr = 11
height Implies = 10
height Or = 9
height Xor = 8
height And = 7
height Neg = 6
height Cmp = 5
height Sum = 4
height Term = 3
height Unary = 2
height Post = 1
height Atom = 0
height (ImpliesMore x) = 0
height (OrMore x) = 0
height (XorMore x) = 0
height (AndMore x) = 0
height (CmpMore x) = 0
height (SumMore x) = 0
height (TermMore x) = 0
height (PostMore x) = 0
height (Named v) = 0
height (Featured x v) = 1
height (CallArguments d x v) = 13
height (Argument d x v xs) = 12
height (ArgumentMore d x v xs) = 0
height (Elements k) = 13
height (Element k xs) = 12
height (ElementMore k xs) = 0

-- no part of the rest of a line begins more; behind a token there is room for any phrase
abbrev Low : ℕ → Rest → Type 0
Low h (done x) = Unit {0}
Low h (sign a r) = Low 14 r
Low h (name r) = (v : List ℕ) → Low 14 (r v)
Low h (phrase p r) = (suc (height p) ≤ h) × ((y : Tree) → Low h (r y))
Low h (opening b a i r) = Low 14 i × ((y : Tree) → Low 14 (r y))

low : {p : Phrase} {line : Rest} → Line p line → Low (height p) line
low g.let_in = (λ v. (lit≤ tt, λ x. (lit≤ tt, λ y. tt)), λ y. tt)
low g.expr = (lit≤ tt, λ y. tt)
low g.implies = (lit≤ tt, λ y. (lit≤ tt, λ z. tt))
low g.implies_more = (lit≤ tt, λ y. (lit≤ tt, λ z. tt))
low g.implies_end = tt
low g.or = (lit≤ tt, λ y. (lit≤ tt, λ z. tt))
low g.or_more = (lit≤ tt, λ y. (lit≤ tt, λ z. tt))
low g.or_end = tt
low g.xor = (lit≤ tt, λ y. (lit≤ tt, λ z. tt))
low g.xor_more = (lit≤ tt, λ y. (lit≤ tt, λ z. tt))
low g.xor_end = tt
low g.and = (lit≤ tt, λ y. (lit≤ tt, λ z. tt))
low g.and_more = (lit≤ tt, λ y. (lit≤ tt, λ z. tt))
low g.and_end = tt
low g.not = ((lit≤ tt, λ y. tt), λ y. tt)
low g.neg = (lit≤ tt, λ y. tt)
low g.cmp = (lit≤ tt, λ y. (lit≤ tt, λ z. tt))
low g.equal = (lit≤ tt, λ y. tt)
low g.not_equal = (lit≤ tt, λ y. tt)
low g.less = (lit≤ tt, λ y. tt)
low g.less_equal = (lit≤ tt, λ y. tt)
low g.greater = (lit≤ tt, λ y. tt)
low g.greater_equal = (lit≤ tt, λ y. tt)
low g.cmp_end = tt
low g.sum = (lit≤ tt, λ y. (lit≤ tt, λ z. tt))
low g.plus = (lit≤ tt, λ y. (lit≤ tt, λ z. tt))
low g.minus = (lit≤ tt, λ y. (lit≤ tt, λ z. tt))
low g.sum_end = tt
low g.term = (lit≤ tt, λ y. (lit≤ tt, λ z. tt))
low g.times = (lit≤ tt, λ y. (lit≤ tt, λ z. tt))
low g.div = (lit≤ tt, λ y. (lit≤ tt, λ z. tt))
low g.term_end = tt
low g.negate = ((lit≤ tt, λ y. tt), λ y. tt)
low g.unary = (lit≤ tt, λ y. tt)
low g.post = (lit≤ tt, λ y. (lit≤ tt, λ z. tt))
low g.dot = λ v. (lit≤ tt, λ y. tt)
low g.arrow = λ v. ((lit≤ tt, λ y. tt), λ y. (lit≤ tt, λ z. tt))
low g.post_end = tt
low g.dot_call = ((lit≤ tt, λ y. tt), λ y. (lit≤ tt, λ z. tt))
low g.feature = (lit≤ tt, λ y. tt)
low g.no_argument = tt
low g.first_argument = (lit≤ tt, λ y. tt)
low g.next_argument = (lit≤ tt, λ y. tt)
low g.arguments_end = tt
low g.lambda = λ v. ((lit≤ tt, λ y. tt), λ y. (lit≤ tt, λ z. tt))
low g.class = λ v w. (lit≤ tt, λ y. tt)
low g.expression = (lit≤ tt, λ y. (lit≤ tt, λ z. tt))
low g.integer = tt
low g.text = tt
low g.null = tt
low g.true = tt
low g.false = tt
low g.named = λ v. (lit≤ tt, λ y. tt)
low g.variable = tt
low g.literal = λ v w. tt
low g.parentheses = ((lit≤ tt, λ y. tt), λ y. tt)
low g.if = ((lit≤ tt, λ x. (lit≤ tt, λ y. (lit≤ tt, λ z. tt))), λ y. tt)
low g.sequence = ((lit≤ tt, λ y. tt), λ y. tt)
low g.ordered_set = ((lit≤ tt, λ y. tt), λ y. tt)
low g.no_element = tt
low g.first_element = (lit≤ tt, λ y. tt)
low g.element = (lit≤ tt, λ y. (lit≤ tt, λ z. tt))
low g.next_element = (lit≤ tt, λ y. tt)
low g.elements_end = tt

-- ---- the run

-- what comes of the rest of a line
abbrev Ends : ℕ → ℕ → Rest → List Token → Type 0
Ends n l r text = (o : Outcome) × Runs n l r text o

-- each run that takes fewer steps than these ends
abbrev Ended : ℕ → Type 0
Ended steps = (n l : ℕ) (r : Rest) (text : List Token) (h : ℕ) → Low h r → h ≤ 14 → suc (15 * length text + h) ≤ steps → Ends n l r text

run_then : {n l : ℕ} {p : Phrase} {line : Rest} {r : Tree → Rest} {text : List Token} → pick p text ≡ Some line →
    ((y : Tree) (more : List Token) → length more ≤ length text → Ends n l (r y) more) → Ends n l line text → Ends n l (phrase p r) text
run_then e next (Good y more, d) = let u = next y more (runs_within d) in (u.0, run.runs_phrase e d u.1)
run_then e next (Wrong more, d) = (Wrong more, run.runs_phrase_stop e d run.wrong_unread)
run_then e next (Deep more, d) = (Deep more, run.runs_phrase_stop e d run.deep_unread)

run_inside : {b : Bound} {n l m k : ℕ} {a : Token} {i : Rest} {r : Tree → Rest} {text : List Token} → g.Takes b n l m k →
    ((y : Tree) (more : List Token) → length more ≤ length text → Ends n l (r y) more) → Ends m k i text → Ends n l (opening b a i r) (a ∷ text)
run_inside t next (Good y more, d) = let u = next y more (runs_within d) in (u.0, run.runs_opening t d u.1)
run_inside t next (Wrong more, d) = (Wrong more, run.runs_opening_stop t d run.wrong_unread)
run_inside t next (Deep more, d) = (Deep more, run.runs_opening_stop t d run.deep_unread)

-- a phrase, by the line that is picked for it
run_picked : (steps n l : ℕ) (p : Phrase) (r : Tree → Rest) (text : List Token) → Ended steps → height p ≤ 14 → suc (15 * length text + height p) ≤ steps →
    ((y : Tree) (more : List Token) → length more ≤ length text → Ends n l (r y) more) → (found : Option Rest) → pick p text ≡ found → Ends n l (phrase p r) text
run_picked steps n l p r text before i j next None e = (Wrong text, run.runs_no_phrase e)
run_picked steps n l p r text before i j next (Some line) e = run_then e next (before n l line text (height p) (low (pick_line p text line e)) i j)

-- an opening, by what is left of its bound
run_opened : (b : Bound) (n l : ℕ) (a : Token) (i : Rest) (r : Tree → Rest) (rest : List Token) → ((m k : ℕ) → Ends m k i rest) →
    ((y : Tree) (more : List Token) → length more ≤ length rest → Ends n l (r y) more) → Ends n l (opening b a i r) (a ∷ rest)
run_opened openings zero l a i r rest within next = (Deep (a ∷ rest), run.runs_too_deep run.no_opening)
run_opened openings (suc n) l a i r rest within next = run_inside takes_opening next (within n l)
run_opened lambdas n zero a i r rest within next = (Deep (a ∷ rest), run.runs_too_deep run.no_lambda)
run_opened lambdas n (suc l) a i r rest within next = run_inside takes_lambda next (within n l)

step : (steps : ℕ) → Ended steps → (r : Rest) (n l : ℕ) (text : List Token) (h : ℕ) → Low h r → h ≤ 14 → 15 * length text + h ≤ steps → Ends n l r text
step steps before (done x) n l text h w i j = (Good x text, run.runs_done)
step steps before (sign a r) n l text h w i j = elim (comes_next a text) [
  | inl u ↦ let v = step steps before r n l u.0 14 w (lit≤ tt) (omega (arith, ap length u.1)) in
      (v.0, subst (λ z. Runs n l (sign a r) z v.0) (sym u.1) (run.runs_sign v.1))
  | inr f ↦ (Wrong text, run.runs_no_sign f)
]
step steps before (name r) n l text h w i j = elim (comes_name text) [
  | inl u ↦ let v = step steps before (r u.0) n l u.1 14 (w u.0) (lit≤ tt) (omega (arith, ap length u.2)) in
      (v.0, subst (λ z. Runs n l (name r) z v.0) (sym u.2) (run.runs_name v.1))
  | inr f ↦ (Wrong text, run.runs_no_name f)
]
step steps before (phrase p r) n l text h w i j = run_picked steps n l p r text before (omega (arith, w.0)) (omega (arith, w.0))
    (λ y more short. step steps before (r y) n l more h (w.1 y) i (omega arith)) (pick p text) refl
step steps before (opening b a i r) n l text h w low j = elim (comes_next a text) [
  | inl u ↦ subst (λ z. Ends n l (opening b a i r) z) (sym u.1) (run_opened b n l a i r u.0
      (λ m k. step steps before i m k u.0 14 w.0 (lit≤ tt) (omega (arith, ap length u.1)))
      (λ y more short. step steps before (r y) n l more 14 (w.1 y) (lit≤ tt) (omega (arith, ap length u.1))))
  | inr f ↦ (Wrong text, run.runs_no_opening f)
]

ended : (steps : ℕ) → Ended steps
ended zero n l r text h w i j = absurd (omega arith)
ended (suc steps) n l r text h w i j = step steps (ended steps) r n l text h w i (omega arith)

-- what comes of reading the tokens as an expression
pub run_of : (n l : ℕ) (tokens : List Token) → (o : Outcome) × Runs n l (last Expr) tokens o
run_of n l tokens = ended (suc (15 * length tokens + 14)) n l (last Expr) tokens 14 (lit≤ tt, λ y. tt) (lit≤ tt) (omega arith)
