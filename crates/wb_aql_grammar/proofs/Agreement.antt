-- An argument is picked by up to four tokens; what was read agrees with them.
use Rattle.std.proofs.Common.{◌≡◌, ℕ, ◌≤◌, ◌<◌, List, [], ◌∷◌, ◌++◌, refl, sym, ap, ◌∙◌, subst, inl, inr, arith, ◌⊎◌, lit≤, lit<}
use Rattle.std.specs.Prelude.{length, Option, Some, ◌≢◌}
use Rattle.wb_aql_grammar.specs.Tree.{Tree, Arguments, with_type, with_expression}
use Rattle.wb_aql_grammar.specs.Tree as t
use Rattle.wb_aql_grammar.specs.Grammar.{Phrase, Expr, Implies, Or, Xor, And, Neg, Cmp, Sum, Term, Unary, Post, Atom, ImpliesMore, OrMore, XorMore, AndMore, CmpMore, SumMore, TermMore, PostMore, Named, Argument, ArgumentMore, Rest, done, sign, name, phrase, last, Line, Reads, reads_sign, reads_name, reads_phrase}
use Rattle.wb_aql_grammar.specs.Grammar as g
use Rattle.wb_aql_grammar.specs.invariants.Runs.{Outcome, Good, Wrong, Deep, next, pick, argument_next, class_or_literal, class_line, lambda_line, expression_line}
use Rattle.wb_aql_grammar.specs.Places.{head}
use Rattle.wb_aql_tokens.specs.declared.token.Token.{Token}
use Rattle.wb_aql_tokens.specs.declared.token.Token.TheVariants.{Sign, Name, Integer, Quoted}
use Rattle.wb_aql_tokens.specs.declared.token.Sign.{Sign as SignName}
use Rattle.wb_aql_tokens.specs.declared.token.Sign.TheVariants as s
use Rattle.wb_aql_grammar.specs.declared.expr.CallKind.{CallKind}
use Rattle.wb_aql_grammar.proofs.Ranks.{rank}
use Rattle.wb_aql_grammar.proofs.Local.{Fit, Front, front_of, some_same, none_some}
use Rattle.wb_aql_grammar.proofs.Languages.{head_append}
use Rattle.wb_aql_grammar.proofs.Fits.{Blocks, blocked}
use Rattle.wb_aql_grammar.specs.invariants.Runs as run
use Rattle.wb_aql_grammar.specs.invariants.Runs.{Runs}

abbrev pub rest_of : Outcome → List Token
rest_of (Good y rest) = rest
rest_of (Wrong rest) = rest
rest_of (Deep rest) = rest

-- what is left is never longer than the text
pub shorter : {n l : ℕ} {r : Rest} {text : List Token} {o : Outcome} → Runs n l r text o → length (rest_of o) ≤ length text
shorter run.runs_done = omega arith
shorter (run.runs_sign d) = omega (arith, shorter d)
shorter (run.runs_no_sign ne) = omega arith
shorter (run.runs_name d) = omega (arith, shorter d)
shorter (run.runs_no_name ne) = omega arith
shorter (run.runs_phrase e d1 d2) = omega (arith, shorter d1, shorter d2)
shorter (run.runs_phrase_stop e d stop) = shorter d
shorter (run.runs_no_phrase e) = omega arith
shorter (run.runs_opening t d1 d2) = omega (arith, shorter d1, shorter d2)
shorter (run.runs_opening_stop t d stop) = omega (arith, shorter d)
shorter (run.runs_no_opening ne) = omega arith
shorter (run.runs_too_deep spent) = omega arith

run_sign : {n l : ℕ} {a : Token} {r : Rest} {text : List Token} {o : Outcome} → Runs n l (sign a r) text o →
    ((behind : List Token) × (text ≡ a ∷ behind) × Runs n l r behind o) ⊎ ((head text ≢ Some a) × (o ≡ Wrong text))
run_sign (run.runs_sign {text = text} d) = inl (text, refl, d)
run_sign (run.runs_no_sign ne) = inr (ne, refl)

run_name : {n l : ℕ} {r : List ℕ → Rest} {text : List Token} {o : Outcome} → Runs n l (name r) text o →
    ((v : List ℕ) × (behind : List Token) × (text ≡ Name v ∷ behind) × Runs n l (r v) behind o) ⊎ (((v : List ℕ) → head text ≢ Some (Name v)) × (o ≡ Wrong text))
run_name (run.runs_name {v = v} {text = text} d) = inl (v, text, refl, d)
run_name (run.runs_no_name ne) = inr (ne, refl)

length_same : {a b : List Token} → a ≡ b → length a ≡ length b
length_same e = ap length e

tails : {a b : Token} {s t : List Token} → a ∷ s ≡ b ∷ t → s ≡ t
tails e = cc

-- a sign that stands next is read
ate_sign : {n l : ℕ} {a : Token} {r : Rest} (text : List Token) {o : Outcome} → Runs n l (sign a r) (a ∷ text) o → Runs n l r text o
ate_sign {n = n} {l = l} {r = r} text {o = o} d = elim (run_sign d) [
  | inl u ↦ subst (λ z. Runs n l r z o) (sym (tails u.1)) u.2
  | inr u ↦ absurd (u.0 refl)
]

name_same : {v w : List ℕ} {s t : List Token} → Name v ∷ s ≡ Name w ∷ t → v ≡ w
name_same e = cc

ate_name : {n l : ℕ} (v : List ℕ) (r : List ℕ → Rest) (text : List Token) {o : Outcome} → Runs n l (name r) (Name v ∷ text) o → Runs n l (r v) text o
ate_name {n = n} {l = l} v r text {o = o} d = elim (run_name d) [
  | inl u ↦ subst (λ z. Runs n l (r z) text o) (sym (name_same u.2)) (subst (λ z. Runs n l (r u.0) z o) (sym (tails u.2)) u.3)
  | inr u ↦ absurd (u.0 v refl)
]

-- ---- how much of a text that begins with a name is read at least

abbrev Ate : List ℕ → List Token → ℕ → Phrase → Type 0
Ate w text most p = (n l : ℕ) (line : Rest) (o : Outcome) → pick p (Name w ∷ text) ≡ Some line → Runs n l line (Name w ∷ text) o → length (rest_of o) ≤ most

ate_phrase : (w : List ℕ) (text : List Token) (most : ℕ) (p : Phrase) (line : Rest) (r : Tree → Rest) → pick p (Name w ∷ text) ≡ Some line → Ate w text most p →
    (n l : ℕ) (o : Outcome) → Runs n l (phrase p r) (Name w ∷ text) o → length (rest_of o) ≤ most
ate_phrase w text most p line r is ate n l o (run.runs_phrase {line = other} {more = more} {y = y} e d1 d2) = omega (arith, ate n l other (Good y more) e d1, shorter d2)
ate_phrase w text most p line r is ate n l o (run.runs_phrase_stop {line = other} e d stop) = ate n l other o e d
ate_phrase w text most p line r is ate n l o (run.runs_no_phrase e) = absurd (none_some (sym e ∙ is))

-- down to the atom
ate_down : (w : List ℕ) (text : List Token) (most : ℕ) (p q : Phrase) (line : Rest) (r : Tree → Rest) → pick p (Name w ∷ text) ≡ Some (phrase q r) →
    pick q (Name w ∷ text) ≡ Some line → Ate w text most q → Ate w text most p
ate_down w text most p q line r is next_is ate n l other o e d =
    ate_phrase w text most q line r next_is ate n l o (subst (λ z. Runs n l z (Name w ∷ text) o) (some_same (sym e ∙ is)) d)

ate_expr : (w : List ℕ) (text : List Token) (most : ℕ) → Ate w text most Atom → Ate w text most Expr
ate_expr w text most a =
    ate_down w text most Expr Implies _ _ refl refl (ate_down w text most Implies Or _ _ refl refl (ate_down w text most Or Xor _ _ refl refl
    (ate_down w text most Xor And _ _ refl refl (ate_down w text most And Neg _ _ refl refl (ate_down w text most Neg Cmp _ _ refl refl
    (ate_down w text most Cmp Sum _ _ refl refl (ate_down w text most Sum Term _ _ refl refl (ate_down w text most Term Unary _ _ refl refl
    (ate_down w text most Unary Post _ _ refl refl (ate_down w text most Post Atom _ _ refl refl a))))))))))

ate_named : (w : List ℕ) (text : List Token) (most : ℕ) → ((n l : ℕ) (o : Outcome) → Runs n l (last (Named w)) text o → length (rest_of o) ≤ most) → Ate w text most Atom
ate_named w text most h n l line o e d = h n l o (ate_name w (λ v. last (Named v)) text (subst (λ z. Runs n l z (Name w ∷ text) o) (sym (some_same e)) d))

ate_expression : (d : CallKind) (x : Tree) (v : List ℕ) (xs : Arguments) (w : List ℕ) (text : List Token) (most : ℕ) →
    ((n l : ℕ) (o : Outcome) → Runs n l (last (Named w)) text o → length (rest_of o) ≤ most) →
    (n l : ℕ) (o : Outcome) → Runs n l (expression_line d x v xs) (Name w ∷ text) o → length (rest_of o) ≤ most
ate_expression d x v xs w text most h n l o r = ate_phrase w text most Expr _ _ refl (ate_expr w text most (ate_named w text most h)) n l o r

abbrev pub literal_rest : List ℕ → Rest
literal_rest v = sign (Sign s.Colons) (name (λ w. sign (Sign s.Colons) (name (λ n. done (t.Literal v w n)))))

-- behind a name and a `::` a literal is read
ate_literal : (w : List ℕ) (text : List Token) (most : ℕ) → ((n l : ℕ) (o : Outcome) → Runs n l (literal_rest w) (Sign s.Colons ∷ text) o → length (rest_of o) ≤ most) →
    (n l : ℕ) (o : Outcome) → Runs n l (last (Named w)) (Sign s.Colons ∷ text) o → length (rest_of o) ≤ most
ate_literal w text most h n l o (run.runs_phrase {line = line} {more = more} {y = y} e d1 d2) =
    omega (arith, h n l (Good y more) (subst (λ z. Runs n l z (Sign s.Colons ∷ text) (Good y more)) (sym (some_same e)) d1), shorter d2)
ate_literal w text most h n l o (run.runs_phrase_stop {line = line} e d stop) = h n l o (subst (λ z. Runs n l z (Sign s.Colons ∷ text) o) (sym (some_same e)) d)
ate_literal w text most h n l o (run.runs_no_phrase e) = absurd (none_some (sym e))

ate_two : (w : List ℕ) (text : List Token) (n l : ℕ) (o : Outcome) → Runs n l (literal_rest w) (Sign s.Colons ∷ text) o → length (rest_of o) ≤ length text
ate_two w text n l o d = shorter (ate_sign text d)

ate_three : (w v : List ℕ) (text : List Token) (n l : ℕ) (o : Outcome) → Runs n l (literal_rest w) (Sign s.Colons ∷ Name v ∷ text) o → length (rest_of o) ≤ length text
ate_three w v text n l o d = shorter (ate_name v _ text (ate_sign (Name v ∷ text) d))

-- ---- a reading of an expression that begins with a name and cannot go on behind it

abbrev Stays : List ℕ → List Token → Phrase → Type 0
Stays w text p = (line : Rest) → Line p line → (m k : ℕ) (behind : List Token) (x : Tree) → Reads m k line (Name w ∷ text) behind x → 10 ≤ rank (head behind)

stays_phrase : (w : List ℕ) (text : List Token) (p : Phrase) (r : Tree → Rest) → Stays w text p → ((y : Tree) → Blocks 10 10 (r y)) →
    (m k : ℕ) (behind : List Token) (x : Tree) → Reads m k (phrase p r) (Name w ∷ text) behind x → 10 ≤ rank (head behind)
stays_phrase w text p r stays b m k behind x (reads_phrase {line = line} {more = mid} {y = y} is d e) =
    blocked (r y) 10 10 mid behind (b y) (front_of e) (stays line is m k mid y d)

last_block : (y : Tree) → Blocks 10 10 (done y)
last_block y = lit≤ tt

more_block : (c : ℕ) (more : Tree → Phrase) → c < 10 → ((y : Tree) (h : Option Token) → Fit (more y) h → rank h ≡ c) → (y : Tree) → Blocks 10 10 (last (more y))
more_block c more i fit y = ((λ h u. omega (arith, fit y h u, i)), (λ n z. lit≤ tt))

wrong_head : {A : Type 0} {w : List ℕ} {a : Token} → Some (Name w) ≡ Some a → ((Name w ≡ a) → ⊥) → A
wrong_head e ne = absurd (ne (some_same e))

stays_named : (w : List ℕ) (text : List Token) → 10 ≤ rank (head text) →
    ((m k : ℕ) (behind : List Token) (x : Tree) → Reads m k (literal_rest w) text behind x → ⊥) →
    (m k : ℕ) (behind : List Token) (x : Tree) → Reads m k (last (Named w)) text behind x → 10 ≤ rank (head behind)
stays_named w text high none m k behind x (reads_phrase {more = mid} {y = y} is d e) = blocked (done y) 10 10 mid behind (lit≤ tt) (front_of e) (go is d)
  where
    go : {line : Rest} → Line (Named w) line → Reads m k line text mid y → 10 ≤ rank (head mid)
    go g.variable d = subst (λ z. 10 ≤ rank (head z)) (sym (front_of d)) high
    go g.literal d = absurd (none m k mid y d)

no_sign : {w : List ℕ} {a : SignName} → Some (Name w) ≡ Some (Sign a) → ⊥
no_sign e = cc

stays_atom : (w : List ℕ) (text : List Token) → 10 ≤ rank (head text) →
    ((m k : ℕ) (behind : List Token) (x : Tree) → Reads m k (literal_rest w) text behind x → ⊥) → Stays w text Atom
stays_atom w text high none _ g.named m k behind x (reads_name d) = stays_named w text high none m k behind x d
stays_atom w text high none _ g.integer m k behind x d = absurd (differ (front_of d)) where
  differ : {n : ℕ} → Some (Name w) ≡ Some (Integer n) → ⊥
  differ e = cc
stays_atom w text high none _ g.text m k behind x d = absurd (differ (front_of d)) where
  differ : {v : List ℕ} → Some (Name w) ≡ Some (Quoted v) → ⊥
  differ e = cc
stays_atom w text high none _ g.null m k behind x d = absurd (no_sign (front_of d))
stays_atom w text high none _ g.true m k behind x d = absurd (no_sign (front_of d))
stays_atom w text high none _ g.false m k behind x d = absurd (no_sign (front_of d))
stays_atom w text high none _ g.parentheses m k behind x d = absurd (no_sign (front_of d))
stays_atom w text high none _ g.if m k behind x d = absurd (no_sign (front_of d))
stays_atom w text high none _ g.sequence m k behind x d = absurd (no_sign (front_of d))
stays_atom w text high none _ g.ordered_set m k behind x d = absurd (no_sign (front_of d))

stays_post : (w : List ℕ) (text : List Token) → Stays w text Atom → Stays w text Post
stays_post w text h _ g.post m k behind x d = stays_phrase w text Atom _ h (more_block 9 PostMore (lit< tt) (λ y i u. u)) m k behind x d

stays_unary : (w : List ℕ) (text : List Token) → Stays w text Post → Stays w text Unary
stays_unary w text h _ g.unary m k behind x d = stays_phrase w text Post _ h last_block m k behind x d
stays_unary w text h _ g.negate m k behind x d = absurd (no_sign (front_of d))

stays_term : (w : List ℕ) (text : List Token) → Stays w text Unary → Stays w text Term
stays_term w text h _ g.term m k behind x d = stays_phrase w text Unary _ h (more_block 8 TermMore (lit< tt) (λ y i u. u)) m k behind x d

stays_sum : (w : List ℕ) (text : List Token) → Stays w text Term → Stays w text Sum
stays_sum w text h _ g.sum m k behind x d = stays_phrase w text Term _ h (more_block 7 SumMore (lit< tt) (λ y i u. u)) m k behind x d

stays_cmp : (w : List ℕ) (text : List Token) → Stays w text Sum → Stays w text Cmp
stays_cmp w text h _ g.cmp m k behind x d = stays_phrase w text Sum _ h (more_block 6 CmpMore (lit< tt) (λ y i u. u)) m k behind x d

stays_neg : (w : List ℕ) (text : List Token) → Stays w text Cmp → Stays w text Neg
stays_neg w text h _ g.neg m k behind x d = stays_phrase w text Cmp _ h last_block m k behind x d
stays_neg w text h _ g.not m k behind x d = absurd (no_sign (front_of d))

stays_and : (w : List ℕ) (text : List Token) → Stays w text Neg → Stays w text And
stays_and w text h _ g.and m k behind x d = stays_phrase w text Neg _ h (more_block 5 AndMore (lit< tt) (λ y i u. u)) m k behind x d

stays_xor : (w : List ℕ) (text : List Token) → Stays w text And → Stays w text Xor
stays_xor w text h _ g.xor m k behind x d = stays_phrase w text And _ h (more_block 4 XorMore (lit< tt) (λ y i u. u)) m k behind x d

stays_or : (w : List ℕ) (text : List Token) → Stays w text Xor → Stays w text Or
stays_or w text h _ g.or m k behind x d = stays_phrase w text Xor _ h (more_block 3 OrMore (lit< tt) (λ y i u. u)) m k behind x d

stays_implies : (w : List ℕ) (text : List Token) → Stays w text Or → Stays w text Implies
stays_implies w text h _ g.implies m k behind x d = stays_phrase w text Or _ h (more_block 2 ImpliesMore (lit< tt) (λ y i u. u)) m k behind x d

stays_expr : (w : List ℕ) (text : List Token) → Stays w text Implies → Stays w text Expr
stays_expr w text h _ g.expr m k behind x d = stays_phrase w text Implies _ h last_block m k behind x d
stays_expr w text h _ g.let_in m k behind x d = absurd (no_sign (front_of d))

pub stays_expression : (d : CallKind) (x : Tree) (v : List ℕ) (xs : Arguments) (w : List ℕ) (text : List Token) → 10 ≤ rank (head text) →
    ((m k : ℕ) (behind : List Token) (x : Tree) → Reads m k (literal_rest w) text behind x → ⊥) →
    (m k : ℕ) (behind : List Token) (y : Tree) → Reads m k (expression_line d x v xs) (Name w ∷ text) behind y → 10 ≤ rank (head behind)
stays_expression d x v xs w text high none m k behind y r =
    stays_phrase w text Expr _ (stays_expr w text (stays_implies w text (stays_or w text (stays_xor w text (stays_and w text (stays_neg w text (stays_cmp w text
    (stays_sum w text (stays_term w text (stays_unary w text (stays_post w text (stays_atom w text high none)))))))))))) (more_block 1 (λ z. ArgumentMore d x v (with_expression xs z)) (lit< tt) (λ z i u. u)) m k behind y r

-- ---- the argument

-- a front that leaves less than the text holds its first token
pub held : (a : Token) (text front rest : List Token) → a ∷ text ≡ front ++ rest → length rest ≤ length text → (more : List Token) × (front ≡ a ∷ more) × (text ≡ more ++ rest)
held a text [] rest e i = absurd (omega (arith, ap length e))
held a text (c ∷ front) rest e i = (front, cc, tails e)

agree_head : (front more rest text : List Token) → head more ≡ head rest → text ≡ front ++ rest → head (front ++ more) ≡ head text
agree_head front more rest text h e = head_append front more rest h ∙ sym (ap head e)

abbrev Same : CallKind → Tree → List ℕ → Arguments → Rest → List Token → List Token → Type 0
Same d x v xs line text rest = (front : List Token) → text ≡ front ++ rest → (m k : ℕ) (more behind : List Token) (y : Tree) (other : Rest) →
    head more ≡ head rest → Line (Argument d x v xs) other → Reads m k other (front ++ more) behind y → (other ≡ line) ⊎ (1 ≤ rank (head behind))

name_tail : {n l : ℕ} {v : List ℕ} {r : List ℕ → Rest} {text rest : List Token} {x : Tree} → Reads n l (name r) (Name v ∷ text) rest x → Reads n l (r v) text rest x
name_tail (reads_name d) = d

sign_tail : {n l : ℕ} {a : Token} {r : Rest} (text : List Token) {rest : List Token} {x : Tree} → Reads n l (sign a r) (a ∷ text) rest x → Reads n l r text rest x
sign_tail {n = n} {l = l} {r = r} text {rest = rest} {x = x} d = go d refl
  where
    go : {b : Token} {whole : List Token} → Reads n l (sign b r) whole rest x → {a : Token} → whole ≡ a ∷ text → Reads n l r text rest x
    go (reads_sign d) e = subst (λ z. Reads n l r z rest x) (tails e) d

bar_colons : Some (Sign s.Bar) ≡ Some (Sign s.Colons) → ⊥
bar_colons e = cc

module _ (d : CallKind) (x : Tree) (v : List ℕ) (xs : Arguments) where
  same_lambda : (w : List ℕ) (t rest : List Token) → length rest ≤ length (Sign s.Bar ∷ t) → Same d x v xs (lambda_line d x v xs) (Name w ∷ Sign s.Bar ∷ t) rest
  same_lambda w t rest i front split m k more behind y other h is r =
      let u = held (Name w) (Sign s.Bar ∷ t) front rest split i in
      go u.0 (agree_head u.0 more rest (Sign s.Bar ∷ t) h u.2) is (subst (λ z. Reads m k other (z ++ more) behind y) u.1 r)
    where
      go : {other : Rest} (f : List Token) → head (f ++ more) ≡ Some (Sign s.Bar) → Line (Argument d x v xs) other → Reads m k other (Name w ∷ (f ++ more)) behind y →
          (other ≡ lambda_line d x v xs) ⊎ (1 ≤ rank (head behind))
      go f e g.lambda r = inl refl
      go f e g.class r = absurd (bar_colons (sym e ∙ front_of (name_tail r)))
      go f e g.expression r = inr (omega (
        arith,
        stays_expression d x v xs w (f ++ more) (subst (λ z. 10 ≤ rank z) (sym e) (lit≤ tt))
            (λ m k b y r. bar_colons (sym e ∙ front_of r)) m k behind y r,
      ))

  same_class : (w n : List ℕ) (t rest : List Token) → length rest ≤ length t → head t ≢ Some (Sign s.Colons) →
      Same d x v xs (class_line d x v xs) (Name w ∷ Sign s.Colons ∷ Name n ∷ t) rest
  same_class w n t rest i ne front split m k more behind y other h is r =
      let u = held (Name w) (Sign s.Colons ∷ Name n ∷ t) front rest split (omega arith) in
      let u2 = held (Sign s.Colons) (Name n ∷ t) u.0 rest u.2 (omega arith) in
      let u3 = held (Name n) t u2.0 rest u2.2 i in
      go u3.0 (agree_head u3.0 more rest t h u3.2) is
      (subst (λ z. Reads m k other (Name w ∷ Sign s.Colons ∷ (z ++ more)) behind y) u3.1
      (subst (λ z. Reads m k other (Name w ∷ (z ++ more)) behind y) u2.1 (subst (λ z. Reads m k other (z ++ more) behind y) u.1 r)))
    where
      go : {other : Rest} (f : List Token) → head (f ++ more) ≡ head t → Line (Argument d x v xs) other → Reads m k other (Name w ∷ Sign s.Colons ∷ Name n ∷ (f ++ more)) behind y →
          (other ≡ class_line d x v xs) ⊎ (1 ≤ rank (head behind))
      go f e g.lambda r = absurd (bar_colons (sym (front_of (name_tail r))))
      go f e g.class r = inl refl
      go f e g.expression r = inr (omega (
        arith,
        stays_expression d x v xs w (Sign s.Colons ∷ Name n ∷ (f ++ more)) (lit≤ tt)
            (λ m k b y r. ne (sym e ∙ front_of (name_tail (sign_tail (Name n ∷ (f ++ more)) r)))) m k behind y r,
      ))

  same_other : (text rest : List Token) → ((v : List ℕ) → head text ≢ Some (Name v)) → Same d x v xs (expression_line d x v xs) text rest
  same_other text rest ne front split m k more behind y other h is r = go is r
    where
      go : {other : Rest} → Line (Argument d x v xs) other → Reads m k other (front ++ more) behind y → (other ≡ expression_line d x v xs) ⊎ (1 ≤ rank (head behind))
      go g.lambda r = let u = front_of r in absurd (ne u.0 (sym (agree_head front more rest text h split) ∙ u.1))
      go g.class r = let u = front_of r in absurd (ne u.0 (sym (agree_head front more rest text h split) ∙ u.1))
      go g.expression r = inl refl

  same_name : (w : List ℕ) (t rest : List Token) → length rest ≤ length t → head t ≢ Some (Sign s.Bar) → head t ≢ Some (Sign s.Colons) →
      Same d x v xs (expression_line d x v xs) (Name w ∷ t) rest
  same_name w t rest i nb nc front split m k more behind y other h is r =
      let u = held (Name w) t front rest split i in
      go u.0 (agree_head u.0 more rest t h u.2) is (subst (λ z. Reads m k other (z ++ more) behind y) u.1 r)
    where
      go : {other : Rest} (f : List Token) → head (f ++ more) ≡ head t → Line (Argument d x v xs) other → Reads m k other (Name w ∷ (f ++ more)) behind y →
          (other ≡ expression_line d x v xs) ⊎ (1 ≤ rank (head behind))
      go f e g.lambda r = absurd (nb (sym e ∙ front_of (name_tail r)))
      go f e g.class r = absurd (nc (sym e ∙ front_of (name_tail r)))
      go f e g.expression r = inl refl

  same_two : (w : List ℕ) (t rest : List Token) → length rest ≤ length t → ((v : List ℕ) → head t ≢ Some (Name v)) →
      Same d x v xs (expression_line d x v xs) (Name w ∷ Sign s.Colons ∷ t) rest
  same_two w t rest i ne front split m k more behind y other h is r =
      let u = held (Name w) (Sign s.Colons ∷ t) front rest split (omega arith) in
      let u2 = held (Sign s.Colons) t u.0 rest u.2 i in
      go u2.0 (agree_head u2.0 more rest t h u2.2) is
      (subst (λ z. Reads m k other (Name w ∷ (z ++ more)) behind y) u2.1 (subst (λ z. Reads m k other (z ++ more) behind y) u.1 r))
    where
      go : {other : Rest} (f : List Token) → head (f ++ more) ≡ head t → Line (Argument d x v xs) other → Reads m k other (Name w ∷ Sign s.Colons ∷ (f ++ more)) behind y →
          (other ≡ expression_line d x v xs) ⊎ (1 ≤ rank (head behind))
      go f e g.lambda r = absurd (bar_colons (sym (front_of (name_tail r))))
      go f e g.class r = let u = front_of (sign_tail (f ++ more) (name_tail r)) in absurd (ne u.0 (sym e ∙ u.1))
      go f e g.expression r = inl refl

  same_literal : (w n : List ℕ) (t rest : List Token) → length rest ≤ length t → head t ≡ Some (Sign s.Colons) →
      Same d x v xs (expression_line d x v xs) (Name w ∷ Sign s.Colons ∷ Name n ∷ t) rest
  same_literal w n t rest i c front split m k more behind y other h is r =
      let u = held (Name w) (Sign s.Colons ∷ Name n ∷ t) front rest split (omega arith) in
      let u2 = held (Sign s.Colons) (Name n ∷ t) u.0 rest u.2 (omega arith) in
      let u3 = held (Name n) t u2.0 rest u2.2 i in
      go u3.0 (agree_head u3.0 more rest t h u3.2) is
      (subst (λ z. Reads m k other (Name w ∷ Sign s.Colons ∷ (z ++ more)) behind y) u3.1
      (subst (λ z. Reads m k other (Name w ∷ (z ++ more)) behind y) u2.1 (subst (λ z. Reads m k other (z ++ more) behind y) u.1 r)))
    where
      go : {other : Rest} (f : List Token) → head (f ++ more) ≡ head t → Line (Argument d x v xs) other → Reads m k other (Name w ∷ Sign s.Colons ∷ Name n ∷ (f ++ more)) behind y →
          (other ≡ expression_line d x v xs) ⊎ (1 ≤ rank (head behind))
      go f e g.lambda r = absurd (bar_colons (sym (front_of (name_tail r))))
      go f e g.class r = inr (class_ends (with_type xs w n) (front_of (name_tail (sign_tail (Name n ∷ (f ++ more)) (name_tail r)))) (e ∙ c))
        where
          class_ends : (a : Arguments) → Front (last (ArgumentMore d x v a)) (f ++ more) behind → head (f ++ more) ≡ Some (Sign s.Colons) → 1 ≤ rank (head behind)
          class_ends a (inl one) e = absurd (omega (arith, one, ap rank e))
          class_ends a (inr u) e = subst (λ z. 1 ≤ rank (head z)) (sym u.1.1) (subst (λ z. 1 ≤ rank z) (sym e) (lit≤ tt))
      go f e g.expression r = inl refl

  -- behind `name '::' name`
  same_class_or_literal : (w n : List ℕ) (t : List Token) (o : Outcome) (m k : ℕ) (next_one : Option Token) → head t ≡ next_one →
      Runs m k (class_or_literal (class_line d x v xs) (expression_line d x v xs) next_one) (Name w ∷ Sign s.Colons ∷ Name n ∷ t) o →
      Same d x v xs (class_or_literal (class_line d x v xs) (expression_line d x v xs) next_one) (Name w ∷ Sign s.Colons ∷ Name n ∷ t) (rest_of o)
  same_class_or_literal w n t o m k (Some (Sign s.Colons)) e r =
      same_literal w n t (rest_of o) (ate_expression d x v xs w (Sign s.Colons ∷ Name n ∷ t) (length t) (ate_literal w (Name n ∷ t) (length t) (ate_three w n t)) m k o r) e
  same_class_or_literal w n t o m k _ e r =
      same_class w n t (rest_of o) (shorter (ate_name n _ t (ate_sign (Name n ∷ t) (ate_name w _ (Sign s.Colons ∷ Name n ∷ t) r)))) (λ i. cc)

  pub same_argument : (text : List Token) (o : Outcome) (m k : ℕ) → Runs m k (argument_next d x v xs text) text o → Same d x v xs (argument_next d x v xs text) text (rest_of o)
  same_argument (Name w ∷ Sign s.Bar ∷ t) o m k r = same_lambda w t (rest_of o) (shorter (ate_name w _ (Sign s.Bar ∷ t) r))
  same_argument (Name w ∷ Sign s.Colons ∷ Name n ∷ t) o m k r = same_class_or_literal w n t o m k (head t) refl r
  same_argument (Name w ∷ Sign s.Colons ∷ t) o m k r =
      same_two w t (rest_of o) (ate_expression d x v xs w (Sign s.Colons ∷ t) (length t) (ate_literal w t (length t) (ate_two w t)) m k o r) (λ v e. cc)
  same_argument (Name w ∷ t) o m k r =
      same_name w t (rest_of o) (ate_expression d x v xs w t (length t) (λ n l o d. shorter d) m k o r) (λ e. cc) (λ e. cc)
  same_argument text o m k r = same_other text (rest_of o) (λ v e. cc)
