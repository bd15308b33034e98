-- What comes of a whole text, and the laws on its tree and its place.
use Rattle.std.proofs.Common.{◌≡◌, ℕ, suc, ◌≤◌, List, [], ◌∷◌, ◌++◌, refl, sym, ap, ◌∙◌, subst, append_assoc, inl, inr, arith, true, lit≤}
use Rattle.std.specs.Prelude.{None, length, take, drop, ◌+◌}
use Rattle.wb_aql_grammar.specs.Tree.{Tree}
use Rattle.wb_aql_grammar.specs.Grammar.{Expr, last, reads_done}
use Rattle.wb_aql_grammar.specs.invariants.Runs.{Outcome, Good, Wrong, Deep}
use Rattle.wb_aql_grammar.specs.Places.{head}
use Rattle.wb_aql_grammar.specs.Places.{opens}
use Rattle.wb_aql_tokens.specs.declared.token.Token.{Token}
use Rattle.wb_aql_grammar.proofs.Ranks.{rank}
use Rattle.wb_aql_grammar.proofs.Local.{not_both, none_some}
use Rattle.wb_aql_grammar.proofs.Languages.{Viable, Closed, Safe, Explains}
use Rattle.wb_aql_grammar.proofs.Fits.{Lang, Fits}
use Rattle.wb_aql_grammar.specs.invariants.Runs.{Runs}
use Rattle.std.proofs.lemmas.List.{length-append}
use Rattle.std.proofs.Math.Seq.{take-append_seam, drop-append_seam}
use Rattle.wb_aql_grammar.specs.Grammar.{Spells}
use Rattle.wb_aql_grammar.specs.Places.{Begins, KeepsBounds, IsSyntax, IsTooDeep}
use Rattle.wb_aql_grammar.proofs.Theorem.{answers}

whole : {n l : ℕ} {tokens : List Token} {o : Outcome} → Runs n l (last Expr) tokens o → Explains (Lang (last Expr)) 2 n l tokens o
whole d = answers d 2 (fits_expr)
  where
    fits_expr : Fits 2 (last Expr)
    fits_expr y = (λ n l. record { more = []; tree = y; reads = λ tail. reads_done }, lit≤ tt, tt)

no_end : 2 ≤ rank None → ⊥
no_end i = omega (arith, i)

append_nil : (xs : List Token) → xs ++ [] ≡ xs
append_nil [] = refl
append_nil (x ∷ xs) = ap (λ z. x ∷ z) (append_nil xs)

pub spelled : {n l : ℕ} {tokens : List Token} {y : Tree} → Runs n l (last Expr) tokens (Good y []) → Spells n l tokens y
spelled {n = n} {l = l} {tokens = tokens} {y = y} d = let g = whole d in
    subst (λ z. Spells n l z y) (sym g.split) (g.reads n l [] (omega arith) (omega arith))

pub one_tree : {n l : ℕ} {tokens rest : List Token} {y : Tree} → Runs n l (last Expr) tokens (Good y rest) → (m k : ℕ) (x : Tree) → Spells m k tokens x → (rest ≡ []) × (x ≡ y)
one_tree {rest = rest} d m k x sp = let g = whole d in
    elim (g.only m k rest [] x refl (subst (λ z. Spells m k z x) g.split sp)) [ inl e ↦ (sym e.0, e.1) | inr h ↦ absurd (no_end h) ]

pub no_tree_wrong : {n l : ℕ} {tokens rest : List Token} → Runs n l (last Expr) tokens (Wrong rest) → (m k : ℕ) (x : Tree) → Spells m k tokens x → ⊥
no_tree_wrong {rest = rest} d m k x sp = let g = whole d in no_end (g.never m k rest [] x refl (subst (λ z. Spells m k z x) g.split sp))

pub no_tree_deep : {n l : ℕ} {tokens rest : List Token} → Runs n l (last Expr) tokens (Deep rest) → (x : Tree) → Spells n l tokens x → ⊥
no_tree_deep {n = n} {l = l} d x sp = let g = whole d in
    no_end (g.never g.behind [] x (subst (λ z. Spells n l (g.front ++ z) x) g.is (subst (λ z. Spells n l z x) g.split sp)))

-- ---- the bounds of a front

closed_none : (before behind : List Token) (a : Token) → Closed (before ++ (a ∷ behind)) → opens a ≡ true → ⊥
closed_none [] behind a c o = not_both (sym c.0 ∙ o)
closed_none (b ∷ before) behind a c o = closed_none before behind a c.1 o

heads_same : {a b : Token} {s t : List Token} → a ∷ s ≡ b ∷ t → a ≡ b
heads_same e = cc

tails_same : {a b : Token} {s t : List Token} → a ∷ s ≡ b ∷ t → s ≡ t
tails_same e = cc

-- an opening stands before the part without openings
found_in : (p q before behind : List Token) (a : Token) → p ++ q ≡ before ++ (a ∷ behind) → Closed q → opens a ≡ true → (c : List Token) × (p ≡ before ++ (a ∷ c))
found_in [] q before behind a e closed o = absurd (closed_none before behind a (subst Closed e closed) o)
found_in (b ∷ p) q [] behind a e closed o = (p, ap (λ z. z ∷ p) (heads_same e))
found_in (b ∷ p) q (c ∷ before) behind a e closed o =
    let u = found_in p q before behind a (tails_same e) closed o in (u.0, ap (λ z. z ∷ p) (heads_same e) ∙ ap (λ z. c ∷ z) u.1)

begins_viable : (n l : ℕ) (front : List Token) → Viable (Lang (last Expr)) n l front → Begins n l front
begins_viable n l front v = record { more = v.more ++ []; tree = v.tree; spells = v.reads [] }

regroup : (before : List Token) (a : Token) (c more : List Token) → (before ++ (a ∷ [])) ++ (c ++ more) ≡ (before ++ (a ∷ c)) ++ more
regroup before a c more = append_assoc before (a ∷ []) (c ++ more) ∙ sym (append_assoc before (a ∷ c) more)

begins_prefix : (n l : ℕ) (before c : List Token) (a : Token) → Begins n l (before ++ (a ∷ c)) → Begins n l (before ++ (a ∷ []))
begins_prefix n l before c a b = record { more = c ++ b.more; tree = b.tree; spells = subst (λ z. Spells n l z b.tree) (sym (regroup before a c b.more)) b.spells }

keeps_safe : (n l : ℕ) (front : List Token) → Safe (Lang (last Expr)) n l front → KeepsBounds n l front
keeps_safe n l front (inl closed) before behind a e o = absurd (closed_none before behind a (subst Closed e closed) o)
keeps_safe n l front (inr s) before behind a e o =
    let u = found_in s.p s.q before behind a (sym s.split ∙ e) s.closed o in
    begins_prefix n l before u.0 a (subst (Begins n l) u.1 (begins_viable n l s.p s.viable))

-- ---- the places

seam : (tokens front rest : List Token) → tokens ≡ front ++ rest → (take (length front) tokens ≡ front) × (drop (length front) tokens ≡ rest)
seam tokens front rest e = (ap (take (length front)) e ∙ take-append_seam front rest, ap (drop (length front)) e ∙ drop-append_seam front rest)

length_front : (tokens front rest : List Token) → tokens ≡ front ++ rest → length front + length rest ≡ length tokens
length_front tokens front rest e = sym (ap length e ∙ length-append front rest)

syntax_here : (n l : ℕ) (tokens front rest : List Token) (place : ℕ) → tokens ≡ front ++ rest → place ≡ length front → Begins (suc n) (suc l) front → KeepsBounds n l front →
    ((m k : ℕ) (more : List Token) (tree : Tree) → head more ≡ head rest → Spells m k (front ++ more) tree → ⊥) → IsSyntax n l tokens place
syntax_here n l tokens front rest place e i before bounded stops =
    let u = seam tokens front rest e in
    subst (IsSyntax n l tokens) (sym i) (record {
      within = omega (arith, length_front tokens front rest e);
      before = subst (Begins (suc n) (suc l)) (sym u.0) before;
      bounded = subst (KeepsBounds n l) (sym u.0) bounded;
      stops = λ m k more tree h sp. stops m k more tree (h ∙ ap head u.1) (subst (λ z. Spells m k (z ++ more) tree) u.0 sp);
    })

pub syntax_wrong : {n l : ℕ} (tokens rest : List Token) (place : ℕ) → Runs n l (last Expr) tokens (Wrong rest) → place + length rest ≡ length tokens → IsSyntax n l tokens place
syntax_wrong {n = n} {l = l} tokens rest place d i = let g = whole d in
    syntax_here n l tokens g.front rest place g.split (omega (arith, i, length_front tokens g.front rest g.split))
    (begins_viable (suc n) (suc l) g.front g.viable) (keeps_safe n l g.front g.safe)
    (λ m k more tree h sp. no_end (g.never m k more [] tree h sp))

cons_end : (a : Token) (rest more : List Token) → head more ≡ head (a ∷ rest) → [] ≡ more → ⊥
cons_end a rest [] h e = none_some h
cons_end a rest (b ∷ more) h e = cc

pub syntax_behind : {n l : ℕ} (tokens : List Token) (a : Token) (rest : List Token) (y : Tree) (place : ℕ) → Runs n l (last Expr) tokens (Good y (a ∷ rest)) →
    place + length (a ∷ rest) ≡ length tokens → IsSyntax n l tokens place
syntax_behind {n = n} {l = l} tokens a rest y place d i = let g = whole d in
    syntax_here n l tokens g.front (a ∷ rest) place g.split (omega (arith, i, length_front tokens g.front (a ∷ rest) g.split))
    (record { more = []; tree = y; spells = g.reads (suc n) (suc l) [] (omega arith) (omega arith) })
    (λ before behind b e o. begins_prefix n l before behind b (subst (Begins n l) e (record { more = []; tree = y; spells = g.reads n l [] (omega arith) (omega arith) })))
    (λ m k more tree h sp. elim (g.only m k more [] tree h sp) [ inl u ↦ cons_end a rest more h u.0 | inr j ↦ no_end j ])

pub too_deep_at : {n l : ℕ} (tokens rest : List Token) (place : ℕ) → Runs n l (last Expr) tokens (Deep rest) → place + length rest ≡ length tokens → IsTooDeep n l tokens place
too_deep_at {n = n} {l = l} tokens rest place d i = let g = whole d in
    let u = seam tokens g.front rest g.split in
    let p : place ≡ length g.front = omega (arith, i, length_front tokens g.front rest g.split) in
    subst (IsTooDeep n l tokens) (sym p) (record {
      token = g.token;
      behind = g.behind;
      is = u.1 ∙ g.is;
      opening = g.opened;
      within = omega (arith, length_front tokens g.front rest g.split, ap length g.is);
      bounded = subst (KeepsBounds n l) (sym u.0) (keeps_safe n l g.front g.safe);
      stops = λ b. no_end (g.never b.more [] b.tree (subst (λ z. Spells n l z b.tree) (append_assoc g.front (g.token ∷ []) b.more)
          (subst (λ z. Spells n l ((z ++ (g.token ∷ [])) ++ b.more) b.tree) u.0 b.spells)));
      deeper = subst (λ z. Begins (suc n) (suc l) (z ++ (g.token ∷ []))) (sym u.0) (begins_viable (suc n) (suc l) (g.front ++ (g.token ∷ [])) g.deeper);
    })
