-- A text has one tree, and a refused text one place.
use Rattle.std.proofs.Common.{◌≡◌, ℕ, suc, zero, ◌≤◌, ◌<◌, List, [], ◌∷◌, ◌++◌, refl, sym, ap, ◌∙◌, subst, append_assoc, inl, inr, arith, ◌⊎◌}
use Rattle.std.specs.Prelude.{Option, Some, length, take, drop}
use Rattle.wb_aql_grammar.specs.Tree.{Tree}
use Rattle.wb_aql_grammar.specs.Grammar.{Expr, last, Spells}
use Rattle.wb_aql_grammar.specs.invariants.Runs.{Outcome, Good, Wrong, Deep, Runs}
use Rattle.wb_aql_grammar.specs.Places.{head}
use Rattle.wb_aql_tokens.specs.declared.token.Token.{Token}
use Rattle.wb_aql_grammar.specs.Places.{KeepsBounds, IsSyntax, IsTooDeep}
use Rattle.wb_aql_grammar.proofs.Local.{some_same, none_some}
use Rattle.wb_aql_grammar.proofs.Whole.{one_tree, no_tree_wrong, no_tree_deep}
use Rattle.wb_aql_grammar.proofs.Total.{run_of}

-- a tree that tokens spell is the one that comes of reading them
same_tree : {n l m k : ℕ} {tokens : List Token} {x y : Tree} {o : Outcome} → Runs n l (last Expr) tokens o → Spells n l tokens x → Spells m k tokens y → x ≡ y
same_tree {n = n} {l = l} {m = m} {k = k} {x = x} {y = y} {o = Good z rest} d a b = (one_tree d n l x a).1 ∙ sym (one_tree d m k y b).1
same_tree {n = n} {l = l} {x = x} {o = Wrong rest} d a b = absurd (no_tree_wrong d n l x a)
same_tree {x = x} {o = Deep rest} d a b = absurd (no_tree_deep d x a)

pub unambiguous : (n l m k : ℕ) (tokens : List Token) (x y : Tree) → Spells n l tokens x → Spells m k tokens y → x ≡ y
unambiguous n l m k tokens x y a b = same_tree (run_of n l tokens).1 a b

-- a longer front is a shorter one and more
longer : (p q : ℕ) (tokens : List Token) → p < q → q ≤ length tokens → (more : List Token) × (take q tokens ≡ take p tokens ++ more) × (head more ≡ head (drop p tokens))
longer zero zero tokens i j = absurd (omega arith)
longer zero (suc q) [] i j = absurd (omega arith)
longer zero (suc q) (a ∷ tokens) i j = (a ∷ take q tokens, refl, refl)
longer (suc p) zero tokens i j = absurd (omega arith)
longer (suc p) (suc q) [] i j = absurd (omega arith)
longer (suc p) (suc q) (a ∷ tokens) i j = let u = longer p q tokens (omega arith) (omega arith) in (u.0, ap (λ z. a ∷ z) u.1, u.2)

head_more : (a b : List Token) (h : Option Token) (t : Token) → head a ≡ h → h ≡ Some t → head (a ++ b) ≡ h
head_more [] b h t e i = absurd (none_some (e ∙ i))
head_more (x ∷ a) b h t e i = e

some_of : (a : List Token) (t : Token) → head a ≡ Some t → (b : List Token) × (a ≡ t ∷ b)
some_of [] t e = absurd (none_some e)
some_of (x ∷ a) t e = (a, ap (λ z. z ∷ a) (some_same e))

-- a place below the length has a token
there : (p : ℕ) (tokens : List Token) → p < length tokens → (t : Token) × (head (drop p tokens) ≡ Some t)
there zero [] i = absurd (omega arith)
there zero (a ∷ tokens) i = (a, refl)
there (suc p) [] i = absurd (omega arith)
there (suc p) (a ∷ tokens) i = there p tokens (omega arith)

-- no text begins with more than the front before a place of `Syntax`
no_more : (n l : ℕ) (tokens : List Token) (p q : ℕ) → IsSyntax n l tokens p → p < q → q ≤ length tokens → (m k : ℕ) (rest : List Token) (x : Tree) →
    Spells m k (take q tokens ++ rest) x → ⊥
no_more n l tokens p q syntax i j m k rest x sp =
    let u = longer p q tokens i j in
    let t = there p tokens (omega arith) in
    syntax.stops m k (u.0 ++ rest) x (head_more u.0 rest (head (drop p tokens)) t.0 u.2 t.1)
    (subst (λ z. Spells m k z x) (append_assoc (take p tokens) u.0 rest) (subst (λ z. Spells m k (z ++ rest) x) u.1 sp))

compare_places : (p q : ℕ) → (p < q) ⊎ ((p ≡ q) ⊎ (q < p))
compare_places zero zero = inr (inl refl)
compare_places zero (suc q) = inl (omega arith)
compare_places (suc p) zero = inr (inr (omega arith))
compare_places (suc p) (suc q) = elim (compare_places p q) [
  | inl i ↦ inl (omega (arith, i))
  | inr rest ↦ elim rest [ inl e ↦ inr (inl (ap suc e)) | inr i ↦ inr (inr (omega (arith, i))) ]
]

pub one_syntax : (n l : ℕ) (tokens : List Token) (p q : ℕ) → IsSyntax n l tokens p → IsSyntax n l tokens q → p ≡ q
one_syntax n l tokens p q a b = elim (compare_places p q) [
  | inl i ↦ absurd (no_more n l tokens p q a i b.within (suc n) (suc l) b.before.more b.before.tree b.before.spells)
  | inr rest ↦ elim rest [ inl e ↦ e | inr i ↦ absurd (no_more n l tokens q p b i a.within (suc n) (suc l) a.before.more a.before.tree a.before.spells) ]
]

-- an opening at which a bound is passed does not stand before another place
no_bound : (n l : ℕ) (tokens : List Token) (p q : ℕ) → IsTooDeep n l tokens p → p < q → q ≤ length tokens → KeepsBounds n l (take q tokens) → ⊥
no_bound n l tokens p q deep i j keeps =
    let u = longer p q tokens i j in
    let w = some_of u.0 deep.token (u.2 ∙ ap head deep.is) in
    deep.stops (keeps (take p tokens) w.0 deep.token (u.1 ∙ ap (λ z. take p tokens ++ z) w.1) deep.opening)

pub one_deep : (n l : ℕ) (tokens : List Token) (p q : ℕ) → IsTooDeep n l tokens p → IsTooDeep n l tokens q → p ≡ q
one_deep n l tokens p q a b = elim (compare_places p q) [
  | inl i ↦ absurd (no_bound n l tokens p q a i (omega (arith, b.within)) b.bounded)
  | inr rest ↦ elim rest [ inl e ↦ e | inr i ↦ absurd (no_bound n l tokens q p b i (omega (arith, a.within)) a.bounded) ]
]

pub never_both : (n l : ℕ) (tokens : List Token) (p q : ℕ) → IsSyntax n l tokens p → IsTooDeep n l tokens q → ⊥
never_both n l tokens p q a b = elim (compare_places p q) [
  | inl i ↦ no_more n l tokens p q a i (omega (arith, b.within)) (suc n) (suc l) ((b.token ∷ []) ++ b.deeper.more) b.deeper.tree
      (subst (λ z. Spells (suc n) (suc l) z b.deeper.tree) (append_assoc (take q tokens) (b.token ∷ []) b.deeper.more) b.deeper.spells)
  | inr rest ↦ elim rest [
    | inl e ↦ a.stops (suc n) (suc l) (b.token ∷ b.deeper.more) b.deeper.tree (sym (ap (λ z. head (drop z tokens)) e ∙ ap head b.is))
        (subst (λ z. Spells (suc n) (suc l) (take z tokens ++ (b.token ∷ b.deeper.more)) b.deeper.tree) (sym e)
        (subst (λ z. Spells (suc n) (suc l) z b.deeper.tree) (append_assoc (take q tokens) (b.token ∷ []) b.deeper.more) b.deeper.spells))
    | inr i ↦ no_bound n l tokens q p b i a.within a.bounded
  ]
]
