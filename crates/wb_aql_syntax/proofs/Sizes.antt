-- How many tokens a canonical spelling has, and the bounds of what is put together.
use Rattle.std.proofs.Common.{◌≡◌, ℕ, suc, ◌≤◌, ◌+◌, List, [], ◌∷◌, ◌++◌, Bool, true, false, max, length, refl, sym, ap, subst, arith}
use Rattle.std.proofs.Math.Nat.{max-le}
use Rattle.std.proofs.lemmas.Bool.{leb-true, le-leb}
use Rattle.wb_aql_grammar.specs.Tree.{Tree, Trees, Arguments, no_trees, trees, no_arguments, lambda, type_named, expression, with_tree, with_lambda, with_type, with_expression}
use Rattle.wb_aql_grammar.specs.Tree as t
use Rattle.wb_aql_syntax.specs.Canonical.{rank, stands, whole_of, left_of, right_of, tightness, Piece, blank, token, mark, sign_of, link_of, enclosed, standing, pieces, element_pieces, argument_pieces, tokens_in, enclosed_openings, standing_openings, openings_of, element_openings, argument_openings, lambdas_of, element_lambdas, argument_lambdas}
use Rattle.wb_aql_tokens.specs.declared.token.Token.TheVariants.{Name}
use Rattle.wb_aql_tokens.specs.declared.token.Sign.TheVariants as s
use Rattle.wb_aql_grammar.specs.declared.expr.CollectionKind.{CollectionKind}
use Rattle.wb_aql_grammar.specs.declared.expr.Unary.TheVariants as u
use Rattle.wb_aql_grammar.specs.declared.expr.Binary.{Binary as BinaryOperator}
use Rattle.wb_aql_grammar.specs.declared.expr.CallKind.{CallKind}
use Rattle.wb_aql_syntax.specs.declared.tightness.Tightness.{Tightness}
use Rattle.wb_aql_syntax.specs.declared.tightness.Tightness.TheVariants as at
use Rattle.wb_aql_grammar.proofs.Local.{not_both}
use Rattle.wb_aql_syntax.proofs.CanonicalSpells.{left_most, right_most}

-- how many tokens
abbrev pub count : List Piece → ℕ
count [] = 0
count (blank ∷ ps) = count ps
count (token a ∷ ps) = suc (count ps)

pub count_tokens : (ps : List Piece) → length (tokens_in ps) ≡ count ps
count_tokens [] = refl
count_tokens (blank ∷ ps) = count_tokens ps
count_tokens (token a ∷ ps) = ap suc (count_tokens ps)

pub count_append : (ps qs : List Piece) → count (ps ++ qs) ≡ count ps + count qs
count_append [] qs = omega arith
count_append (blank ∷ ps) qs = count_append ps qs
count_append (token a ∷ ps) qs = omega (arith, count_append ps qs)

abbrev pub size_at : Tightness → Tree → ℕ
size_at p x = count (standing p x (pieces x))

abbrev pub open_at : Tightness → Tree → ℕ
open_at p x = standing_openings p x (openings_of x)

-- ---- parentheses

count_enclosed : (ps : List Piece) → count (enclosed false ps) ≡ 2 + count ps
count_enclosed ps = omega (arith, count_append ps (mark s.Close ∷ []))

size_by : (a b : Bool) (ps : List Piece) → (b ≡ true → a ≡ true) → count (enclosed a ps) ≤ count (enclosed b ps)
size_by true true ps h = omega arith
size_by true false ps h = omega (arith, count_enclosed ps)
size_by false true ps h = absurd (not_both (h refl))
size_by false false ps h = omega arith

open_by : (a b : Bool) (n : ℕ) → (b ≡ true → a ≡ true) → enclosed_openings a n ≤ enclosed_openings b n
open_by true true n h = omega arith
open_by true false n h = omega arith
open_by false true n h = absurd (not_both (h refl))
open_by false false n h = omega arith

stands_looser : (p q r : Tightness) → rank p ≤ rank q → stands q r ≡ true → stands p r ≡ true
stands_looser p q r h e = le-leb (rank p) (rank r) (omega (arith, h, leb-true (rank q) (rank r) e))

pub stands_itself : (p : Tightness) → stands p p ≡ true
stands_itself p = le-leb (rank p) (rank p) (omega arith)

-- ---- what a tree needs where a phrase is wanted

-- at most so many tokens, openings and lambdas
pub record Cost (n l : ℕ) (p : Tightness) (c : ℕ) (x : Tree) : Type 0 where
  pub tokens : size_at p x ≤ c
  pub opened : open_at p x ≤ n
  pub bound : lambdas_of x ≤ l

pub looser : {n l c : ℕ} {x : Tree} (p q : Tightness) → rank p ≤ rank q → Cost n l q c x → Cost n l p c x
looser {x = x} p q h cost = record {
  tokens = omega (arith, cost.tokens, size_by (stands p (tightness x)) (stands q (tightness x)) (pieces x) (stands_looser p q (tightness x) h));
  opened = omega (arith, cost.opened, open_by (stands p (tightness x)) (stands q (tightness x)) (openings_of x) (stands_looser p q (tightness x) h));
  bound = cost.bound;
}

pub more : {n l c e : ℕ} {p : Tightness} {x : Tree} → c ≤ e → Cost n l p c x → Cost n l p e x
more h cost = record { tokens = omega (arith, h, cost.tokens); opened = cost.opened; bound = cost.bound }

-- a tree that is the phrase without parentheses
pub plain : {n l c : ℕ} (p : Tightness) (x : Tree) → stands p (tightness x) ≡ true → count (pieces x) ≤ c → openings_of x ≤ n → lambdas_of x ≤ l → Cost n l p c x
plain {n = n} {c = c} p x e h i k = record {
  tokens = subst (λ yes. count (enclosed yes (pieces x)) ≤ c) (sym e) h;
  opened = subst (λ yes. enclosed_openings yes (openings_of x) ≤ n) (sym e) i;
  bound = k;
}

expr_stands : (q : Tightness) → stands at.Expr q ≡ true
expr_stands at.Expr = refl
expr_stands q = refl

-- where any phrase may stand
pub any_tokens : {n l c : ℕ} {x : Tree} → Cost n l at.Expr c x → count (pieces x) ≤ c
any_tokens {c = c} {x = x} cost = subst (λ yes. count (enclosed yes (pieces x)) ≤ c) (expr_stands (tightness x)) cost.tokens

pub any_opened : {n l c : ℕ} {x : Tree} → Cost n l at.Expr c x → openings_of x ≤ n
any_opened {n = n} {x = x} cost = subst (λ yes. enclosed_openings yes (openings_of x) ≤ n) (expr_stands (tightness x)) cost.opened

tokens_within : (yes : Bool) (ps : List Piece) → count (enclosed yes ps) ≤ 2 + count ps
tokens_within true ps = omega arith
tokens_within false ps = omega (arith, count_enclosed ps)

opened_within : (yes : Bool) (n : ℕ) → enclosed_openings yes n ≤ suc n
opened_within true n = omega arith
opened_within false n = omega arith

pub in_parentheses : {n l c : ℕ} {x : Tree} → Cost n l at.Expr c x → Cost (suc n) l at.Atom (2 + c) x
in_parentheses {x = x} cost = record {
  tokens = omega (arith, tokens_within (stands at.Atom (tightness x)) (pieces x), any_tokens cost);
  opened = omega (arith, opened_within (stands at.Atom (tightness x)) (openings_of x), any_opened cost);
  bound = cost.bound;
}

-- ---- trees put together

module _ {n l : ℕ} where
  pub cost_binary : (o : BinaryOperator) (x y : Tree) (c : ℕ) → open_at (left_of o) x ≤ n → lambdas_of x ≤ l → Cost n l (right_of o) c y →
      Cost n l (whole_of o) (suc (c + size_at (left_of o) x)) (t.Binary o x y)
  unfolding pieces openings_of lambdas_of
  cost_binary o x y c h k cost = plain (whole_of o) (t.Binary o x y) (stands_itself (whole_of o))
      (omega (arith, count_append (standing (left_of o) x (pieces x)) (blank ∷ mark (sign_of o) ∷ blank ∷ standing (right_of o) y (pieces y)), cost.tokens))
      (max-le h cost.opened) (max-le k cost.bound)

  pub cost_not : (x : Tree) (c : ℕ) → Cost n l at.Neg c x → Cost (suc n) l at.Neg (suc c) (t.Unary u.Not x)
  unfolding pieces openings_of lambdas_of
  cost_not x c cost = plain at.Neg (t.Unary u.Not x) refl (omega (arith, cost.tokens)) (omega (arith, cost.opened)) cost.bound

  pub cost_negate : (x : Tree) (c : ℕ) → Cost n l at.Unary c x → Cost (suc n) l at.Unary (suc c) (t.Unary u.Negate x)
  unfolding pieces openings_of lambdas_of
  cost_negate x c cost = plain at.Unary (t.Unary u.Negate x) refl (omega (arith, cost.tokens)) (omega (arith, cost.opened)) cost.bound

  pub cost_if : (x y z : Tree) (c d e : ℕ) → Cost n l at.Expr c x → Cost n l at.Expr d y → Cost n l at.Expr e z → Cost (suc n) l at.Atom (4 + c + d + e) (t.If x y z)
  unfolding pieces openings_of lambdas_of
  cost_if x y z c d e a b f =
      let last = blank ∷ mark s.Endif ∷ [] in
      let third = blank ∷ mark s.Else ∷ blank ∷ (pieces z ++ last) in
      let second = blank ∷ mark s.Then ∷ blank ∷ (pieces y ++ third) in
      let opened : max (openings_of x) (max (openings_of y) (openings_of z)) ≤ n = max-le (any_opened a) (max-le (any_opened b) (any_opened f)) in
      plain at.Atom (t.If x y z) refl
      (omega (arith, count_append (pieces x) second, count_append (pieces y) third, count_append (pieces z) last, any_tokens a, any_tokens b, any_tokens f))
      (omega (arith, opened)) (max-le a.bound (max-le b.bound f.bound))

  pub cost_let : (v : List ℕ) (x y : Tree) (c d : ℕ) → Cost n l at.Expr c x → Cost n l at.Expr d y → Cost (suc n) l at.Expr (4 + c + d) (t.Let v x y)
  unfolding pieces openings_of lambdas_of
  cost_let v x y c d a b =
      let opened : max (openings_of x) (openings_of y) ≤ n = max-le (any_opened a) (any_opened b) in
      plain at.Expr (t.Let v x y) refl
      (omega (arith, count_append (pieces x) (blank ∷ mark s.In ∷ blank ∷ pieces y), any_tokens a, any_tokens b))
      (omega (arith, opened)) (max-le a.bound b.bound)

  pub cost_feature : (x : Tree) (v : List ℕ) → open_at at.Post x ≤ n → lambdas_of x ≤ l → Cost n l at.Post (2 + size_at at.Post x) (t.Feature x v)
  unfolding pieces openings_of lambdas_of
  cost_feature x v h k = plain at.Post (t.Feature x v) refl (omega (arith, count_append (standing at.Post x (pieces x)) (mark s.Dot ∷ token (Name v) ∷ []))) h k

-- the tokens of a call with these arguments
abbrev pub size_call : Tree → Arguments → ℕ
size_call x xs = 4 + size_at at.Post x + count (argument_pieces false xs)

abbrev pub size_collection : Trees → ℕ
size_collection xs = 3 + count (element_pieces false xs)

module _ {n l : ℕ} where
  pub cost_call : (d : CallKind) (x : Tree) (v : List ℕ) (xs : Arguments) → open_at at.Post x ≤ suc n → lambdas_of x ≤ l → argument_openings xs ≤ n → argument_lambdas xs ≤ l →
      Cost (suc n) l at.Post (size_call x xs) (t.Call d x v xs)
  unfolding pieces openings_of lambdas_of
  cost_call d x v xs h k i j =
      let opened : suc (argument_openings xs) ≤ suc n = omega (arith, i) in
      plain at.Post (t.Call d x v xs) refl
      (omega (arith, count_append (standing at.Post x (pieces x)) (mark (link_of d) ∷ token (Name v) ∷ mark s.Open ∷ (argument_pieces false xs ++ (mark s.Close ∷ []))), count_append (argument_pieces false xs) (mark s.Close ∷ [])))
      (max-le h opened) (max-le k j)

  pub cost_collection : (k : CollectionKind) (xs : Trees) → element_openings xs ≤ n → element_lambdas xs ≤ l → Cost (suc n) l at.Atom (size_collection xs) (t.Collection k xs)
  unfolding pieces openings_of lambdas_of
  cost_collection k xs h i = plain at.Atom (t.Collection k xs) refl (omega (arith, count_append (element_pieces false xs) (mark s.CloseBrace ∷ []))) (omega (arith, h)) i

-- ---- one more element, or argument

-- the comma before the next
abbrev pub element_comma : Trees → ℕ
element_comma no_trees = 0
element_comma ys = 1

abbrev pub argument_comma : Arguments → ℕ
argument_comma no_arguments = 0
argument_comma ys = 1

later_elements : (ys : Trees) → count (element_pieces true ys) ≡ element_comma ys + count (element_pieces false ys)
unfolding pieces
later_elements no_trees = refl
later_elements (trees y ys) = omega arith

later_arguments : (ys : Arguments) → count (argument_pieces true ys) ≡ argument_comma ys + count (argument_pieces false ys)
unfolding pieces
later_arguments no_arguments = refl
later_arguments (lambda v y ys) = omega arith
later_arguments (type_named p c ys) = omega arith
later_arguments (expression y ys) = omega arith

module _ (x : Tree) where
  element_behind : (ys : Trees) → count (element_pieces true (with_tree ys x)) ≡ suc (count (pieces x) + count (element_pieces true ys))
  unfolding pieces
  element_behind no_trees = omega (arith, count_append (pieces x) [])
  element_behind (trees y ys) = omega (arith, count_append (pieces y) (element_pieces true (with_tree ys x)), count_append (pieces y) (element_pieces true ys), element_behind ys)

  some_element : (ys : Trees) → element_comma (with_tree ys x) ≡ 1
  some_element no_trees = refl
  some_element (trees y ys) = refl

  pub size_elements : (ys : Trees) → count (element_pieces false (with_tree ys x)) ≡ element_comma ys + (count (pieces x) + count (element_pieces false ys))
  size_elements ys = omega (arith, later_elements ys, later_elements (with_tree ys x), some_element ys, element_behind ys)

  expression_behind : (ys : Arguments) → count (argument_pieces true (with_expression ys x)) ≡ suc (count (pieces x) + count (argument_pieces true ys))
  unfolding pieces
  expression_behind no_arguments = omega (arith, count_append (pieces x) [])
  expression_behind (lambda v y ys) = omega (arith, count_append (pieces y) (argument_pieces true (with_expression ys x)), count_append (pieces y) (argument_pieces true ys), expression_behind ys)
  expression_behind (type_named p c ys) = omega (arith, expression_behind ys)
  expression_behind (expression y ys) = omega (arith, count_append (pieces y) (argument_pieces true (with_expression ys x)), count_append (pieces y) (argument_pieces true ys), expression_behind ys)

  some_expression : (ys : Arguments) → argument_comma (with_expression ys x) ≡ 1
  some_expression no_arguments = refl
  some_expression (lambda v y ys) = refl
  some_expression (type_named p c ys) = refl
  some_expression (expression y ys) = refl

  pub size_expression : (ys : Arguments) → count (argument_pieces false (with_expression ys x)) ≡ argument_comma ys + (count (pieces x) + count (argument_pieces false ys))
  size_expression ys = omega (arith, later_arguments ys, later_arguments (with_expression ys x), some_expression ys, expression_behind ys)

module _ (w : List ℕ) (x : Tree) where
  lambda_behind : (ys : Arguments) → count (argument_pieces true (with_lambda ys w x)) ≡ 3 + (count (pieces x) + count (argument_pieces true ys))
  unfolding pieces
  lambda_behind no_arguments = omega (arith, count_append (pieces x) [])
  lambda_behind (lambda v y ys) = omega (arith, count_append (pieces y) (argument_pieces true (with_lambda ys w x)), count_append (pieces y) (argument_pieces true ys), lambda_behind ys)
  lambda_behind (type_named p c ys) = omega (arith, lambda_behind ys)
  lambda_behind (expression y ys) = omega (arith, count_append (pieces y) (argument_pieces true (with_lambda ys w x)), count_append (pieces y) (argument_pieces true ys), lambda_behind ys)

  some_lambda : (ys : Arguments) → argument_comma (with_lambda ys w x) ≡ 1
  some_lambda no_arguments = refl
  some_lambda (lambda v y ys) = refl
  some_lambda (type_named p c ys) = refl
  some_lambda (expression y ys) = refl

  pub size_lambda : (ys : Arguments) → count (argument_pieces false (with_lambda ys w x)) ≡ argument_comma ys + (2 + count (pieces x) + count (argument_pieces false ys))
  size_lambda ys = omega (arith, later_arguments ys, later_arguments (with_lambda ys w x), some_lambda ys, lambda_behind ys)

module _ (q e : List ℕ) where
  type_behind : (ys : Arguments) → count (argument_pieces true (with_type ys q e)) ≡ 4 + count (argument_pieces true ys)
  unfolding pieces
  type_behind no_arguments = refl
  type_behind (lambda v y ys) = omega (arith, count_append (pieces y) (argument_pieces true (with_type ys q e)), count_append (pieces y) (argument_pieces true ys), type_behind ys)
  type_behind (type_named p c ys) = omega (arith, type_behind ys)
  type_behind (expression y ys) = omega (arith, count_append (pieces y) (argument_pieces true (with_type ys q e)), count_append (pieces y) (argument_pieces true ys), type_behind ys)

  some_type : (ys : Arguments) → argument_comma (with_type ys q e) ≡ 1
  some_type no_arguments = refl
  some_type (lambda v y ys) = refl
  some_type (type_named p c ys) = refl
  some_type (expression y ys) = refl

  pub size_type : (ys : Arguments) → count (argument_pieces false (with_type ys q e)) ≡ argument_comma ys + (3 + count (argument_pieces false ys))
  size_type ys = omega (arith, later_arguments ys, later_arguments (with_type ys q e), some_type ys, type_behind ys)

-- ---- their bounds

module _ (n l : ℕ) where
  pub elements_opened : (x : Tree) (ys : Trees) → openings_of x ≤ n → element_openings ys ≤ n → element_openings (with_tree ys x) ≤ n
  unfolding openings_of
  elements_opened x no_trees h k = max-le h k
  elements_opened x (trees y ys) h k = max-le (left_most _ _ n k) (elements_opened x ys h (right_most _ _ n k))

  pub elements_bound : (x : Tree) (ys : Trees) → lambdas_of x ≤ l → element_lambdas ys ≤ l → element_lambdas (with_tree ys x) ≤ l
  unfolding lambdas_of
  elements_bound x no_trees h k = max-le h k
  elements_bound x (trees y ys) h k = max-le (left_most _ _ l k) (elements_bound x ys h (right_most _ _ l k))

  pub expression_opened : (x : Tree) (ys : Arguments) → openings_of x ≤ n → argument_openings ys ≤ n → argument_openings (with_expression ys x) ≤ n
  unfolding openings_of
  expression_opened x no_arguments h k = max-le h k
  expression_opened x (lambda v y ys) h k = max-le (left_most _ _ n k) (expression_opened x ys h (right_most _ _ n k))
  expression_opened x (type_named p c ys) h k = expression_opened x ys h k
  expression_opened x (expression y ys) h k = max-le (left_most _ _ n k) (expression_opened x ys h (right_most _ _ n k))

  pub expression_bound : (x : Tree) (ys : Arguments) → lambdas_of x ≤ l → argument_lambdas ys ≤ l → argument_lambdas (with_expression ys x) ≤ l
  unfolding lambdas_of
  expression_bound x no_arguments h k = max-le h k
  expression_bound x (lambda v y ys) h k = max-le (left_most _ _ l k) (expression_bound x ys h (right_most _ _ l k))
  expression_bound x (type_named p c ys) h k = expression_bound x ys h k
  expression_bound x (expression y ys) h k = max-le (left_most _ _ l k) (expression_bound x ys h (right_most _ _ l k))

  pub lambda_opened : (w : List ℕ) (x : Tree) (ys : Arguments) → openings_of x ≤ n → argument_openings ys ≤ n → argument_openings (with_lambda ys w x) ≤ n
  unfolding openings_of
  lambda_opened w x no_arguments h k = max-le h k
  lambda_opened w x (lambda v y ys) h k = max-le (left_most _ _ n k) (lambda_opened w x ys h (right_most _ _ n k))
  lambda_opened w x (type_named p c ys) h k = lambda_opened w x ys h k
  lambda_opened w x (expression y ys) h k = max-le (left_most _ _ n k) (lambda_opened w x ys h (right_most _ _ n k))

  pub lambda_bound : (w : List ℕ) (x : Tree) (ys : Arguments) → suc (lambdas_of x) ≤ l → argument_lambdas ys ≤ l → argument_lambdas (with_lambda ys w x) ≤ l
  unfolding lambdas_of
  lambda_bound w x no_arguments h k = max-le h k
  lambda_bound w x (lambda v y ys) h k = max-le (left_most _ _ l k) (lambda_bound w x ys h (right_most _ _ l k))
  lambda_bound w x (type_named p c ys) h k = lambda_bound w x ys h k
  lambda_bound w x (expression y ys) h k = max-le (left_most _ _ l k) (lambda_bound w x ys h (right_most _ _ l k))

  pub type_opened : (q e : List ℕ) (ys : Arguments) → argument_openings ys ≤ n → argument_openings (with_type ys q e) ≤ n
  unfolding openings_of
  type_opened q e no_arguments k = k
  type_opened q e (lambda v y ys) k = max-le (left_most _ _ n k) (type_opened q e ys (right_most _ _ n k))
  type_opened q e (type_named p c ys) k = type_opened q e ys k
  type_opened q e (expression y ys) k = max-le (left_most _ _ n k) (type_opened q e ys (right_most _ _ n k))

  pub type_bound : (q e : List ℕ) (ys : Arguments) → argument_lambdas ys ≤ l → argument_lambdas (with_type ys q e) ≤ l
  unfolding lambdas_of
  type_bound q e no_arguments k = k
  type_bound q e (lambda v y ys) k = max-le (left_most _ _ l k) (type_bound q e ys (right_most _ _ l k))
  type_bound q e (type_named p c ys) k = type_bound q e ys k
  type_bound q e (expression y ys) k = max-le (left_most _ _ l k) (type_bound q e ys (right_most _ _ l k))
