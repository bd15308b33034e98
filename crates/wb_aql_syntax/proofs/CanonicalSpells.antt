-- The canonical tokens spell the tree, within its least bounds.
use Rattle.std.proofs.Common.{◌≡◌, ℕ, suc, zero, ◌≤◌, List, [], ◌∷◌, ◌++◌, Bool, true, false, max, refl, sym, ap, ◌∙◌, subst, arith}
use Rattle.std.proofs.Math.Nat.{le-max_left, le-max_right}
use Rattle.wb_aql_grammar.specs.Tree.{Tree, Trees, Arguments, no_trees, trees, no_arguments, lambda, type_named, expression, with_tree, with_lambda, with_type, with_expression}
use Rattle.wb_aql_grammar.specs.Tree as t
use Rattle.wb_aql_grammar.specs.Grammar.{Phrase, Expr, Implies, Or, Xor, And, Neg, Cmp, Sum, Term, Unary, Post, Atom, ImpliesMore, OrMore, XorMore, AndMore, CmpMore, SumMore, TermMore, PostMore, CallArguments, Argument, ArgumentMore, Elements, Element, ElementMore, Rest, done, sign, phrase, last, inside, takes_opening, takes_lambda, Reads, reads_done, reads_sign, reads_name, reads_phrase, reads_opening, Spells}
use Rattle.wb_aql_grammar.specs.Grammar as g
use Rattle.wb_aql_syntax.specs.Canonical.{stands, left_of, right_of, tightness, Piece, blank, token, mark, sign_of, link_of, apart, enclosed, standing, pieces, element_pieces, argument_pieces, tokens_in, canon, enclosed_openings, standing_openings, openings_of, element_openings, argument_openings, lambdas_of, element_lambdas, argument_lambdas}
use Rattle.wb_aql_tokens.specs.declared.token.Token.{Token}
use Rattle.wb_aql_tokens.specs.declared.token.Token.TheVariants.{Sign, Name}
use Rattle.wb_aql_tokens.specs.declared.token.Sign.{Sign as SignName}
use Rattle.wb_aql_tokens.specs.declared.token.Sign.TheVariants as s
use Rattle.wb_aql_grammar.specs.declared.expr.Constant.TheVariants as c
use Rattle.wb_aql_grammar.specs.declared.expr.CollectionKind.{CollectionKind}
use Rattle.wb_aql_grammar.specs.declared.expr.CollectionKind.TheVariants as k
use Rattle.wb_aql_grammar.specs.declared.expr.Unary.TheVariants as u
use Rattle.wb_aql_grammar.specs.declared.expr.Binary.{Binary as BinaryOperator}
use Rattle.wb_aql_grammar.specs.declared.expr.Binary.TheVariants as b
use Rattle.wb_aql_grammar.specs.declared.expr.CallKind.{CallKind}
use Rattle.wb_aql_grammar.specs.declared.expr.CallKind.TheVariants as d
use Rattle.wb_aql_syntax.specs.declared.tightness.Tightness.{Tightness}
use Rattle.wb_aql_syntax.specs.declared.tightness.Tightness.TheVariants as at
use Rattle.wb_aql_grammar.proofs.Local.{not_both}

-- ---- the tokens of pieces, before others

abbrev pub before : List Piece → List Token → List Token
before [] rest = rest
before (blank ∷ ps) rest = before ps rest
before (token a ∷ ps) rest = a ∷ before ps rest

pub before_append : (ps qs : List Piece) (rest : List Token) → before (ps ++ qs) rest ≡ before ps (before qs rest)
before_append [] qs rest = refl
before_append (blank ∷ ps) qs rest = before_append ps qs rest
before_append (token a ∷ ps) qs rest = ap (λ z. a ∷ z) (before_append ps qs rest)

before_nothing : (ps : List Piece) → before ps [] ≡ tokens_in ps
before_nothing [] = refl
before_nothing (blank ∷ ps) = before_nothing ps
before_nothing (token a ∷ ps) = ap (λ z. a ∷ z) (before_nothing ps)

-- ---- phrases

abbrev pub phrase_at : Tightness → Phrase
phrase_at at.Expr = Expr
phrase_at at.Implies = Implies
phrase_at at.Or = Or
phrase_at at.Xor = Xor
phrase_at at.And = And
phrase_at at.Neg = Neg
phrase_at at.Cmp = Cmp
phrase_at at.Sum = Sum
phrase_at at.Term = Term
phrase_at at.Unary = Unary
phrase_at at.Post = Post
phrase_at at.Atom = Atom

-- what may follow x, in a phrase that goes on as a chain
abbrev follow : Tightness → Tree → Rest
follow at.Implies x = last (ImpliesMore x)
follow at.Or x = last (OrMore x)
follow at.Xor x = last (XorMore x)
follow at.And x = last (AndMore x)
follow at.Sum x = last (SumMore x)
follow at.Term x = last (TermMore x)
follow at.Post x = last (PostMore x)
follow _ x = done x

-- the pieces begin a phrase of this sort: whatever follows x there follows them
abbrev Begun : ℕ → ℕ → Tightness → Tree → List Piece → Type 0
Begun n l p x ps = (mid rest : List Token) (z : Tree) → Reads n l (follow p x) mid rest z → Reads n l (last (phrase_at p)) (before ps mid) rest z

join : {n l : ℕ} {p : Phrase} {r : Tree → Rest} {text mid rest : List Token} {y z : Tree} →
    Reads n l (last p) text mid y → Reads n l (r y) mid rest z → Reads n l (phrase p r) text rest z
join (reads_phrase line d reads_done) e = reads_phrase line d e

ends : (n l : ℕ) (p : Tightness) (x : Tree) (mid : List Token) → Reads n l (follow p x) mid mid x
ends n l at.Implies x mid = reads_phrase g.implies_end reads_done reads_done
ends n l at.Or x mid = reads_phrase g.or_end reads_done reads_done
ends n l at.Xor x mid = reads_phrase g.xor_end reads_done reads_done
ends n l at.And x mid = reads_phrase g.and_end reads_done reads_done
ends n l at.Sum x mid = reads_phrase g.sum_end reads_done reads_done
ends n l at.Term x mid = reads_phrase g.term_end reads_done reads_done
ends n l at.Post x mid = reads_phrase g.post_end reads_done reads_done
ends n l _ x mid = reads_done

-- ---- a phrase is also one of those before it

module _ (n l : ℕ) (x : Tree) (ps : List Piece) where
  whole : (p : Tightness) → Begun n l p x ps → (mid : List Token) → Reads n l (last (phrase_at p)) (before ps mid) mid x
  whole p s mid = s mid mid x (ends n l p x mid)

  expr : Begun n l at.Implies x ps → Begun n l at.Expr x ps
  expr s mid rest z d = reads_phrase g.expr (join (whole at.Implies s mid) d) reads_done

  implies : Begun n l at.Or x ps → Begun n l at.Implies x ps
  implies s mid rest z d = reads_phrase g.implies (join (whole at.Or s mid) d) reads_done

  or : Begun n l at.Xor x ps → Begun n l at.Or x ps
  or s mid rest z d = reads_phrase g.or (join (whole at.Xor s mid) d) reads_done

  xor : Begun n l at.And x ps → Begun n l at.Xor x ps
  xor s mid rest z d = reads_phrase g.xor (join (whole at.And s mid) d) reads_done

  and : Begun n l at.Neg x ps → Begun n l at.And x ps
  and s mid rest z d = reads_phrase g.and (join (whole at.Neg s mid) d) reads_done

  neg : Begun n l at.Cmp x ps → Begun n l at.Neg x ps
  neg s mid rest z d = reads_phrase g.neg (join (whole at.Cmp s mid) d) reads_done

  cmp : Begun n l at.Sum x ps → Begun n l at.Cmp x ps
  cmp s mid rest z d = reads_phrase g.cmp (join (whole at.Sum s mid) (reads_phrase g.cmp_end d reads_done)) reads_done

  sum : Begun n l at.Term x ps → Begun n l at.Sum x ps
  sum s mid rest z d = reads_phrase g.sum (join (whole at.Term s mid) d) reads_done

  term : Begun n l at.Unary x ps → Begun n l at.Term x ps
  term s mid rest z d = reads_phrase g.term (join (whole at.Unary s mid) d) reads_done

  unary : Begun n l at.Post x ps → Begun n l at.Unary x ps
  unary s mid rest z d = reads_phrase g.unary (join (whole at.Post s mid) d) reads_done

  post : Begun n l at.Atom x ps → Begun n l at.Post x ps
  post s mid rest z d = reads_phrase g.post (join (whole at.Atom s mid) d) reads_done

  from_expr : Begun n l at.Expr x ps → (p : Tightness) → stands p at.Expr ≡ true → Begun n l p x ps
  from_expr s at.Expr h = s
  from_expr s _ h = absurd (not_both h)

  from_implies : Begun n l at.Implies x ps → (p : Tightness) → stands p at.Implies ≡ true → Begun n l p x ps
  from_implies s at.Implies h = s
  from_implies s p h = from_expr (expr s) p h

  from_or : Begun n l at.Or x ps → (p : Tightness) → stands p at.Or ≡ true → Begun n l p x ps
  from_or s at.Or h = s
  from_or s p h = from_implies (implies s) p h

  from_xor : Begun n l at.Xor x ps → (p : Tightness) → stands p at.Xor ≡ true → Begun n l p x ps
  from_xor s at.Xor h = s
  from_xor s p h = from_or (or s) p h

  from_and : Begun n l at.And x ps → (p : Tightness) → stands p at.And ≡ true → Begun n l p x ps
  from_and s at.And h = s
  from_and s p h = from_xor (xor s) p h

  from_neg : Begun n l at.Neg x ps → (p : Tightness) → stands p at.Neg ≡ true → Begun n l p x ps
  from_neg s at.Neg h = s
  from_neg s p h = from_and (and s) p h

  from_cmp : Begun n l at.Cmp x ps → (p : Tightness) → stands p at.Cmp ≡ true → Begun n l p x ps
  from_cmp s at.Cmp h = s
  from_cmp s p h = from_neg (neg s) p h

  from_sum : Begun n l at.Sum x ps → (p : Tightness) → stands p at.Sum ≡ true → Begun n l p x ps
  from_sum s at.Sum h = s
  from_sum s p h = from_cmp (cmp s) p h

  from_term : Begun n l at.Term x ps → (p : Tightness) → stands p at.Term ≡ true → Begun n l p x ps
  from_term s at.Term h = s
  from_term s p h = from_sum (sum s) p h

  from_unary : Begun n l at.Unary x ps → (p : Tightness) → stands p at.Unary ≡ true → Begun n l p x ps
  from_unary s at.Unary h = s
  from_unary s p h = from_term (term s) p h

  from_post : Begun n l at.Post x ps → (p : Tightness) → stands p at.Post ≡ true → Begun n l p x ps
  from_post s at.Post h = s
  from_post s p h = from_unary (unary s) p h

  from_atom : Begun n l at.Atom x ps → (p : Tightness) → Begun n l p x ps
  from_atom s at.Atom = s
  from_atom s p = from_post (post s) p refl

  loosen : (q : Tightness) → Begun n l q x ps → (p : Tightness) → stands p q ≡ true → Begun n l p x ps
  loosen at.Expr = from_expr
  loosen at.Implies = from_implies
  loosen at.Or = from_or
  loosen at.Xor = from_xor
  loosen at.And = from_and
  loosen at.Neg = from_neg
  loosen at.Cmp = from_cmp
  loosen at.Sum = from_sum
  loosen at.Term = from_term
  loosen at.Unary = from_unary
  loosen at.Post = from_post
  loosen at.Atom = λ s p h. from_atom s p

-- ---- parentheses where they are wanted

expr_stands : (q : Tightness) → stands at.Expr q ≡ true
expr_stands at.Expr = refl
expr_stands q = refl

-- the pieces begin a phrase of this sort within all bounds that allow it
abbrev Stood : Tightness → Tree → List Piece → ℕ → Type 0
Stood p x ps low = (n l : ℕ) → low ≤ n → lambdas_of x ≤ l → Begun n l p x ps

abbrev Bare : Tree → Type 0
Bare x = Stood (tightness x) x (pieces x) (openings_of x)

enclose : (n l : ℕ) (p : Tightness) (x : Tree) (ps : List Piece) → Begun n l at.Expr x ps → Begun (suc n) l p x (mark s.Open ∷ (ps ++ (mark s.Close ∷ [])))
enclose n l p x ps begun = from_atom (suc n) l x (mark s.Open ∷ (ps ++ (mark s.Close ∷ [])))
    (λ mid rest z d. reads_phrase g.parentheses (reads_opening takes_opening
    (subst (λ w. Reads n l (inside Expr (Sign s.Close)) w mid x) (sym (before_append ps (mark s.Close ∷ []) mid)) (join (whole n l x ps at.Expr begun (Sign s.Close ∷ mid)) (reads_sign reads_done)))
    d) reads_done) p

place_by : (yes : Bool) (p : Tightness) (x : Tree) → stands p (tightness x) ≡ yes → Bare x → Stood p x (enclosed yes (pieces x)) (enclosed_openings yes (openings_of x))
place_by true p x e s n l h k = loosen n l x (pieces x) (tightness x) (s n l h k) p e
place_by false p x e s zero l h k = absurd (omega (arith, h))
place_by false p x e s (suc n) l h k = enclose n l p x (pieces x) (loosen n l x (pieces x) (tightness x) (s n l (omega (arith, h)) k) at.Expr (expr_stands (tightness x)))

placed : (p : Tightness) (x : Tree) → Bare x → Stood p x (standing p x (pieces x)) (standing_openings p x (openings_of x))
placed p x = place_by (stands p (tightness x)) p x refl

-- where any phrase may stand
abbrev Anywhere : Tree → Type 0
Anywhere x = (n l : ℕ) → openings_of x ≤ n → lambdas_of x ≤ l → (mid : List Token) → Reads n l (last Expr) (before (pieces x) mid) mid x

anywhere : (x : Tree) → Bare x → Anywhere x
anywhere x s n l h k mid = whole n l x (pieces x) at.Expr (loosen n l x (pieces x) (tightness x) (s n l h k) at.Expr (expr_stands (tightness x))) mid

-- where a phrase of this sort is wanted
abbrev Wanted : Tightness → Tree → Type 0
Wanted p x = (n l : ℕ) → standing_openings p x (openings_of x) ≤ n → lambdas_of x ≤ l → (mid : List Token) → Reads n l (last (phrase_at p)) (before (standing p x (pieces x)) mid) mid x

wanted : (p : Tightness) (x : Tree) → Bare x → Wanted p x
wanted p x s n l h k mid = whole n l x (standing p x (pieces x)) p (placed p x s n l h k) mid

-- ---- bounds

pub left_most : (a b n : ℕ) → max a b ≤ n → a ≤ n
left_most a b n h = omega (arith, h, le-max_left a b)

pub right_most : (a b n : ℕ) → max a b ≤ n → b ≤ n
right_most a b n h = omega (arith, h, le-max_right a b)

-- ---- binary operators

-- the pieces of the operands, where they stand
abbrev left_pieces : BinaryOperator → Tree → List Piece
left_pieces o x = standing (left_of o) x (pieces x)

abbrev right_pieces : BinaryOperator → Tree → List Piece
right_pieces o y = standing (right_of o) y (pieces y)

chained : (n l : ℕ) (o : BinaryOperator) (x y : Tree) → Begun n l (left_of o) x (left_pieces o x) →
    ((mid : List Token) → Reads n l (last (phrase_at (right_of o))) (before (right_pieces o y) mid) mid y) →
    ((text mid rest : List Token) (z : Tree) → Reads n l (last (phrase_at (right_of o))) text mid y → Reads n l (follow (left_of o) (t.Binary o x y)) mid rest z →
    Reads n l (follow (left_of o) x) (Sign (sign_of o) ∷ text) rest z) →
    Begun n l (left_of o) (t.Binary o x y) (left_pieces o x ++ (apart (sign_of o) ++ right_pieces o y))
chained n l o x y begun right step mid rest z d =
    subst (λ w. Reads n l (last (phrase_at (left_of o))) w rest z) (sym (before_append (left_pieces o x) (apart (sign_of o) ++ right_pieces o y) mid))
    (begun (Sign (sign_of o) ∷ before (right_pieces o y) mid) rest z (step (before (right_pieces o y) mid) mid rest z (right mid) d))

compared : (n l : ℕ) (a : SignName) (x y xy : Tree) (px py : List Piece) →
    ((mid : List Token) → Reads n l (last Sum) (before px mid) mid x) →
    ((mid : List Token) → Reads n l (last Sum) (before py mid) mid y) →
    ((text mid : List Token) → Reads n l (last Sum) text mid y → Reads n l (last (CmpMore x)) (Sign a ∷ text) mid xy) →
    Begun n l at.Cmp xy (px ++ (apart a ++ py))
compared n l a x y xy px py left right step mid rest z d =
    reads_phrase g.cmp
    (subst (λ w. Reads n l (phrase Sum (λ v. last (CmpMore v))) w mid xy) (sym (before_append px (apart a ++ py) mid))
    (join (left (Sign a ∷ before py mid)) (step (before py mid) mid (right mid)))) d

-- ---- elements and arguments, the ones before them first

abbrev joined : Trees → Trees → Trees
joined ys no_trees = ys
joined ys (trees x xs) = joined (with_tree ys x) xs

joined_behind : (y : Tree) (ys xs : Trees) → joined (trees y ys) xs ≡ trees y (joined ys xs)
joined_behind y ys no_trees = refl
joined_behind y ys (trees x xs) = joined_behind y (with_tree ys x) xs

joined_all : (xs : Trees) → joined no_trees xs ≡ xs
joined_all no_trees = refl
joined_all (trees x xs) = joined_behind x no_trees xs ∙ ap (trees x) (joined_all xs)

abbrev added : Arguments → Arguments → Arguments
added ys no_arguments = ys
added ys (lambda w x xs) = added (with_lambda ys w x) xs
added ys (type_named p c xs) = added (with_type ys p c) xs
added ys (expression x xs) = added (with_expression ys x) xs

behind_lambda : (v : List ℕ) (y : Tree) (ys xs : Arguments) → added (lambda v y ys) xs ≡ lambda v y (added ys xs)
behind_lambda v y ys no_arguments = refl
behind_lambda v y ys (lambda w x xs) = behind_lambda v y (with_lambda ys w x) xs
behind_lambda v y ys (type_named p c xs) = behind_lambda v y (with_type ys p c) xs
behind_lambda v y ys (expression x xs) = behind_lambda v y (with_expression ys x) xs

behind_type : (q e : List ℕ) (ys xs : Arguments) → added (type_named q e ys) xs ≡ type_named q e (added ys xs)
behind_type q e ys no_arguments = refl
behind_type q e ys (lambda w x xs) = behind_type q e (with_lambda ys w x) xs
behind_type q e ys (type_named p c xs) = behind_type q e (with_type ys p c) xs
behind_type q e ys (expression x xs) = behind_type q e (with_expression ys x) xs

behind_expression : (y : Tree) (ys xs : Arguments) → added (expression y ys) xs ≡ expression y (added ys xs)
behind_expression y ys no_arguments = refl
behind_expression y ys (lambda w x xs) = behind_expression y (with_lambda ys w x) xs
behind_expression y ys (type_named p c xs) = behind_expression y (with_type ys p c) xs
behind_expression y ys (expression x xs) = behind_expression y (with_expression ys x) xs

added_all : (xs : Arguments) → added no_arguments xs ≡ xs
added_all no_arguments = refl
added_all (lambda w x xs) = behind_lambda w x no_arguments xs ∙ ap (lambda w x) (added_all xs)
added_all (type_named p c xs) = behind_type p c no_arguments xs ∙ ap (type_named p c) (added_all xs)
added_all (expression x xs) = behind_expression x no_arguments xs ∙ ap (expression x) (added_all xs)

-- what is read at once, with what is read behind it
abbrev ReadsTo : ℕ → ℕ → Phrase → List Piece → List Token → Tree → Type 0
ReadsTo n l p ps mid z = Reads n l (last p) (before ps mid) mid z

read_element : (n l : ℕ) (k : CollectionKind) (ys : Trees) (x : Tree) (behind : List Piece) (mid : List Token) (z : Tree) → Anywhere x → openings_of x ≤ n → lambdas_of x ≤ l →
    ReadsTo n l (ElementMore k (with_tree ys x)) behind mid z → ReadsTo n l (Element k ys) (pieces x ++ behind) mid z
read_element n l k ys x behind mid z at_x h i d =
    subst (λ w. Reads n l (last (Element k ys)) w mid z) (sym (before_append (pieces x) behind mid))
    (reads_phrase g.element (join (at_x n l h i (before behind mid)) d) reads_done)

read_expression : (n l : ℕ) (d : CallKind) (r : Tree) (v : List ℕ) (ys : Arguments) (x : Tree) (behind : List Piece) (mid : List Token) (z : Tree) → Anywhere x → openings_of x ≤ n → lambdas_of x ≤ l →
    ReadsTo n l (ArgumentMore d r v (with_expression ys x)) behind mid z → ReadsTo n l (Argument d r v ys) (pieces x ++ behind) mid z
read_expression n l d r v ys x behind mid z at_x h i e =
    subst (λ w. Reads n l (last (Argument d r v ys)) w mid z) (sym (before_append (pieces x) behind mid))
    (reads_phrase g.expression (join (at_x n l h i (before behind mid)) e) reads_done)

read_type : (n l : ℕ) (d : CallKind) (r : Tree) (v : List ℕ) (ys : Arguments) (p c : List ℕ) (behind : List Piece) (mid : List Token) (z : Tree) →
    ReadsTo n l (ArgumentMore d r v (with_type ys p c)) behind mid z → ReadsTo n l (Argument d r v ys) (token (Name p) ∷ mark s.Colons ∷ token (Name c) ∷ behind) mid z
read_type n l d r v ys p c behind mid z e = reads_phrase g.class (reads_name (reads_sign (reads_name e))) reads_done

read_lambda : (n l : ℕ) (d : CallKind) (r : Tree) (v : List ℕ) (ys : Arguments) (w : List ℕ) (x : Tree) (behind : List Piece) (mid : List Token) (z : Tree) → Anywhere x → openings_of x ≤ n → suc (lambdas_of x) ≤ l →
    ReadsTo n l (ArgumentMore d r v (with_lambda ys w x)) behind mid z → ReadsTo n l (Argument d r v ys) (token (Name w) ∷ (apart s.Bar ++ (pieces x ++ behind))) mid z
read_lambda n zero d r v ys w x behind mid z at_x h i e = absurd (omega (arith, i))
read_lambda n (suc l) d r v ys w x behind mid z at_x h i e =
    subst (λ t. Reads n (suc l) (last (Argument d r v ys)) (Name w ∷ Sign s.Bar ∷ t) mid z) (sym (before_append (pieces x) behind mid))
    (reads_phrase g.lambda (reads_name (reads_opening takes_lambda (at_x n l h (omega (arith, i)) (before behind mid)) e)) reads_done)

-- ---- conditions, bindings and calls

if_inside : (n l : ℕ) (x y z : Tree) (px py pz : List Piece) (mid : List Token) →
    ((mid : List Token) → ReadsTo n l Expr px mid x) → ((mid : List Token) → ReadsTo n l Expr py mid y) → ((mid : List Token) → ReadsTo n l Expr pz mid z) →
    Reads n l (phrase Expr (λ x. sign (Sign s.Then) (phrase Expr (λ y. sign (Sign s.Else) (phrase Expr (λ z. sign (Sign s.Endif) (done (t.If x y z))))))))
    (before (px ++ (apart s.Then ++ (py ++ (apart s.Else ++ (pz ++ (blank ∷ mark s.Endif ∷ [])))))) mid) mid (t.If x y z)
if_inside n l x y z px py pz mid at_x at_y at_z =
    let rest = apart s.Else ++ (pz ++ (blank ∷ mark s.Endif ∷ [])) in
    let same : before (px ++ (apart s.Then ++ (py ++ rest))) mid ≡ before px (Sign s.Then ∷ before py (Sign s.Else ∷ before pz (Sign s.Endif ∷ mid))) =
    before_append px (apart s.Then ++ (py ++ rest)) mid ∙ ap (λ w. before px (Sign s.Then ∷ w))
    (before_append py rest mid ∙ ap (λ w. before py (Sign s.Else ∷ w)) (before_append pz (blank ∷ mark s.Endif ∷ []) mid)) in
    subst (λ w. Reads n l (phrase Expr (λ x. sign (Sign s.Then) (phrase Expr (λ y. sign (Sign s.Else) (phrase Expr (λ z. sign (Sign s.Endif) (done (t.If x y z)))))))) w mid (t.If x y z))
    (sym same) (join (at_x _) (reads_sign (join (at_y _) (reads_sign (join (at_z _) (reads_sign reads_done))))))

let_inside : (n l : ℕ) (v : List ℕ) (x y : Tree) (px py : List Piece) (mid : List Token) →
    ((mid : List Token) → ReadsTo n l Expr px mid x) → ((mid : List Token) → ReadsTo n l Expr py mid y) →
    Reads n l (phrase Expr (λ x. sign (Sign s.In) (phrase Expr (λ y. done (t.Let v x y))))) (before (px ++ (apart s.In ++ py)) mid) mid (t.Let v x y)
let_inside n l v x y px py mid at_x at_y =
    subst (λ w. Reads n l (phrase Expr (λ x. sign (Sign s.In) (phrase Expr (λ y. done (t.Let v x y))))) w mid (t.Let v x y))
    (sym (before_append px (apart s.In ++ py) mid)) (join (at_x _) (reads_sign (join (at_y mid) reads_done)))

-- in brackets
bracketed : (n l : ℕ) (p : Phrase) (a : SignName) (ps : List Piece) (x : Tree) (mid : List Token) →
    ((mid : List Token) → ReadsTo n l p ps mid x) → Reads n l (inside p (Sign a)) (before (ps ++ (mark a ∷ [])) mid) mid x
bracketed n l p a ps x mid at_x = subst (λ w. Reads n l (inside p (Sign a)) w mid x) (sym (before_append ps (mark a ∷ []) mid)) (join (at_x (Sign a ∷ mid)) (reads_sign reads_done))

called : (n l : ℕ) (d : CallKind) (x : Tree) (v : List ℕ) (xs : Arguments) (ps : List Piece) (mid rest : List Token) (z : Tree) →
    ((mid : List Token) → ReadsTo n l (CallArguments d x v) ps mid (t.Call d x v xs)) → Reads (suc n) l (last (PostMore (t.Call d x v xs))) mid rest z →
    Reads (suc n) l (last (PostMore x)) (Sign (link_of d) ∷ Name v ∷ Sign s.Open ∷ before (ps ++ (mark s.Close ∷ [])) mid) rest z
called n l d.Dot x v xs ps mid rest z at_xs e =
    reads_phrase g.dot (reads_sign (reads_name (reads_phrase g.dot_call (reads_opening takes_opening (bracketed n l (CallArguments d.Dot x v) s.Close ps (t.Call d.Dot x v xs) mid at_xs) e) reads_done))) reads_done
called n l d.Arrow x v xs ps mid rest z at_xs e =
    reads_phrase g.arrow (reads_sign (reads_name (reads_opening takes_opening (bracketed n l (CallArguments d.Arrow x v) s.Close ps (t.Call d.Arrow x v xs) mid at_xs) e))) reads_done

-- ---- every tree

-- the elements, or the arguments, that follow some
abbrev MoreElements : Trees → Type 0
MoreElements xs = (n l : ℕ) → element_openings xs ≤ n → element_lambdas xs ≤ l → (k : CollectionKind) (ys : Trees) (mid : List Token) →
    ReadsTo n l (ElementMore k ys) (element_pieces true xs) mid (t.Collection k (joined ys xs))

abbrev MoreArguments : Arguments → Type 0
MoreArguments xs = (n l : ℕ) → argument_openings xs ≤ n → argument_lambdas xs ≤ l → (d : CallKind) (r : Tree) (v : List ℕ) (ys : Arguments) (mid : List Token) →
    ReadsTo n l (ArgumentMore d r v ys) (argument_pieces true xs) mid (t.Call d r v (added ys xs))

-- all of them
abbrev AllElements : Trees → Type 0
AllElements xs = (n l : ℕ) → element_openings xs ≤ n → element_lambdas xs ≤ l → (k : CollectionKind) (mid : List Token) →
    ReadsTo n l (Elements k) (element_pieces false xs) mid (t.Collection k xs)

abbrev AllArguments : Arguments → Type 0
AllArguments xs = (n l : ℕ) → argument_openings xs ≤ n → argument_lambdas xs ≤ l → (d : CallKind) (r : Tree) (v : List ℕ) (mid : List Token) →
    ReadsTo n l (CallArguments d r v) (argument_pieces false xs) mid (t.Call d r v xs)

module _ (n l : ℕ) (o : BinaryOperator) (x y : Tree) (below : openings_of (t.Binary o x y) ≤ n) (within : lambdas_of (t.Binary o x y) ≤ l) (at_x : Bare x) (at_y : Bare y) where
  left_begun : Begun n l (left_of o) x (left_pieces o x)
  unfolding openings_of lambdas_of
  left_begun = placed (left_of o) x at_x n l (left_most _ _ n below) (left_most _ _ l within)

  left_whole : (mid : List Token) → ReadsTo n l (phrase_at (left_of o)) (left_pieces o x) mid x
  unfolding openings_of lambdas_of
  left_whole = wanted (left_of o) x at_x n l (left_most _ _ n below) (left_most _ _ l within)

  right_whole : (mid : List Token) → ReadsTo n l (phrase_at (right_of o)) (right_pieces o y) mid y
  unfolding openings_of lambdas_of
  right_whole = wanted (right_of o) y at_y n l (right_most _ _ n below) (right_most _ _ l within)

binary : (o : BinaryOperator) (x y : Tree) → Bare x → Bare y → Bare (t.Binary o x y)
unfolding pieces openings_of lambdas_of
binary b.Implies x y at_x at_y n l h k = chained n l b.Implies x y
    (left_begun n l b.Implies x y h k at_x at_y) (right_whole n l b.Implies x y h k at_x at_y)
    (λ text mid rest z e d. reads_phrase g.implies_more (reads_sign (join e d)) reads_done)
binary b.Or x y at_x at_y n l h k = chained n l b.Or x y
    (left_begun n l b.Or x y h k at_x at_y) (right_whole n l b.Or x y h k at_x at_y)
    (λ text mid rest z e d. reads_phrase g.or_more (reads_sign (join e d)) reads_done)
binary b.Xor x y at_x at_y n l h k = chained n l b.Xor x y
    (left_begun n l b.Xor x y h k at_x at_y) (right_whole n l b.Xor x y h k at_x at_y)
    (λ text mid rest z e d. reads_phrase g.xor_more (reads_sign (join e d)) reads_done)
binary b.And x y at_x at_y n l h k = chained n l b.And x y
    (left_begun n l b.And x y h k at_x at_y) (right_whole n l b.And x y h k at_x at_y)
    (λ text mid rest z e d. reads_phrase g.and_more (reads_sign (join e d)) reads_done)
binary b.Equal x y at_x at_y n l h k = compared n l s.Equal x y (t.Binary b.Equal x y) (left_pieces b.Equal x) (right_pieces b.Equal y)
    (left_whole n l b.Equal x y h k at_x at_y) (right_whole n l b.Equal x y h k at_x at_y)
    (λ text mid e. reads_phrase g.equal (reads_sign (join e reads_done)) reads_done)
binary b.NotEqual x y at_x at_y n l h k = compared n l s.NotEqual x y (t.Binary b.NotEqual x y) (left_pieces b.NotEqual x) (right_pieces b.NotEqual y)
    (left_whole n l b.NotEqual x y h k at_x at_y) (right_whole n l b.NotEqual x y h k at_x at_y)
    (λ text mid e. reads_phrase g.not_equal (reads_sign (join e reads_done)) reads_done)
binary b.Less x y at_x at_y n l h k = compared n l s.Less x y (t.Binary b.Less x y) (left_pieces b.Less x) (right_pieces b.Less y)
    (left_whole n l b.Less x y h k at_x at_y) (right_whole n l b.Less x y h k at_x at_y)
    (λ text mid e. reads_phrase g.less (reads_sign (join e reads_done)) reads_done)
binary b.LessEqual x y at_x at_y n l h k = compared n l s.LessEqual x y (t.Binary b.LessEqual x y) (left_pieces b.LessEqual x) (right_pieces b.LessEqual y)
    (left_whole n l b.LessEqual x y h k at_x at_y) (right_whole n l b.LessEqual x y h k at_x at_y)
    (λ text mid e. reads_phrase g.less_equal (reads_sign (join e reads_done)) reads_done)
binary b.Greater x y at_x at_y n l h k = compared n l s.Greater x y (t.Binary b.Greater x y) (left_pieces b.Greater x) (right_pieces b.Greater y)
    (left_whole n l b.Greater x y h k at_x at_y) (right_whole n l b.Greater x y h k at_x at_y)
    (λ text mid e. reads_phrase g.greater (reads_sign (join e reads_done)) reads_done)
binary b.GreaterEqual x y at_x at_y n l h k = compared n l s.GreaterEqual x y (t.Binary b.GreaterEqual x y) (left_pieces b.GreaterEqual x) (right_pieces b.GreaterEqual y)
    (left_whole n l b.GreaterEqual x y h k at_x at_y) (right_whole n l b.GreaterEqual x y h k at_x at_y)
    (λ text mid e. reads_phrase g.greater_equal (reads_sign (join e reads_done)) reads_done)
binary b.Add x y at_x at_y n l h k = chained n l b.Add x y
    (left_begun n l b.Add x y h k at_x at_y) (right_whole n l b.Add x y h k at_x at_y)
    (λ text mid rest z e d. reads_phrase g.plus (reads_sign (join e d)) reads_done)
binary b.Subtract x y at_x at_y n l h k = chained n l b.Subtract x y
    (left_begun n l b.Subtract x y h k at_x at_y) (right_whole n l b.Subtract x y h k at_x at_y)
    (λ text mid rest z e d. reads_phrase g.minus (reads_sign (join e d)) reads_done)
binary b.Multiply x y at_x at_y n l h k = chained n l b.Multiply x y
    (left_begun n l b.Multiply x y h k at_x at_y) (right_whole n l b.Multiply x y h k at_x at_y)
    (λ text mid rest z e d. reads_phrase g.times (reads_sign (join e d)) reads_done)
binary b.Divide x y at_x at_y n l h k = chained n l b.Divide x y
    (left_begun n l b.Divide x y h k at_x at_y) (right_whole n l b.Divide x y h k at_x at_y)
    (λ text mid rest z e d. reads_phrase g.div (reads_sign (join e d)) reads_done)

mutual
  unfolding pieces openings_of lambdas_of

  bare : (x : Tree) → Bare x
  bare (t.Integer i) n l h k mid rest z d = reads_phrase g.integer (reads_sign reads_done) d
  bare (t.Text v) n l h k mid rest z d = reads_phrase g.text (reads_sign reads_done) d
  bare (t.Const c.Null) n l h k mid rest z d = reads_phrase g.null (reads_sign reads_done) d
  bare (t.Const c.True) n l h k mid rest z d = reads_phrase g.true (reads_sign reads_done) d
  bare (t.Const c.False) n l h k mid rest z d = reads_phrase g.false (reads_sign reads_done) d
  bare (t.Variable v) n l h k mid rest z d = reads_phrase g.named (reads_name (reads_phrase g.variable reads_done reads_done)) d
  bare (t.Literal p e v) n l h k mid rest z d = reads_phrase g.named (reads_name (reads_phrase g.literal (reads_sign (reads_name (reads_sign (reads_name reads_done)))) reads_done)) d
  bare (t.Collection k.Sequence xs) zero l h i mid rest z d = absurd (omega (arith, h))
  bare (t.Collection k.Sequence xs) (suc n) l h i mid rest z d =
      reads_phrase g.sequence (reads_sign (reads_opening takes_opening (bracketed n l (Elements k.Sequence) s.CloseBrace (element_pieces false xs) (t.Collection k.Sequence xs) mid (elements xs n l (omega (arith, h)) i k.Sequence)) reads_done)) d
  bare (t.Collection k.OrderedSet xs) zero l h i mid rest z d = absurd (omega (arith, h))
  bare (t.Collection k.OrderedSet xs) (suc n) l h i mid rest z d =
      reads_phrase g.ordered_set (reads_sign (reads_opening takes_opening (bracketed n l (Elements k.OrderedSet) s.CloseBrace (element_pieces false xs) (t.Collection k.OrderedSet xs) mid (elements xs n l (omega (arith, h)) i k.OrderedSet)) reads_done)) d
  bare (t.Unary u.Not x) zero l h k mid rest z d = absurd (omega (arith, h))
  bare (t.Unary u.Not x) (suc n) l h k mid rest z d =
      reads_phrase g.not (reads_opening takes_opening (join (wanted at.Neg x (bare x) n l (omega (arith, h)) k mid) reads_done) reads_done) d
  bare (t.Unary u.Negate x) zero l h k mid rest z d = absurd (omega (arith, h))
  bare (t.Unary u.Negate x) (suc n) l h k mid rest z d =
      reads_phrase g.negate (reads_opening takes_opening (join (wanted at.Unary x (bare x) n l (omega (arith, h)) k mid) reads_done) reads_done) d
  bare (t.Binary o x y) n l h k mid rest z d = binary o x y (bare x) (bare y) n l h k mid rest z d
  bare (t.If x y z) zero l h k mid rest w d = absurd (omega (arith, h))
  bare (t.If x y z) (suc n) l h k mid rest w d =
      let below : max (openings_of x) (max (openings_of y) (openings_of z)) ≤ n = omega (arith, h) in
      reads_phrase g.if (reads_opening takes_opening (if_inside n l x y z (pieces x) (pieces y) (pieces z) mid
      (anywhere x (bare x) n l (left_most _ _ n below) (left_most _ _ l k))
      (anywhere y (bare y) n l (left_most _ _ n (right_most _ _ n below)) (left_most _ _ l (right_most _ _ l k)))
      (anywhere z (bare z) n l (right_most _ _ n (right_most _ _ n below)) (right_most _ _ l (right_most _ _ l k)))) reads_done) d
  bare (t.Let v x y) zero l h k mid rest w d = absurd (omega (arith, h))
  bare (t.Let v x y) (suc n) l h k mid rest w d =
      let below : max (openings_of x) (openings_of y) ≤ n = omega (arith, h) in
      reads_phrase g.let_in (reads_opening takes_opening (reads_name (reads_sign (let_inside n l v x y (pieces x) (pieces y) mid
      (anywhere x (bare x) n l (left_most _ _ n below) (left_most _ _ l k))
      (anywhere y (bare y) n l (right_most _ _ n below) (right_most _ _ l k))))) reads_done) d
  bare (t.Feature x v) n l h k mid rest z d =
      subst (λ w. Reads n l (last Post) w rest z) (sym (before_append (standing at.Post x (pieces x)) (mark s.Dot ∷ token (Name v) ∷ []) mid))
      (placed at.Post x (bare x) n l h k (Sign s.Dot ∷ Name v ∷ mid) rest z
      (reads_phrase g.dot (reads_sign (reads_name (reads_phrase g.feature d reads_done))) reads_done))
  bare (t.Call o x v xs) zero l h k mid rest z d = absurd (omega (arith, right_most _ _ zero h))
  bare (t.Call o x v xs) (suc n) l h k mid rest z d =
      subst (λ w. Reads (suc n) l (last Post) w rest z) (sym (before_append (standing at.Post x (pieces x)) _ mid))
      (placed at.Post x (bare x) (suc n) l (left_most _ _ (suc n) h) (left_most _ _ l k) (Sign (link_of o) ∷ Name v ∷ Sign s.Open ∷ before (argument_pieces false xs ++ (mark s.Close ∷ [])) mid) rest z
      (called n l o x v xs (argument_pieces false xs) mid rest z (arguments xs n l (omega (arith, right_most _ _ (suc n) h)) (right_most _ _ l k) o x v) d))

  elements : (xs : Trees) → AllElements xs
  elements no_trees n l h i k mid = reads_phrase g.no_element reads_done reads_done
  elements (trees x xs) n l h i k mid =
      reads_phrase g.first_element (read_element n l k no_trees x (element_pieces true xs) mid (t.Collection k (trees x xs)) (anywhere x (bare x)) (left_most _ _ n h) (left_most _ _ l i)
      (subst (λ w. ReadsTo n l (ElementMore k (trees x no_trees)) (element_pieces true xs) mid (t.Collection k w)) (joined_all (trees x xs))
      (more_elements xs n l (right_most _ _ n h) (right_most _ _ l i) k (trees x no_trees) mid))) reads_done

  more_elements : (xs : Trees) → MoreElements xs
  more_elements no_trees n l h i k ys mid = reads_phrase g.elements_end reads_done reads_done
  more_elements (trees x xs) n l h i k ys mid =
      reads_phrase g.next_element (reads_sign (read_element n l k ys x (element_pieces true xs) mid (t.Collection k (joined (with_tree ys x) xs)) (anywhere x (bare x)) (left_most _ _ n h) (left_most _ _ l i)
      (more_elements xs n l (right_most _ _ n h) (right_most _ _ l i) k (with_tree ys x) mid))) reads_done

  arguments : (xs : Arguments) → AllArguments xs
  arguments no_arguments n l h i d r v mid = reads_phrase g.no_argument reads_done reads_done
  arguments (lambda w x xs) n l h i d r v mid =
      reads_phrase g.first_argument (read_lambda n l d r v no_arguments w x (argument_pieces true xs) mid (t.Call d r v (lambda w x xs)) (anywhere x (bare x)) (left_most _ _ n h) (left_most _ _ l i)
      (subst (λ e. ReadsTo n l (ArgumentMore d r v (lambda w x no_arguments)) (argument_pieces true xs) mid (t.Call d r v e)) (added_all (lambda w x xs))
      (more_arguments xs n l (right_most _ _ n h) (right_most _ _ l i) d r v (lambda w x no_arguments) mid))) reads_done
  arguments (type_named p c xs) n l h i d r v mid =
      reads_phrase g.first_argument (read_type n l d r v no_arguments p c (argument_pieces true xs) mid (t.Call d r v (type_named p c xs))
      (subst (λ e. ReadsTo n l (ArgumentMore d r v (type_named p c no_arguments)) (argument_pieces true xs) mid (t.Call d r v e)) (added_all (type_named p c xs))
      (more_arguments xs n l h i d r v (type_named p c no_arguments) mid))) reads_done
  arguments (expression x xs) n l h i d r v mid =
      reads_phrase g.first_argument (read_expression n l d r v no_arguments x (argument_pieces true xs) mid (t.Call d r v (expression x xs)) (anywhere x (bare x)) (left_most _ _ n h) (left_most _ _ l i)
      (subst (λ e. ReadsTo n l (ArgumentMore d r v (expression x no_arguments)) (argument_pieces true xs) mid (t.Call d r v e)) (added_all (expression x xs))
      (more_arguments xs n l (right_most _ _ n h) (right_most _ _ l i) d r v (expression x no_arguments) mid))) reads_done

  more_arguments : (xs : Arguments) → MoreArguments xs
  more_arguments no_arguments n l h i d r v ys mid = reads_phrase g.arguments_end reads_done reads_done
  more_arguments (lambda w x xs) n l h i d r v ys mid =
      reads_phrase g.next_argument (reads_sign (read_lambda n l d r v ys w x (argument_pieces true xs) mid _ (anywhere x (bare x)) (left_most _ _ n h) (left_most _ _ l i)
      (more_arguments xs n l (right_most _ _ n h) (right_most _ _ l i) d r v (with_lambda ys w x) mid))) reads_done
  more_arguments (type_named p c xs) n l h i d r v ys mid =
      reads_phrase g.next_argument (reads_sign (read_type n l d r v ys p c (argument_pieces true xs) mid _ (more_arguments xs n l h i d r v (with_type ys p c) mid))) reads_done
  more_arguments (expression x xs) n l h i d r v ys mid =
      reads_phrase g.next_argument (reads_sign (read_expression n l d r v ys x (argument_pieces true xs) mid _ (anywhere x (bare x)) (left_most _ _ n h) (left_most _ _ l i)
      (more_arguments xs n l (right_most _ _ n h) (right_most _ _ l i) d r v (with_expression ys x) mid))) reads_done

-- the canonical tokens spell the tree within all bounds that are not below its least ones
pub spelled_within : (x : Tree) (n l : ℕ) → openings_of x ≤ n → lambdas_of x ≤ l → Spells n l (canon x) x
spelled_within x n l h k = subst (λ w. Spells n l w x) (before_nothing (pieces x)) (anywhere x (bare x) n l h k [])

same_bound : (n : ℕ) → n ≤ n
same_bound n = omega arith

pub spelled : (x : Tree) → Spells (openings_of x) (lambdas_of x) (canon x) x
spelled x = spelled_within x (openings_of x) (lambdas_of x) (same_bound (openings_of x)) (same_bound (lambdas_of x))
