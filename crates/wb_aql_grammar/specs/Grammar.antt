-- The grammar of the expression language, on tokens. It has one constructor of `Line` for each alternative of
-- a phrase, in the order of the tokens; `Reads` says what it is to read by such lines.
use Rattle.std.specs.Prelude.{ℕ, suc, List, [], ◌∷◌}
use Rattle.wb_aql_grammar.specs.Tree.{Tree, Trees, Arguments, no_trees, no_arguments, with_tree, with_lambda, with_type, with_expression}
use Rattle.wb_aql_grammar.specs.Tree as t
use Rattle.wb_aql_tokens.specs.declared.token.Token.{Token}
use Rattle.wb_aql_tokens.specs.declared.token.Token.TheVariants.{Sign, Name, Integer, Quoted}
use Rattle.wb_aql_tokens.specs.declared.token.Sign.TheVariants as s
use Rattle.wb_aql_grammar.specs.declared.expr.Constant.TheVariants as c
use Rattle.wb_aql_grammar.specs.declared.expr.CollectionKind.{CollectionKind}
use Rattle.wb_aql_grammar.specs.declared.expr.CollectionKind.TheVariants as k
use Rattle.wb_aql_grammar.specs.declared.expr.Unary.TheVariants as u
use Rattle.wb_aql_grammar.specs.declared.expr.Binary.TheVariants as b
use Rattle.wb_aql_grammar.specs.declared.expr.CallKind.{CallKind}
use Rattle.wb_aql_grammar.specs.declared.expr.CallKind.TheVariants as d

-- a sort of phrase; `..More x` is what may follow x, the tree of the phrase so far
pub data Phrase : Type 0 where
  Expr Implies Or Xor And Neg Cmp Sum Term Unary Post Atom : Phrase
  ImpliesMore OrMore XorMore AndMore CmpMore SumMore TermMore PostMore : Tree → Phrase
  -- behind the first name of an atom
  Named : List ℕ → Phrase
  -- behind `x.name`
  Featured : Tree → List ℕ → Phrase
  -- inside the parentheses of a call; an argument of it; what may follow its arguments so far
  CallArguments : CallKind → Tree → List ℕ → Phrase
  Argument ArgumentMore : CallKind → Tree → List ℕ → Arguments → Phrase
  -- the same of a collection
  Elements : CollectionKind → Phrase
  Element ElementMore : CollectionKind → Trees → Phrase

-- at most how many openings, and how many lambdas, may stand open at once
pub data Bound : Type 0 where
  openings lambdas : Bound

-- what remains to be read of a line of the grammar
pub data Rest : Type 0 where
  -- nothing more: the phrase has this tree
  done : Tree → Rest
  -- a sign or a word, and more
  sign : Token → Rest → Rest
  -- a name, and more
  name : (List ℕ → Rest) → Rest
  -- a phrase, and more
  phrase : Phrase → (Tree → Rest) → Rest
  -- a token that opens something, what stands inside it, and more behind its end
  opening : Bound → Token → Rest → (Tree → Rest) → Rest

-- the last phrase of a line, whose tree is that of the line
abbrev pub last : Phrase → Rest
last p = phrase p done

-- a phrase inside brackets
abbrev pub inside : Phrase → Token → Rest
inside p close = phrase p (λ x. sign close (done x))

-- the lines of the grammar
pub data Line : Phrase → Rest → Type 0 where
  -- expr = 'let' name '=' expr 'in' expr | implies
  let_in : Line Expr (opening openings (Sign s.Let)
      (name (λ v. sign (Sign s.Equal) (phrase Expr (λ x. sign (Sign s.In) (phrase Expr (λ y. done (t.Let v x y))))))) done)
  expr : Line Expr (last Implies)
  -- implies = or { 'implies' or }
  implies : Line Implies (phrase Or (λ x. last (ImpliesMore x)))
  implies_more : {x : Tree} → Line (ImpliesMore x) (sign (Sign s.Implies) (phrase Or (λ y. last (ImpliesMore (t.Binary b.Implies x y)))))
  implies_end : {x : Tree} → Line (ImpliesMore x) (done x)
  -- or = xor { 'or' xor }
  or : Line Or (phrase Xor (λ x. last (OrMore x)))
  or_more : {x : Tree} → Line (OrMore x) (sign (Sign s.Or) (phrase Xor (λ y. last (OrMore (t.Binary b.Or x y)))))
  or_end : {x : Tree} → Line (OrMore x) (done x)
  -- xor = and { 'xor' and }
  xor : Line Xor (phrase And (λ x. last (XorMore x)))
  xor_more : {x : Tree} → Line (XorMore x) (sign (Sign s.Xor) (phrase And (λ y. last (XorMore (t.Binary b.Xor x y)))))
  xor_end : {x : Tree} → Line (XorMore x) (done x)
  -- and = neg { 'and' neg }
  and : Line And (phrase Neg (λ x. last (AndMore x)))
  and_more : {x : Tree} → Line (AndMore x) (sign (Sign s.And) (phrase Neg (λ y. last (AndMore (t.Binary b.And x y)))))
  and_end : {x : Tree} → Line (AndMore x) (done x)
  -- neg = 'not' neg | cmp
  not : Line Neg (opening openings (Sign s.Not) (phrase Neg (λ x. done (t.Unary u.Not x))) done)
  neg : Line Neg (last Cmp)
  -- cmp = sum [ ( '=' | '<>' | '<' | '<=' | '>' | '>=' ) sum ]
  cmp : Line Cmp (phrase Sum (λ x. last (CmpMore x)))
  equal : {x : Tree} → Line (CmpMore x) (sign (Sign s.Equal) (phrase Sum (λ y. done (t.Binary b.Equal x y))))
  not_equal : {x : Tree} → Line (CmpMore x) (sign (Sign s.NotEqual) (phrase Sum (λ y. done (t.Binary b.NotEqual x y))))
  less : {x : Tree} → Line (CmpMore x) (sign (Sign s.Less) (phrase Sum (λ y. done (t.Binary b.Less x y))))
  less_equal : {x : Tree} → Line (CmpMore x) (sign (Sign s.LessEqual) (phrase Sum (λ y. done (t.Binary b.LessEqual x y))))
  greater : {x : Tree} → Line (CmpMore x) (sign (Sign s.Greater) (phrase Sum (λ y. done (t.Binary b.Greater x y))))
  greater_equal : {x : Tree} → Line (CmpMore x) (sign (Sign s.GreaterEqual) (phrase Sum (λ y. done (t.Binary b.GreaterEqual x y))))
  cmp_end : {x : Tree} → Line (CmpMore x) (done x)
  -- sum = term { ( '+' | '-' ) term }
  sum : Line Sum (phrase Term (λ x. last (SumMore x)))
  plus : {x : Tree} → Line (SumMore x) (sign (Sign s.Plus) (phrase Term (λ y. last (SumMore (t.Binary b.Add x y)))))
  minus : {x : Tree} → Line (SumMore x) (sign (Sign s.Minus) (phrase Term (λ y. last (SumMore (t.Binary b.Subtract x y)))))
  sum_end : {x : Tree} → Line (SumMore x) (done x)
  -- term = unary { ( '*' | 'div' ) unary }
  term : Line Term (phrase Unary (λ x. last (TermMore x)))
  times : {x : Tree} → Line (TermMore x) (sign (Sign s.Times) (phrase Unary (λ y. last (TermMore (t.Binary b.Multiply x y)))))
  div : {x : Tree} → Line (TermMore x) (sign (Sign s.Div) (phrase Unary (λ y. last (TermMore (t.Binary b.Divide x y)))))
  term_end : {x : Tree} → Line (TermMore x) (done x)
  -- unary = '-' unary | post
  negate : Line Unary (opening openings (Sign s.Minus) (phrase Unary (λ x. done (t.Unary u.Negate x))) done)
  unary : Line Unary (last Post)
  -- post = atom { '.' name [ '(' args ')' ] | '->' name '(' args ')' }
  post : Line Post (phrase Atom (λ x. last (PostMore x)))
  dot : {x : Tree} → Line (PostMore x) (sign (Sign s.Dot) (name (λ v. last (Featured x v))))
  arrow : {x : Tree} → Line (PostMore x) (sign (Sign s.Arrow) (name (λ v.
      opening openings (Sign s.Open) (inside (CallArguments d.Arrow x v) (Sign s.Close)) (λ y. last (PostMore y)))))
  post_end : {x : Tree} → Line (PostMore x) (done x)
  dot_call : {x : Tree} {v : List ℕ} → Line (Featured x v)
      (opening openings (Sign s.Open) (inside (CallArguments d.Dot x v) (Sign s.Close)) (λ y. last (PostMore y)))
  feature : {x : Tree} {v : List ℕ} → Line (Featured x v) (last (PostMore (t.Feature x v)))
  -- args = [ arg { ',' arg } ]
  no_argument : {d : CallKind} {x : Tree} {v : List ℕ} → Line (CallArguments d x v) (done (t.Call d x v no_arguments))
  first_argument : {d : CallKind} {x : Tree} {v : List ℕ} → Line (CallArguments d x v) (last (Argument d x v no_arguments))
  next_argument : {d : CallKind} {x : Tree} {v : List ℕ} {xs : Arguments} →
      Line (ArgumentMore d x v xs) (sign (Sign s.Comma) (last (Argument d x v xs)))
  arguments_end : {d : CallKind} {x : Tree} {v : List ℕ} {xs : Arguments} → Line (ArgumentMore d x v xs) (done (t.Call d x v xs))
  -- arg = name '|' expr | name '::' name | expr
  lambda : {d : CallKind} {x : Tree} {v : List ℕ} {xs : Arguments} → Line (Argument d x v xs)
      (name (λ w. opening lambdas (Sign s.Bar) (last Expr) (λ y. last (ArgumentMore d x v (with_lambda xs w y)))))
  class : {d : CallKind} {x : Tree} {v : List ℕ} {xs : Arguments} → Line (Argument d x v xs)
      (name (λ w. sign (Sign s.Colons) (name (λ n. last (ArgumentMore d x v (with_type xs w n))))))
  expression : {d : CallKind} {x : Tree} {v : List ℕ} {xs : Arguments} → Line (Argument d x v xs)
      (phrase Expr (λ y. last (ArgumentMore d x v (with_expression xs y))))
  -- atom = integer | text | 'null' | 'true' | 'false' | name [ '::' name '::' name ]
  integer : {n : ℕ} → Line Atom (sign (Integer n) (done (t.Integer n)))
  text : {v : List ℕ} → Line Atom (sign (Quoted v) (done (t.Text v)))
  null : Line Atom (sign (Sign s.Null) (done (t.Const c.Null)))
  true : Line Atom (sign (Sign s.True) (done (t.Const c.True)))
  false : Line Atom (sign (Sign s.False) (done (t.Const c.False)))
  named : Line Atom (name (λ v. last (Named v)))
  variable : {v : List ℕ} → Line (Named v) (done (t.Variable v))
  literal : {v : List ℕ} → Line (Named v) (sign (Sign s.Colons) (name (λ w. sign (Sign s.Colons) (name (λ n. done (t.Literal v w n))))))
  --      | '(' expr ')' | 'if' expr 'then' expr 'else' expr 'endif'
  parentheses : Line Atom (opening openings (Sign s.Open) (inside Expr (Sign s.Close)) done)
  if : Line Atom (opening openings (Sign s.If) (phrase Expr (λ x. sign (Sign s.Then) (phrase Expr (λ y. sign (Sign s.Else)
      (phrase Expr (λ z. sign (Sign s.Endif) (done (t.If x y z)))))))) done)
  --      | ( 'Sequence' | 'OrderedSet' ) '{' [ expr { ',' expr } ] '}'
  sequence : Line Atom (sign (Sign s.Sequence) (opening openings (Sign s.OpenBrace) (inside (Elements k.Sequence) (Sign s.CloseBrace)) done))
  ordered_set : Line Atom (sign (Sign s.OrderedSet) (opening openings (Sign s.OpenBrace) (inside (Elements k.OrderedSet) (Sign s.CloseBrace)) done))
  no_element : {k : CollectionKind} → Line (Elements k) (done (t.Collection k no_trees))
  first_element : {k : CollectionKind} → Line (Elements k) (last (Element k no_trees))
  element : {k : CollectionKind} {xs : Trees} → Line (Element k xs) (phrase Expr (λ y. last (ElementMore k (with_tree xs y))))
  next_element : {k : CollectionKind} {xs : Trees} → Line (ElementMore k xs) (sign (Sign s.Comma) (last (Element k xs)))
  elements_end : {k : CollectionKind} {xs : Trees} → Line (ElementMore k xs) (done (t.Collection k xs))

-- one opening, or one lambda, of those that may still be open is taken
pub data Takes : Bound → ℕ → ℕ → ℕ → ℕ → Type 0 where
  takes_opening : {n l : ℕ} → Takes openings (suc n) l n l
  takes_lambda : {n l : ℕ} → Takes lambdas n (suc l) n l

-- a front of the text is read by the rest of a line, with at most n openings and l lambdas open at once:
-- it gives the tree, and the second list of tokens is what follows
pub data Reads : ℕ → ℕ → Rest → List Token → List Token → Tree → Type 0 where
  reads_done : {n l : ℕ} {x : Tree} {text : List Token} → Reads n l (done x) text text x
  reads_sign : {n l : ℕ} {a : Token} {r : Rest} {text rest : List Token} {x : Tree} →
      Reads n l r text rest x → Reads n l (sign a r) (a ∷ text) rest x
  reads_name : {n l : ℕ} {v : List ℕ} {r : List ℕ → Rest} {text rest : List Token} {x : Tree} →
      Reads n l (r v) text rest x → Reads n l (name r) (Name v ∷ text) rest x
  reads_phrase : {n l : ℕ} {p : Phrase} {line : Rest} {r : Tree → Rest} {text more rest : List Token} {x y : Tree} →
      Line p line → Reads n l line text more y → Reads n l (r y) more rest x → Reads n l (phrase p r) text rest x
  reads_opening : {bound : Bound} {n l m k : ℕ} {a : Token} {i : Rest} {r : Tree → Rest} {text more rest : List Token} {x y : Tree} →
      Takes bound n l m k → Reads m k i text more y → Reads n l (r y) more rest x → Reads n l (opening bound a i r) (a ∷ text) rest x

-- the tokens spell the tree, with at most n openings and l lambdas open at once
abbrev pub Spells : ℕ → ℕ → List Token → Tree → Type 0
Spells n l tokens x = Reads n l (last Expr) tokens [] x
