-- The canonical spelling of a tree whose names, integers and texts are within their bounds has its canonical tokens.
use Rattle.std.proofs.Common.{◌≡◌, ℕ, List, [], ◌∷◌, ◌++◌, Bool, true, false, inl, inr, refl, sym, subst, append_assoc, append-nil}
use Rattle.std.specs.Prelude.{⊤}
use Rattle.std.specs.List.{list_all}
use Rattle.std.proofs.lemmas.Bool.{and_parts}
use Rattle.wb_aql_grammar.specs.Tree.{Tree, Trees, Arguments, no_trees, trees, no_arguments, lambda, type_named, expression}
use Rattle.wb_aql_grammar.specs.Tree as t
use Rattle.wb_aql_tokens.specs.Lexes.{is_within, Lexes}
use Rattle.wb_aql_syntax.specs.Canonical.{Piece, blank, token, mark, apart, left_of, right_of, sign_of, enclosed, stands, standing, tightness, pieces, element_pieces, argument_pieces, tokens_in, canon}
use Rattle.wb_aql_syntax.specs.Printed.{printed, is_writable}
use Rattle.wb_aql_tokens.specs.declared.token.Token.{Token}
use Rattle.wb_aql_tokens.specs.declared.token.Token.TheVariants.{Sign, Name, Integer, Quoted}
use Rattle.wb_aql_tokens.specs.declared.token.Sign.{Sign as SignName}
use Rattle.wb_aql_tokens.specs.declared.token.Sign.TheVariants as s
use Rattle.wb_aql_grammar.specs.declared.expr.Constant.TheVariants as c
use Rattle.wb_aql_grammar.specs.declared.expr.CollectionKind.TheVariants as k
use Rattle.wb_aql_grammar.specs.declared.expr.Unary.TheVariants as u
use Rattle.wb_aql_grammar.specs.declared.expr.CallKind.TheVariants as d
use Rattle.wb_aql_syntax.specs.declared.tightness.Tightness.{Tightness}
use Rattle.wb_aql_syntax.specs.declared.tightness.Tightness.TheVariants as at
use Rattle.wb_aql_syntax.proofs.Touching.{Spelled, spelled_name, spelled_integer, spelled_text, closes, begin, opener, Joins, Fine, lexes_fine}

-- ---- tokens within their bounds

abbrev Within : List Piece → Type 0
Within [] = ⊤
Within (blank ∷ ps) = Within ps
Within (token a ∷ ps) = (is_within a ≡ true) × Within ps

within_parts : (ps qs : List Piece) → Within (ps ++ qs) → Within ps × Within qs
within_parts [] qs w = (tt, w)
within_parts (blank ∷ ps) qs w = within_parts ps qs w
within_parts (token a ∷ ps) qs w = let v = within_parts ps qs w.1 in ((w.0, v.0), v.1)

within_all : (ps : List Piece) → list_all is_within (tokens_in ps) ≡ true → Within ps
within_all [] h = tt
within_all (blank ∷ ps) h = within_all ps h
within_all (token a ∷ ps) h = let v = and_parts _ _ h in (v.0, within_all ps v.1)

within_enclosed : (yes : Bool) (ps : List Piece) → Within (enclosed yes ps) → Within ps
within_enclosed true ps w = w
within_enclosed false ps w = (within_parts ps (mark s.Close ∷ []) w.1).0

-- ---- pieces that stand for an expression

-- they begin as one, and are fine before whatever may close one
pub record Good (ps : List Piece) : Type 0 where
  pub first : (rest : List Piece) → begin (ps ++ rest) ≡ true
  pub fine : (rest : List Piece) → closes rest ≡ true → Fine rest → Fine (ps ++ rest)

-- behind an expression
behind : (ps qs rest : List Piece) → Good ps → closes (qs ++ rest) ≡ true → Fine (qs ++ rest) → Fine ((ps ++ qs) ++ rest)
behind ps qs rest g h f = subst Fine (sym (append_assoc ps qs rest)) (g.fine (qs ++ rest) h f)

first_of : (ps qs rest : List Piece) → Good ps → begin ((ps ++ qs) ++ rest) ≡ true
first_of ps qs rest g = subst (λ xs. begin xs ≡ true) (sym (append_assoc ps qs rest)) (g.first (qs ++ rest))

good_one : (a : Token) → begin (token a ∷ []) ≡ true → Spelled a → Good (token a ∷ [])
good_one a e h = record { first = λ rest. e; fine = λ rest closing f. (h, inl closing, f) }

good_enclosed : (yes : Bool) (ps : List Piece) → Good ps → Good (enclosed yes ps)
good_enclosed true ps g = g
good_enclosed false ps g = record {
  first = λ rest. refl;
  fine = λ rest closing f. ((refl, refl), inr (refl, first_of ps (mark s.Close ∷ []) rest g), behind ps (mark s.Close ∷ []) rest g refl ((refl, refl), inl closing, f));
}

good_standing : (p : Tightness) (x : Tree) → Good (pieces x) → Good (standing p x (pieces x))
good_standing p x = good_enclosed (stands p (tightness x)) (pieces x)

within_standing : (p : Tightness) (x : Tree) → Within (standing p x (pieces x)) → Within (pieces x)
within_standing p x = within_enclosed (stands p (tightness x)) (pieces x)

-- a sign or a word with blanks on either side, between two
good_between : (a : SignName) (ps qs : List Piece) → Good ps → Good qs → Good (ps ++ (apart a ++ qs))
good_between a ps qs g h = record {
  first = λ rest. first_of ps (apart a ++ qs) rest g;
  fine = λ rest closing f. behind ps (apart a ++ qs) rest g refl ((refl, refl), inl refl, h.fine rest closing f);
}

-- behind a word and a blank
good_word : (a : SignName) (ps : List Piece) → begin (mark a ∷ []) ≡ true → Good ps → Good (mark a ∷ blank ∷ ps)
good_word a ps e g = record { first = λ rest. e; fine = λ rest closing f. ((refl, refl), inl refl, g.fine rest closing f) }

good_minus : (ps : List Piece) → Good ps → Good (mark s.Minus ∷ ps)
good_minus ps g = record { first = λ rest. refl; fine = λ rest closing f. ((refl, refl), inr (refl, g.first rest), g.fine rest closing f) }

-- before a blank and a word that ends it
good_end : (a : SignName) (ps : List Piece) → Good ps → Good (ps ++ (blank ∷ mark a ∷ []))
good_end a ps g = record {
  first = λ rest. first_of ps (blank ∷ mark a ∷ []) rest g;
  fine = λ rest closing f. behind ps (blank ∷ mark a ∷ []) rest g refl ((refl, refl), inl closing, f);
}

good_feature : (ps : List Piece) (v : List ℕ) → Good ps → is_within (Name v) ≡ true → Good (ps ++ (mark s.Dot ∷ token (Name v) ∷ []))
good_feature ps v g w = record {
  first = λ rest. first_of ps (mark s.Dot ∷ token (Name v) ∷ []) rest g;
  fine = λ rest closing f. behind ps (mark s.Dot ∷ token (Name v) ∷ []) rest g refl ((refl, refl), inr (refl, refl), (spelled_name v w, inl closing, f));
}

-- ---- elements and arguments, before the bracket that ends them

-- what stands behind the opening bracket; and behind those before
abbrev Inside : List Piece → Type 0
Inside ps = (tail : List Piece) → closes tail ≡ true → Fine tail → ((a : Token) → opener a ≡ true → Joins a (ps ++ tail)) × Fine (ps ++ tail)

abbrev More : List Piece → Type 0
More ps = (tail : List Piece) → closes tail ≡ true → Fine tail → (closes (ps ++ tail) ≡ true) × Fine (ps ++ tail)

-- an expression, and more behind it
inside_then : (ps qs : List Piece) → Good ps → More qs → Inside (ps ++ qs)
inside_then ps qs g m tail closing f = let v = m tail closing f in (λ a o. inr (o, first_of ps qs tail g), behind ps qs tail g v.0 v.1)

-- behind a comma
more_then : (ps : List Piece) → Inside ps → More (mark s.Comma ∷ blank ∷ ps)
more_then ps i tail closing f = (refl, ((refl, refl), inl refl, (i tail closing f).1))

inside_lambda : (v : List ℕ) (ps qs : List Piece) → is_within (Name v) ≡ true → Good ps → More qs → Inside (token (Name v) ∷ (apart s.Bar ++ (ps ++ qs)))
inside_lambda v ps qs w g m tail closing f =
    let u = m tail closing f in (λ a o. inr (o, refl), (spelled_name v w, inl refl, ((refl, refl), inl refl, behind ps qs tail g u.0 u.1)))

inside_type : (p n : List ℕ) (qs : List Piece) → is_within (Name p) ≡ true → is_within (Name n) ≡ true → More qs → Inside (token (Name p) ∷ mark s.Colons ∷ token (Name n) ∷ qs)
inside_type p n qs w v m tail closing f =
    let u = m tail closing f in (λ a o. inr (o, refl), (spelled_name p w, inl refl, ((refl, refl), inr (refl, refl), (spelled_name n v, inl u.0, u.1))))

nothing_inside : Inside []
nothing_inside tail closing f = (λ a o. inl closing, f)

nothing_more : More []
nothing_more tail closing f = (closing, f)

-- the brackets round them, behind what has to stand before the opening one
closing_bracket : (b : SignName) (ps rest : List Piece) → closes (mark b ∷ []) ≡ true → Inside ps → closes rest ≡ true → Fine rest → ((a : Token) → opener a ≡ true → Joins a ((ps ++ (mark b ∷ [])) ++ rest)) × Fine ((ps ++ (mark b ∷ [])) ++ rest)
closing_bracket b ps rest e i closing f =
    let u = i (mark b ∷ rest) e ((refl, refl), inl closing, f) in
    (λ a o. subst (Joins a) (sym (append_assoc ps (mark b ∷ []) rest)) (u.0 a o), subst Fine (sym (append_assoc ps (mark b ∷ []) rest)) u.1)

good_collection : (a : SignName) (ps : List Piece) → begin (mark a ∷ []) ≡ true → Inside ps → Good (mark a ∷ mark s.OpenBrace ∷ (ps ++ (mark s.CloseBrace ∷ [])))
good_collection a ps e i = record {
  first = λ rest. e;
  fine = λ rest closing f. let u = closing_bracket s.CloseBrace ps rest refl i closing f in ((refl, refl), inl refl, ((refl, refl), u.0 (Sign s.OpenBrace) refl, u.1));
}

good_call : (d : SignName) (xs ps : List Piece) (v : List ℕ) → closes (mark d ∷ []) ≡ true → opener (Sign d) ≡ true → Good xs → is_within (Name v) ≡ true → Inside ps → Good (xs ++ (mark d ∷ token (Name v) ∷ mark s.Open ∷ (ps ++ (mark s.Close ∷ []))))
good_call d xs ps v e o g w i = record {
  first = λ rest. first_of xs (mark d ∷ token (Name v) ∷ mark s.Open ∷ (ps ++ (mark s.Close ∷ []))) rest g;
  fine = λ rest closing f.
      let u = closing_bracket s.Close ps rest refl i closing f in
      behind xs (mark d ∷ token (Name v) ∷ mark s.Open ∷ (ps ++ (mark s.Close ∷ []))) rest g e
      ((refl, refl), inr (o, refl), (spelled_name v w, inl refl, ((refl, refl), u.0 (Sign s.Open) refl, u.1)));
}

good_literal : (p e v : List ℕ) → is_within (Name p) ≡ true → is_within (Name e) ≡ true → is_within (Name v) ≡ true →
    Good (token (Name p) ∷ mark s.Colons ∷ token (Name e) ∷ mark s.Colons ∷ token (Name v) ∷ [])
good_literal p e v a b c = record {
  first = λ rest. refl;
  fine = λ rest closing f. (spelled_name p a, inl refl, ((refl, refl), inr (refl, refl), (spelled_name e b, inl refl, ((refl, refl), inr (refl, refl), (spelled_name v c, inl closing, f)))));
}

good_let : (v : List ℕ) (ps : List Piece) → is_within (Name v) ≡ true → Good ps → Good (mark s.Let ∷ blank ∷ token (Name v) ∷ (apart s.Equal ++ ps))
good_let v ps w g = record {
  first = λ rest. refl;
  fine = λ rest closing f. ((refl, refl), inl refl, (spelled_name v w, inl refl, ((refl, refl), inl refl, g.fine rest closing f)));
}

-- ---- every tree

mutual
  unfolding pieces

  good : (x : Tree) → Within (pieces x) → Good (pieces x)
  good (t.Integer n) w = good_one (Integer n) refl (spelled_integer n w.0)
  good (t.Text v) w = good_one (Quoted v) refl (spelled_text v w.0)
  good (t.Const c.Null) w = good_one (Sign s.Null) refl (refl, refl)
  good (t.Const c.True) w = good_one (Sign s.True) refl (refl, refl)
  good (t.Const c.False) w = good_one (Sign s.False) refl (refl, refl)
  good (t.Variable v) w = good_one (Name v) refl (spelled_name v w.0)
  good (t.Literal p e v) w = good_literal p e v w.0 w.1.1.0 w.1.1.1.1.0
  good (t.Collection k.Sequence xs) w = good_collection s.Sequence (element_pieces false xs) refl (elements xs (within_parts (element_pieces false xs) (mark s.CloseBrace ∷ []) w.1.1).0)
  good (t.Collection k.OrderedSet xs) w = good_collection s.OrderedSet (element_pieces false xs) refl (elements xs (within_parts (element_pieces false xs) (mark s.CloseBrace ∷ []) w.1.1).0)
  good (t.Unary u.Not x) w = good_word s.Not (standing at.Neg x (pieces x)) refl (good_standing at.Neg x (good x (within_standing at.Neg x w.1)))
  good (t.Unary u.Negate x) w = good_minus (standing at.Unary x (pieces x)) (good_standing at.Unary x (good x (within_standing at.Unary x w.1)))
  good (t.Binary o x y) w =
      let v = within_parts (standing (left_of o) x (pieces x)) (apart (sign_of o) ++ standing (right_of o) y (pieces y)) w in
      good_between (sign_of o) (standing (left_of o) x (pieces x)) (standing (right_of o) y (pieces y))
      (good_standing (left_of o) x (good x (within_standing (left_of o) x v.0))) (good_standing (right_of o) y (good y (within_standing (right_of o) y v.1.1)))
  good (t.If x y z) w =
      let last = blank ∷ mark s.Endif ∷ [] in
      let v = within_parts (pieces x) (apart s.Then ++ (pieces y ++ (apart s.Else ++ (pieces z ++ last)))) w.1 in
      let a = within_parts (pieces y) (apart s.Else ++ (pieces z ++ last)) v.1.1 in
      let e = within_parts (pieces z) last a.1.1 in
      good_word s.If (pieces x ++ (apart s.Then ++ (pieces y ++ (apart s.Else ++ (pieces z ++ last))))) refl
      (good_between s.Then (pieces x) (pieces y ++ (apart s.Else ++ (pieces z ++ last))) (good x v.0)
      (good_between s.Else (pieces y) (pieces z ++ last) (good y a.0) (good_end s.Endif (pieces z) (good z e.0))))
  good (t.Let v x y) w =
      let a = within_parts (pieces x) (apart s.In ++ pieces y) w.1.1.1 in
      good_let v (pieces x ++ (apart s.In ++ pieces y)) w.1.0 (good_between s.In (pieces x) (pieces y) (good x a.0) (good y a.1.1))
  good (t.Feature x v) w =
      let a = within_parts (standing at.Post x (pieces x)) (mark s.Dot ∷ token (Name v) ∷ []) w in
      good_feature (standing at.Post x (pieces x)) v (good_standing at.Post x (good x (within_standing at.Post x a.0))) a.1.1.0
  good (t.Call d.Dot x v xs) w =
      let a = within_parts (standing at.Post x (pieces x)) (mark s.Dot ∷ token (Name v) ∷ mark s.Open ∷ (argument_pieces false xs ++ (mark s.Close ∷ []))) w in
      good_call s.Dot (standing at.Post x (pieces x)) (argument_pieces false xs) v refl refl (good_standing at.Post x (good x (within_standing at.Post x a.0))) a.1.1.0
      (arguments xs (within_parts (argument_pieces false xs) (mark s.Close ∷ []) a.1.1.1.1).0)
  good (t.Call d.Arrow x v xs) w =
      let a = within_parts (standing at.Post x (pieces x)) (mark s.Arrow ∷ token (Name v) ∷ mark s.Open ∷ (argument_pieces false xs ++ (mark s.Close ∷ []))) w in
      good_call s.Arrow (standing at.Post x (pieces x)) (argument_pieces false xs) v refl refl (good_standing at.Post x (good x (within_standing at.Post x a.0))) a.1.1.0
      (arguments xs (within_parts (argument_pieces false xs) (mark s.Close ∷ []) a.1.1.1.1).0)

  elements : (xs : Trees) → Within (element_pieces false xs) → Inside (element_pieces false xs)
  elements no_trees w = nothing_inside
  elements (trees x xs) w =
      let v = within_parts (pieces x) (element_pieces true xs) w in
      inside_then (pieces x) (element_pieces true xs) (good x v.0) (more_elements xs v.1)

  more_elements : (xs : Trees) → Within (element_pieces true xs) → More (element_pieces true xs)
  more_elements no_trees w = nothing_more
  more_elements (trees x xs) w =
      let v = within_parts (pieces x) (element_pieces true xs) w.1 in
      more_then (pieces x ++ element_pieces true xs) (inside_then (pieces x) (element_pieces true xs) (good x v.0) (more_elements xs v.1))

  arguments : (xs : Arguments) → Within (argument_pieces false xs) → Inside (argument_pieces false xs)
  arguments no_arguments w = nothing_inside
  arguments (lambda v x xs) w =
      let a = within_parts (pieces x) (argument_pieces true xs) w.1.1 in
      inside_lambda v (pieces x) (argument_pieces true xs) w.0 (good x a.0) (more_arguments xs a.1)
  arguments (type_named p n xs) w = inside_type p n (argument_pieces true xs) w.0 w.1.1.0 (more_arguments xs w.1.1.1)
  arguments (expression x xs) w =
      let a = within_parts (pieces x) (argument_pieces true xs) w in
      inside_then (pieces x) (argument_pieces true xs) (good x a.0) (more_arguments xs a.1)

  more_arguments : (xs : Arguments) → Within (argument_pieces true xs) → More (argument_pieces true xs)
  more_arguments no_arguments w = nothing_more
  more_arguments (lambda v x xs) w =
      let a = within_parts (pieces x) (argument_pieces true xs) w.1.1.1 in
      more_then (token (Name v) ∷ (apart s.Bar ++ (pieces x ++ argument_pieces true xs))) (inside_lambda v (pieces x) (argument_pieces true xs) w.1.0 (good x a.0) (more_arguments xs a.1))
  more_arguments (type_named p n xs) w =
      more_then (token (Name p) ∷ mark s.Colons ∷ token (Name n) ∷ argument_pieces true xs) (inside_type p n (argument_pieces true xs) w.1.0 w.1.1.1.0 (more_arguments xs w.1.1.1.1))
  more_arguments (expression x xs) w =
      let a = within_parts (pieces x) (argument_pieces true xs) w.1 in
      more_then (pieces x ++ argument_pieces true xs) (inside_then (pieces x) (argument_pieces true xs) (good x a.0) (more_arguments xs a.1))

pub printed_lexes : (x : Tree) → is_writable x ≡ true → (starts : List ℕ) × Lexes 0 (printed x) (canon x) starts
printed_lexes x h = lexes_fine (pieces x) (subst Fine (append-nil (pieces x)) ((good x (within_all (pieces x) h)).fine [] refl tt)) 0
