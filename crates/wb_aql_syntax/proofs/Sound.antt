-- A tree that is read from tokens within their bounds has a canonical spelling of such tokens.
use Rattle.std.proofs.Common.{◌≡◌, ℕ, List, [], ◌∷◌, ◌++◌, Bool, true, false, refl}
use Rattle.std.specs.Prelude.{⊤}
use Rattle.std.specs.List.{list_all}
use Rattle.std.proofs.lemmas.Bool.{and_parts, and_from}
use Rattle.wb_aql_grammar.specs.Tree.{Tree, Trees, Arguments, no_trees, trees, no_arguments, lambda, type_named, expression, with_tree, with_lambda, with_type, with_expression}
use Rattle.wb_aql_grammar.specs.Tree as t
use Rattle.wb_aql_grammar.specs.Grammar.{Phrase, Unary, Post, ImpliesMore, OrMore, XorMore, AndMore, CmpMore, SumMore, TermMore, PostMore, Named, Featured, CallArguments, Argument, ArgumentMore, Element, ElementMore, Rest, done, sign, name, phrase, opening, last, Line, Reads, reads_done, reads_sign, reads_name, reads_phrase, reads_opening, Spells}
use Rattle.wb_aql_grammar.specs.Grammar as g
use Rattle.wb_aql_tokens.specs.Lexes.{is_within}
use Rattle.wb_aql_syntax.specs.Canonical.{Piece, blank, token, mark, apart, prefix, prefix_of, left_of, right_of, sign_of, link_of, comma_if, enclosed, stands, standing, tightness, pieces, element_pieces, argument_pieces, tokens_in}
use Rattle.wb_aql_syntax.specs.Printed.{is_writable}
use Rattle.wb_aql_tokens.specs.declared.token.Token.{Token}
use Rattle.wb_aql_tokens.specs.declared.token.Token.TheVariants.{Name, Integer, Quoted}
use Rattle.wb_aql_tokens.specs.declared.token.Sign.TheVariants as s
use Rattle.wb_aql_grammar.specs.declared.expr.Unary.{Unary as UnaryOperator}
use Rattle.wb_aql_grammar.specs.declared.expr.Unary.TheVariants as u
use Rattle.wb_aql_syntax.specs.declared.tightness.Tightness.{Tightness}
use Rattle.wb_aql_syntax.specs.declared.tightness.Tightness.TheVariants as at

-- ---- trees of names, integers and texts within their bounds

abbrev IsName : List ℕ → Type 0
IsName v = is_within (Name v) ≡ true

abbrev mutual
  Sound : Tree → Type 0
  Sound (t.Integer n) = is_within (Integer n) ≡ true
  Sound (t.Text v) = is_within (Quoted v) ≡ true
  Sound (t.Const c) = ⊤
  Sound (t.Variable v) = IsName v
  Sound (t.Literal p e v) = IsName p × IsName e × IsName v
  Sound (t.Collection k xs) = SoundTrees xs
  Sound (t.Unary o x) = Sound x
  Sound (t.Binary o x y) = Sound x × Sound y
  Sound (t.If x y z) = Sound x × Sound y × Sound z
  Sound (t.Let v x y) = IsName v × Sound x × Sound y
  Sound (t.Feature x v) = Sound x × IsName v
  Sound (t.Call d x v xs) = Sound x × IsName v × SoundArguments xs

  SoundTrees : Trees → Type 0
  SoundTrees no_trees = ⊤
  SoundTrees (trees x xs) = Sound x × SoundTrees xs

  SoundArguments : Arguments → Type 0
  SoundArguments no_arguments = ⊤
  SoundArguments (lambda v x xs) = IsName v × Sound x × SoundArguments xs
  SoundArguments (type_named p c xs) = IsName p × IsName c × SoundArguments xs
  SoundArguments (expression x xs) = Sound x × SoundArguments xs

with_sound_tree : (xs : Trees) (y : Tree) → SoundTrees xs → Sound y → SoundTrees (with_tree xs y)
with_sound_tree no_trees y h k = (k, tt)
with_sound_tree (trees x xs) y h k = (h.0, with_sound_tree xs y h.1 k)

with_sound_lambda : (xs : Arguments) (w : List ℕ) (y : Tree) → SoundArguments xs → IsName w → Sound y → SoundArguments (with_lambda xs w y)
with_sound_lambda no_arguments w y h e k = (e, k, tt)
with_sound_lambda (lambda v x xs) w y h e k = (h.0, h.1, with_sound_lambda xs w y h.2 e k)
with_sound_lambda (type_named p c xs) w y h e k = (h.0, h.1, with_sound_lambda xs w y h.2 e k)
with_sound_lambda (expression x xs) w y h e k = (h.0, with_sound_lambda xs w y h.1 e k)

with_sound_type : (xs : Arguments) (w n : List ℕ) → SoundArguments xs → IsName w → IsName n → SoundArguments (with_type xs w n)
with_sound_type no_arguments w n h e k = (e, k, tt)
with_sound_type (lambda v x xs) w n h e k = (h.0, h.1, with_sound_type xs w n h.2 e k)
with_sound_type (type_named p c xs) w n h e k = (h.0, h.1, with_sound_type xs w n h.2 e k)
with_sound_type (expression x xs) w n h e k = (h.0, with_sound_type xs w n h.1 e k)

with_sound_expression : (xs : Arguments) (y : Tree) → SoundArguments xs → Sound y → SoundArguments (with_expression xs y)
with_sound_expression no_arguments y h k = (k, tt)
with_sound_expression (lambda v x xs) y h k = (h.0, h.1, with_sound_expression xs y h.2 k)
with_sound_expression (type_named p c xs) y h k = (h.0, h.1, with_sound_expression xs y h.2 k)
with_sound_expression (expression x xs) y h k = (h.0, with_sound_expression xs y h.1 k)

-- ---- what is read from tokens within their bounds

-- the names and trees before a phrase
abbrev Given : Phrase → Type 0
Given (ImpliesMore x) = Sound x
Given (OrMore x) = Sound x
Given (XorMore x) = Sound x
Given (AndMore x) = Sound x
Given (CmpMore x) = Sound x
Given (SumMore x) = Sound x
Given (TermMore x) = Sound x
Given (PostMore x) = Sound x
Given (Named v) = IsName v
Given (Featured x v) = Sound x × IsName v
Given (CallArguments d x v) = Sound x × IsName v
Given (Argument d x v xs) = Sound x × IsName v × SoundArguments xs
Given (ArgumentMore d x v xs) = Sound x × IsName v × SoundArguments xs
Given (Element k xs) = SoundTrees xs
Given (ElementMore k xs) = SoundTrees xs
Given _ = ⊤

-- the rest of a line gives a sound tree
abbrev Gives : Rest → Type 0
Gives (done x) = Sound x
Gives (sign a r) = is_within a ≡ true → Gives r
Gives (name r) = (v : List ℕ) → IsName v → Gives (r v)
Gives (phrase p r) = Given p × ((y : Tree) → Sound y → Gives (r y))
Gives (opening b a i r) = Gives i × ((y : Tree) → Sound y → Gives (r y))

lines : {p : Phrase} {line : Rest} → Line p line → Given p → Gives line
lines g.let_in h = (λ v k e. (tt, λ x a f. (tt, λ y b. (k, a, b))), λ y b. b)
lines g.expr h = (tt, λ y b. b)
lines g.implies h = (tt, λ x a. (a, λ y b. b))
lines g.implies_more h = λ e. (tt, λ y b. ((h, b), λ z c. c))
lines g.implies_end h = h
lines g.or h = (tt, λ x a. (a, λ y b. b))
lines g.or_more h = λ e. (tt, λ y b. ((h, b), λ z c. c))
lines g.or_end h = h
lines g.xor h = (tt, λ x a. (a, λ y b. b))
lines g.xor_more h = λ e. (tt, λ y b. ((h, b), λ z c. c))
lines g.xor_end h = h
lines g.and h = (tt, λ x a. (a, λ y b. b))
lines g.and_more h = λ e. (tt, λ y b. ((h, b), λ z c. c))
lines g.and_end h = h
lines g.not h = ((tt, λ x a. a), λ y b. b)
lines g.neg h = (tt, λ y b. b)
lines g.cmp h = (tt, λ x a. (a, λ y b. b))
lines g.equal h = λ e. (tt, λ y b. (h, b))
lines g.not_equal h = λ e. (tt, λ y b. (h, b))
lines g.less h = λ e. (tt, λ y b. (h, b))
lines g.less_equal h = λ e. (tt, λ y b. (h, b))
lines g.greater h = λ e. (tt, λ y b. (h, b))
lines g.greater_equal h = λ e. (tt, λ y b. (h, b))
lines g.cmp_end h = h
lines g.sum h = (tt, λ x a. (a, λ y b. b))
lines g.plus h = λ e. (tt, λ y b. ((h, b), λ z c. c))
lines g.minus h = λ e. (tt, λ y b. ((h, b), λ z c. c))
lines g.sum_end h = h
lines g.term h = (tt, λ x a. (a, λ y b. b))
lines g.times h = λ e. (tt, λ y b. ((h, b), λ z c. c))
lines g.div h = λ e. (tt, λ y b. ((h, b), λ z c. c))
lines g.term_end h = h
lines g.negate h = ((tt, λ x a. a), λ y b. b)
lines g.unary h = (tt, λ y b. b)
lines g.post h = (tt, λ x a. (a, λ y b. b))
lines g.dot h = λ e v k. ((h, k), λ y b. b)
lines g.arrow h = λ e v k. (((h, k), λ x a f. a), λ y b. (b, λ z c. c))
lines g.post_end h = h
lines g.dot_call h = ((h, λ x a f. a), λ y b. (b, λ z c. c))
lines g.feature h = (h, λ y b. b)
lines g.no_argument h = (h.0, h.1, tt)
lines g.first_argument h = ((h.0, h.1, tt), λ y b. b)
lines g.next_argument h = λ e. (h, λ y b. b)
lines g.arguments_end h = h
lines (g.lambda {xs = xs}) h = λ w k. ((tt, λ y b. b), λ y b. ((h.0, h.1, with_sound_lambda xs w y h.2 k b), λ z c. c))
lines (g.class {xs = xs}) h = λ w k e n m. ((h.0, h.1, with_sound_type xs w n h.2 k m), λ z c. c)
lines (g.expression {xs = xs}) h = (tt, λ y b. ((h.0, h.1, with_sound_expression xs y h.2 b), λ z c. c))
lines g.integer h = λ e. e
lines g.text h = λ e. e
lines g.null h = λ e. tt
lines g.true h = λ e. tt
lines g.false h = λ e. tt
lines g.named h = λ v k. (k, λ y b. b)
lines g.variable h = h
lines g.literal h = λ e w k f n m. (h, k, m)
lines g.parentheses h = ((tt, λ x a e. a), λ y b. b)
lines g.if h = ((tt, λ x a e. (tt, λ y b f. (tt, λ z c d. (a, b, c)))), λ y b. b)
lines g.sequence h = λ e. ((tt, λ x a f. a), λ y b. b)
lines g.ordered_set h = λ e. ((tt, λ x a f. a), λ y b. b)
lines g.no_element h = tt
lines g.first_element h = (tt, λ y b. b)
lines (g.element {xs = xs}) h = (tt, λ y b. (with_sound_tree xs y h b, λ z c. c))
lines g.next_element h = λ e. (h, λ y b. b)
lines g.elements_end h = h

read : {n l : ℕ} {r : Rest} {text rest : List Token} {x : Tree} → Reads n l r text rest x → list_all is_within text ≡ true → Gives r → (list_all is_within rest ≡ true) × Sound x
read reads_done h gives = (h, gives)
read (reads_sign d) h gives = let u = and_parts _ _ h in read d u.1 (gives u.0)
read (reads_name {v = v} d) h gives = let u = and_parts _ _ h in read d u.1 (gives v u.0)
read (reads_phrase {y = y} line d e) h gives = let u = read d h (lines line gives.0) in read e u.0 (gives.1 y u.1)
read (reads_opening {y = y} takes d e) h gives = let v = and_parts _ _ h in let u = read d v.1 gives.0 in read e u.0 (gives.1 y u.1)

-- ---- the canonical tokens of a sound tree

-- they are within their bounds, before others that are
abbrev Kept : List Piece → Type 0
Kept ps = list_all is_within (tokens_in ps) ≡ true

kept_both : (ps qs : List Piece) → Kept ps → Kept qs → Kept (ps ++ qs)
kept_both [] qs h k = k
kept_both (blank ∷ ps) qs h k = kept_both ps qs h k
kept_both (token a ∷ ps) qs h k = let u = and_parts _ _ h in and_from _ _ u.0 (kept_both ps qs u.1 k)

kept_enclosed : (yes : Bool) (ps : List Piece) → Kept ps → Kept (enclosed yes ps)
kept_enclosed true ps h = h
kept_enclosed false ps h = kept_both ps (mark s.Close ∷ []) h refl

kept_standing : (p : Tightness) (x : Tree) → Kept (pieces x) → Kept (standing p x (pieces x))
kept_standing p x h = kept_enclosed (stands p (tightness x)) (pieces x) h

kept_comma : (later : Bool) (ps : List Piece) → Kept ps → Kept (comma_if later ++ ps)
kept_comma true ps h = h
kept_comma false ps h = h

kept_prefix : (o : UnaryOperator) (ps : List Piece) → Kept ps → Kept (prefix o ++ ps)
kept_prefix u.Not ps h = h
kept_prefix u.Negate ps h = h

mutual
  unfolding pieces

  kept : (x : Tree) → Sound x → Kept (pieces x)
  kept (t.Integer n) h = and_from _ _ h refl
  kept (t.Text v) h = and_from _ _ h refl
  kept (t.Const c) h = refl
  kept (t.Variable v) h = and_from _ _ h refl
  kept (t.Literal p e v) h = and_from _ _ h.0 (and_from _ _ h.1 (and_from _ _ h.2 refl))
  kept (t.Collection k xs) h = kept_both (element_pieces false xs) (mark s.CloseBrace ∷ []) (kept_elements false xs h) refl
  kept (t.Unary o x) h = kept_prefix o (standing (prefix_of o) x (pieces x)) (kept_standing (prefix_of o) x (kept x h))
  kept (t.Binary o x y) h = kept_both (standing (left_of o) x (pieces x)) (apart (sign_of o) ++ standing (right_of o) y (pieces y))
      (kept_standing (left_of o) x (kept x h.0)) (kept_standing (right_of o) y (kept y h.1))
  kept (t.If x y z) h =
      let last = blank ∷ mark s.Endif ∷ [] in
      kept_both (pieces x) (apart s.Then ++ (pieces y ++ (apart s.Else ++ (pieces z ++ last)))) (kept x h.0)
      (kept_both (pieces y) (apart s.Else ++ (pieces z ++ last)) (kept y h.1) (kept_both (pieces z) last (kept z h.2) refl))
  kept (t.Let v x y) h = and_from _ _ h.0 (kept_both (pieces x) (apart s.In ++ pieces y) (kept x h.1) (kept y h.2))
  kept (t.Feature x v) h = kept_both (standing at.Post x (pieces x)) (mark s.Dot ∷ token (Name v) ∷ []) (kept_standing at.Post x (kept x h.0)) (and_from _ _ h.1 refl)
  kept (t.Call d x v xs) h =
      kept_both (standing at.Post x (pieces x)) (mark (link_of d) ∷ token (Name v) ∷ mark s.Open ∷ (argument_pieces false xs ++ (mark s.Close ∷ []))) (kept_standing at.Post x (kept x h.0))
      (and_from _ _ h.1 (kept_both (argument_pieces false xs) (mark s.Close ∷ []) (kept_arguments false xs h.2) refl))

  kept_elements : (later : Bool) (xs : Trees) → SoundTrees xs → Kept (element_pieces later xs)
  kept_elements later no_trees h = refl
  kept_elements later (trees x xs) h = kept_comma later (pieces x ++ element_pieces true xs) (kept_both (pieces x) (element_pieces true xs) (kept x h.0) (kept_elements true xs h.1))

  kept_arguments : (later : Bool) (xs : Arguments) → SoundArguments xs → Kept (argument_pieces later xs)
  kept_arguments later no_arguments h = refl
  kept_arguments later (lambda v x xs) h =
      kept_comma later (token (Name v) ∷ (apart s.Bar ++ (pieces x ++ argument_pieces true xs))) (and_from _ _ h.0 (kept_both (pieces x) (argument_pieces true xs) (kept x h.1) (kept_arguments true xs h.2)))
  kept_arguments later (type_named p c xs) h =
      kept_comma later (token (Name p) ∷ mark s.Colons ∷ token (Name c) ∷ argument_pieces true xs) (and_from _ _ h.0 (and_from _ _ h.1 (kept_arguments true xs h.2)))
  kept_arguments later (expression x xs) h = kept_comma later (pieces x ++ argument_pieces true xs) (kept_both (pieces x) (argument_pieces true xs) (kept x h.0) (kept_arguments true xs h.1))

pub writable : (n l : ℕ) (tokens : List Token) (x : Tree) → list_all is_within tokens ≡ true → Spells n l tokens x → is_writable x ≡ true
writable n l tokens x h d = kept x (read d h (tt, λ y b. b)).1
