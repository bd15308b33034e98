-- The line that the parser takes at the next token.
use Rattle.std.proofs.Common.{◌≡◌, ℕ, List, [], ◌∷◌, refl, sym, ap, ◌∙◌, subst, inl, inr}
use Rattle.std.specs.Prelude.{Option, Some, None, ◌⊎◌, ◌↔◌, Bool, true, false, IsTrue}
use Rattle.wb_aql_grammar.specs.Tree.{Tree, Trees, Arguments, no_trees, no_arguments}
use Rattle.wb_aql_grammar.specs.Tree as t
use Rattle.wb_aql_grammar.specs.Grammar.{Expr, Implies, Neg, Cmp, CmpMore, Sum, Unary, Post, Atom, PostMore, Named, Featured, CallArguments, Argument, ArgumentMore, Elements, Element, ElementMore, Rest, done, sign, phrase, last}
use Rattle.wb_aql_grammar.specs.invariants.Runs.{Good, Wrong, pick, expr_next, neg_next, unary_next, named_next, featured_next, atom_next, arguments_next, argument_more_next, argument_next, elements_next, element_more_next, call, Runs}
use Rattle.wb_aql_grammar.specs.Places.{head}
use Rattle.wb_aql_grammar.specs.invariants.Runs as run
use Rattle.wb_aql_grammar.specs.invariants.Reading.{operand, whole, more, let_line, if_line, parentheses_line, braces, literal_rest, IsCalled}
use Rattle.wb_aql_grammar.specs.declared.level.Level.{Level}
use Rattle.wb_aql_grammar.specs.declared.level.Level.TheVariants as v
use Rattle.wb_aql_grammar.specs.declared.expr.CallKind.{CallKind}
use Rattle.wb_aql_grammar.specs.declared.expr.CallKind.TheVariants as d
use Rattle.wb_aql_grammar.specs.declared.expr.Constant.TheVariants as c
use Rattle.wb_aql_grammar.specs.declared.expr.CollectionKind.{CollectionKind}
use Rattle.wb_aql_grammar.specs.declared.expr.CollectionKind.TheVariants as k
use Rattle.wb_aql_tokens.specs.declared.token.Sign.{Sign as SignName}
use Rattle.wb_aql_tokens.specs.declared.token.Sign.TheVariants as s
use Rattle.wb_aql_tokens.specs.declared.token.Token.{Token}
use Rattle.wb_aql_tokens.specs.declared.token.Token.TheVariants.{Sign, Name, Integer, Quoted, Bad}
use Rattle.wb_aql_grammar.proofs.Local.{not_both}
use Rattle.wb_aql_grammar.proofs.Steps.{line}
use Rattle.wb_aql_grammar.proofs.Parts.{Leads}

-- ---- levels

whole_line : (v : Level) (text : List Token) → pick (whole v) text ≡ Some (phrase (operand v) (λ x. last (more v x)))
whole_line v.Implies text = refl
whole_line v.Or text = refl
whole_line v.Xor text = refl
whole_line v.And text = refl
whole_line v.Sum text = refl
whole_line v.Term text = refl

pub begins_chain : {n l : ℕ} (v : Level) (text : List Token) → Leads n l (phrase (operand v) (λ x. last (more v x))) text (last (whole v)) text
begins_chain v text o d = line (whole v) _ o (whole_line v text) d

pub takes_sum : {n l : ℕ} (text : List Token) → Leads n l (phrase Sum (λ x. last (CmpMore x))) text (last Cmp) text
takes_sum text o d = line Cmp _ o refl d

pub takes_atom : {n l : ℕ} (text : List Token) → Leads n l (phrase Atom (λ x. last (PostMore x))) text (last Post) text
takes_atom text o d = line Post _ o refl d

-- ---- expressions, negations and unaries

pub takes_let : {n l : ℕ} (text : List Token) → head text ≡ Some (Sign s.Let) → Leads n l let_line text (last Expr) text
takes_let text e o d = line Expr let_line o (ap (λ h. Some (expr_next h)) e) d

no_let : (h : Option Token) → (h ≡ Some (Sign s.Let) → ⊥) → expr_next h ≡ last Implies
no_let (Some (Sign s.Let)) ne = absurd (ne refl)
no_let _ ne = refl

pub takes_implies : {n l : ℕ} (text : List Token) → (head text ≡ Some (Sign s.Let) → ⊥) → Leads n l (last Implies) text (last Expr) text
takes_implies text ne o d = line Expr (last Implies) o (ap Some (no_let (head text) ne)) d

pub takes_not : {n l : ℕ} (text : List Token) → head text ≡ Some (Sign s.Not) → Leads n l (neg_next (Some (Sign s.Not))) text (last Neg) text
takes_not text e o d = line Neg _ o (ap (λ h. Some (neg_next h)) e) d

no_not : (h : Option Token) → (h ≡ Some (Sign s.Not) → ⊥) → neg_next h ≡ last Cmp
no_not (Some (Sign s.Not)) ne = absurd (ne refl)
no_not _ ne = refl

pub takes_comparison : {n l : ℕ} (text : List Token) → (head text ≡ Some (Sign s.Not) → ⊥) → Leads n l (last Cmp) text (last Neg) text
takes_comparison text ne o d = line Neg (last Cmp) o (ap Some (no_not (head text) ne)) d

pub takes_minus : {n l : ℕ} (text : List Token) → head text ≡ Some (Sign s.Minus) → Leads n l (unary_next (Some (Sign s.Minus))) text (last Unary) text
takes_minus text e o d = line Unary _ o (ap (λ h. Some (unary_next h)) e) d

no_minus : (h : Option Token) → (h ≡ Some (Sign s.Minus) → ⊥) → unary_next h ≡ last Post
no_minus (Some (Sign s.Minus)) ne = absurd (ne refl)
no_minus _ ne = refl

pub takes_post : {n l : ℕ} (text : List Token) → (head text ≡ Some (Sign s.Minus) → ⊥) → Leads n l (last Post) text (last Unary) text
takes_post text ne o d = line Unary (last Post) o (ap Some (no_minus (head text) ne)) d

-- ---- names

pub takes_literal : {n l : ℕ} (w : List ℕ) (text rest : List Token) → text ≡ Sign s.Colons ∷ rest → Leads n l (literal_rest w) rest (last (Named w)) text
takes_literal {n = n} {l = l} w text rest e o d = subst (λ z. Runs n l (last (Named w)) z o) (sym e) (line (Named w) _ o refl (run.runs_sign d))

no_colons : (w : List ℕ) (h : Option Token) → (h ≡ Some (Sign s.Colons) → ⊥) → named_next w h ≡ done (t.Variable w)
no_colons w (Some (Sign s.Colons)) ne = absurd (ne refl)
no_colons w _ ne = refl

pub takes_variable : {n l : ℕ} (w : List ℕ) (text : List Token) → (head text ≡ Some (Sign s.Colons) → ⊥) → Runs n l (last (Named w)) text (Good (t.Variable w) text)
takes_variable w text ne = line (Named w) _ _ (ap Some (no_colons w (head text) ne)) run.runs_done

pub takes_call : {n l : ℕ} (x : Tree) (w : List ℕ) (text : List Token) → head text ≡ Some (Sign s.Open) → Leads n l (call d.Dot x w) text (last (Featured x w)) text
takes_call x w text e o d = line (Featured x w) _ o (ap (λ h. Some (featured_next x w h)) e) d

no_open : (x : Tree) (w : List ℕ) (h : Option Token) → (h ≡ Some (Sign s.Open) → ⊥) → featured_next x w h ≡ last (PostMore (t.Feature x w))
no_open x w (Some (Sign s.Open)) ne = absurd (ne refl)
no_open x w _ ne = refl

pub takes_feature : {n l : ℕ} (x : Tree) (w : List ℕ) (text : List Token) → (head text ≡ Some (Sign s.Open) → ⊥) →
    Leads n l (last (PostMore (t.Feature x w))) text (last (Featured x w)) text
takes_feature x w text ne o d = line (Featured x w) _ o (ap Some (no_open x w (head text) ne)) d

pub names_dot : (b : Bool) (text : List Token) → IsTrue b ↔ (head text ≡ Some (Sign s.Open)) → IsCalled b d.Dot text
names_dot true text f n l x w o e = takes_call x w text (f.0 refl) o e
names_dot false text f n l x w o e = takes_feature x w text (λ h. not_both (f.1 h)) o e

-- ---- atoms

pub takes_integer : {n l : ℕ} (a : Token) (i : ℕ) (text rest : List Token) → text ≡ a ∷ rest → a ≡ Integer i → Runs n l (last Atom) text (Good (t.Integer i) rest)
takes_integer {n = n} {l = l} a i text rest e f =
    subst (λ z. Runs n l (last Atom) z (Good (t.Integer i) rest)) (sym (e ∙ ap (λ z. z ∷ rest) f)) (line Atom _ _ refl (run.runs_sign run.runs_done))

pub takes_text : {n l : ℕ} (a : Token) (w : List ℕ) (text rest : List Token) → text ≡ a ∷ rest → a ≡ Quoted w → Runs n l (last Atom) text (Good (t.Text w) rest)
takes_text {n = n} {l = l} a w text rest e f =
    subst (λ z. Runs n l (last Atom) z (Good (t.Text w) rest)) (sym (e ∙ ap (λ z. z ∷ rest) f)) (line Atom _ _ refl (run.runs_sign run.runs_done))

pub takes_name : {n l : ℕ} (a : Token) (w : List ℕ) (text rest : List Token) → text ≡ a ∷ rest → a ≡ Name w → Leads n l (last (Named w)) rest (last Atom) text
takes_name {n = n} {l = l} a w text rest e f o d =
    subst (λ z. Runs n l (last Atom) z o) (sym (e ∙ ap (λ z. z ∷ rest) f)) (line Atom _ o refl (run.runs_name d))

no_atom : {n l : ℕ} (text : List Token) → atom_next (head text) ≡ None → Runs n l (last Atom) text (Wrong text)
no_atom text e = run.runs_no_phrase e

pub no_atom_end : {n l : ℕ} (text : List Token) → text ≡ [] → Runs n l (last Atom) text (Wrong text)
no_atom_end text e = no_atom text (ap (λ z. atom_next (head z)) e)

pub no_atom_bad : {n l : ℕ} (a : Token) (text rest : List Token) → text ≡ a ∷ rest → a ≡ Bad → Runs n l (last Atom) text (Wrong text)
no_atom_bad a text rest e f = no_atom text (ap (λ z. atom_next (head z)) (e ∙ ap (λ z. z ∷ rest) f))

-- a sign that begins no atom
begins_none : (a : SignName) → (a ≡ s.Null → ⊥) → (a ≡ s.True → ⊥) → (a ≡ s.False → ⊥) → (a ≡ s.Open → ⊥) → (a ≡ s.If → ⊥) → (a ≡ s.Sequence → ⊥) → (a ≡ s.OrderedSet → ⊥) →
    atom_next (Some (Sign a)) ≡ None
begins_none s.Null n1 n2 n3 n4 n5 n6 n7 = absurd (n1 refl)
begins_none s.True n1 n2 n3 n4 n5 n6 n7 = absurd (n2 refl)
begins_none s.False n1 n2 n3 n4 n5 n6 n7 = absurd (n3 refl)
begins_none s.Open n1 n2 n3 n4 n5 n6 n7 = absurd (n4 refl)
begins_none s.If n1 n2 n3 n4 n5 n6 n7 = absurd (n5 refl)
begins_none s.Sequence n1 n2 n3 n4 n5 n6 n7 = absurd (n6 refl)
begins_none s.OrderedSet n1 n2 n3 n4 n5 n6 n7 = absurd (n7 refl)
begins_none _ n1 n2 n3 n4 n5 n6 n7 = refl

pub no_atom_sign : {n l : ℕ} (a : SignName) (text rest : List Token) → text ≡ Sign a ∷ rest →
    (a ≡ s.Null → ⊥) → (a ≡ s.True → ⊥) → (a ≡ s.False → ⊥) → (a ≡ s.Open → ⊥) → (a ≡ s.If → ⊥) → (a ≡ s.Sequence → ⊥) → (a ≡ s.OrderedSet → ⊥) →
    Runs n l (last Atom) text (Wrong text)
no_atom_sign a text rest e n1 n2 n3 n4 n5 n6 n7 = no_atom text (ap (λ z. atom_next (head z)) e ∙ begins_none a n1 n2 n3 n4 n5 n6 n7)

-- the sign is this one
marked : (a b : SignName) (text rest : List Token) → text ≡ Sign a ∷ rest → a ≡ b → text ≡ Sign b ∷ rest
marked a b text rest e f = e ∙ ap (λ z. Sign z ∷ rest) f

takes_constant : {n l : ℕ} (a b : SignName) (x : Tree) (text rest : List Token) → text ≡ Sign a ∷ rest → a ≡ b → atom_next (Some (Sign b)) ≡ Some (sign (Sign b) (done x)) →
    Runs n l (last Atom) text (Good x rest)
takes_constant {n = n} {l = l} a b x text rest e f p =
    subst (λ z. Runs n l (last Atom) z (Good x rest)) (sym (marked a b text rest e f)) (line Atom _ _ p (run.runs_sign run.runs_done))

pub takes_null : {n l : ℕ} (a : SignName) (text rest : List Token) → text ≡ Sign a ∷ rest → a ≡ s.Null → Runs n l (last Atom) text (Good (t.Const c.Null) rest)
takes_null a text rest e f = takes_constant a s.Null _ text rest e f refl

pub takes_true : {n l : ℕ} (a : SignName) (text rest : List Token) → text ≡ Sign a ∷ rest → a ≡ s.True → Runs n l (last Atom) text (Good (t.Const c.True) rest)
takes_true a text rest e f = takes_constant a s.True _ text rest e f refl

pub takes_false : {n l : ℕ} (a : SignName) (text rest : List Token) → text ≡ Sign a ∷ rest → a ≡ s.False → Runs n l (last Atom) text (Good (t.Const c.False) rest)
takes_false a text rest e f = takes_constant a s.False _ text rest e f refl

pub takes_parentheses : {n l : ℕ} (a : SignName) (text rest : List Token) → text ≡ Sign a ∷ rest → a ≡ s.Open → Leads n l parentheses_line text (last Atom) text
takes_parentheses a text rest e f o d = line Atom _ o (ap (λ z. atom_next (head z)) (marked a s.Open text rest e f)) d

pub takes_if : {n l : ℕ} (a : SignName) (text rest : List Token) → text ≡ Sign a ∷ rest → a ≡ s.If → Leads n l if_line text (last Atom) text
takes_if a text rest e f o d = line Atom _ o (ap (λ z. atom_next (head z)) (marked a s.If text rest e f)) d

pub takes_sequence : {n l : ℕ} (a : SignName) (text rest : List Token) → text ≡ Sign a ∷ rest → a ≡ s.Sequence → Leads n l (braces k.Sequence) rest (last Atom) text
takes_sequence {n = n} {l = l} a text rest e f o d =
    subst (λ z. Runs n l (last Atom) z o) (sym (marked a s.Sequence text rest e f)) (line Atom _ o refl (run.runs_sign d))

pub takes_ordered_set : {n l : ℕ} (a : SignName) (text rest : List Token) → text ≡ Sign a ∷ rest → a ≡ s.OrderedSet → Leads n l (braces k.OrderedSet) rest (last Atom) text
takes_ordered_set {n = n} {l = l} a text rest e f o d =
    subst (λ z. Runs n l (last Atom) z o) (sym (marked a s.OrderedSet text rest e f)) (line Atom _ o refl (run.runs_sign d))

-- ---- arguments and elements

-- a bracket closes
abbrev pub Closing : Option Token → Type 0
Closing h = (h ≡ Some (Sign s.Close)) ⊎ (h ≡ Some (Sign s.CloseBrace))

no_arguments_there : (k : CallKind) (x : Tree) (w : List ℕ) (h : Option Token) → Closing h → arguments_next k x w h ≡ done (t.Call k x w no_arguments)
no_arguments_there k x w h (inl e) = ap (arguments_next k x w) e
no_arguments_there k x w h (inr e) = ap (arguments_next k x w) e

pub takes_no_arguments : {n l : ℕ} (k : CallKind) (x : Tree) (w : List ℕ) (text : List Token) → Closing (head text) →
    Runs n l (last (CallArguments k x w)) text (Good (t.Call k x w no_arguments) text)
takes_no_arguments k x w text e = line (CallArguments k x w) _ _ (ap Some (no_arguments_there k x w (head text) e)) run.runs_done

arguments_there : (k : CallKind) (x : Tree) (w : List ℕ) (h : Option Token) → (Closing h → ⊥) → arguments_next k x w h ≡ last (Argument k x w no_arguments)
arguments_there k x w (Some (Sign s.Close)) ne = absurd (ne (inl refl))
arguments_there k x w (Some (Sign s.CloseBrace)) ne = absurd (ne (inr refl))
arguments_there k x w _ ne = refl

pub takes_arguments : {n l : ℕ} (k : CallKind) (x : Tree) (w : List ℕ) (text : List Token) → (Closing (head text) → ⊥) →
    Leads n l (last (Argument k x w no_arguments)) text (last (CallArguments k x w)) text
takes_arguments k x w text ne o d = line (CallArguments k x w) _ o (ap Some (arguments_there k x w (head text) ne)) d

pub takes_more_arguments : {n l : ℕ} (k : CallKind) (x : Tree) (w : List ℕ) (xs : Arguments) (text rest : List Token) → text ≡ Sign s.Comma ∷ rest →
    Leads n l (last (Argument k x w xs)) rest (last (ArgumentMore k x w xs)) text
takes_more_arguments {n = n} {l = l} k x w xs text rest e o d =
    subst (λ z. Runs n l (last (ArgumentMore k x w xs)) z o) (sym e) (line (ArgumentMore k x w xs) _ o refl (run.runs_sign d))

no_more_arguments : (k : CallKind) (x : Tree) (w : List ℕ) (xs : Arguments) (h : Option Token) → (h ≡ Some (Sign s.Comma) → ⊥) →
    argument_more_next k x w xs h ≡ done (t.Call k x w xs)
no_more_arguments k x w xs (Some (Sign s.Comma)) ne = absurd (ne refl)
no_more_arguments k x w xs _ ne = refl

pub ends_arguments : {n l : ℕ} (k : CallKind) (x : Tree) (w : List ℕ) (xs : Arguments) (text : List Token) → (head text ≡ Some (Sign s.Comma) → ⊥) →
    Runs n l (last (ArgumentMore k x w xs)) text (Good (t.Call k x w xs) text)
ends_arguments k x w xs text ne = line (ArgumentMore k x w xs) _ _ (ap Some (no_more_arguments k x w xs (head text) ne)) run.runs_done

pub takes_argument : {n l : ℕ} (k : CallKind) (x : Tree) (w : List ℕ) (xs : Arguments) (r : Rest) (text : List Token) → argument_next k x w xs text ≡ r →
    Leads n l r text (last (Argument k x w xs)) text
takes_argument k x w xs r text e o d = line (Argument k x w xs) r o (ap Some e) d

no_elements_there : (k : CollectionKind) (h : Option Token) → Closing h → elements_next k h ≡ done (t.Collection k no_trees)
no_elements_there k h (inl e) = ap (elements_next k) e
no_elements_there k h (inr e) = ap (elements_next k) e

pub takes_no_elements : {n l : ℕ} (k : CollectionKind) (text : List Token) → Closing (head text) → Runs n l (last (Elements k)) text (Good (t.Collection k no_trees) text)
takes_no_elements k text e = line (Elements k) _ _ (ap Some (no_elements_there k (head text) e)) run.runs_done

elements_there : (k : CollectionKind) (h : Option Token) → (Closing h → ⊥) → elements_next k h ≡ last (Element k no_trees)
elements_there k (Some (Sign s.Close)) ne = absurd (ne (inl refl))
elements_there k (Some (Sign s.CloseBrace)) ne = absurd (ne (inr refl))
elements_there k _ ne = refl

pub takes_elements : {n l : ℕ} (k : CollectionKind) (text : List Token) → (Closing (head text) → ⊥) → Leads n l (last (Element k no_trees)) text (last (Elements k)) text
takes_elements k text ne o d = line (Elements k) _ o (ap Some (elements_there k (head text) ne)) d

pub takes_element : {n l : ℕ} (k : CollectionKind) (xs : Trees) (text : List Token) →
    Leads n l (phrase Expr (λ y. last (ElementMore k (t.with_tree xs y)))) text (last (Element k xs)) text
takes_element k xs text o d = line (Element k xs) _ o refl d

pub takes_more_elements : {n l : ℕ} (k : CollectionKind) (xs : Trees) (text rest : List Token) → text ≡ Sign s.Comma ∷ rest →
    Leads n l (last (Element k xs)) rest (last (ElementMore k xs)) text
takes_more_elements {n = n} {l = l} k xs text rest e o d =
    subst (λ z. Runs n l (last (ElementMore k xs)) z o) (sym e) (line (ElementMore k xs) _ o refl (run.runs_sign d))

no_more_elements : (k : CollectionKind) (xs : Trees) (h : Option Token) → (h ≡ Some (Sign s.Comma) → ⊥) → element_more_next k xs h ≡ done (t.Collection k xs)
no_more_elements k xs (Some (Sign s.Comma)) ne = absurd (ne refl)
no_more_elements k xs _ ne = refl

pub ends_elements : {n l : ℕ} (k : CollectionKind) (xs : Trees) (text : List Token) → (head text ≡ Some (Sign s.Comma) → ⊥) →
    Runs n l (last (ElementMore k xs)) text (Good (t.Collection k xs) text)
ends_elements k xs text ne = line (ElementMore k xs) _ _ (ap Some (no_more_elements k xs (head text) ne)) run.runs_done
