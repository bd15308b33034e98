-- The expressions of a variable and of a feature of `self`, by the texts that spell them.
use Rattle.std.proofs.Common.{◌≡◌, ℕ, List, [], ◌∷◌, ◌++◌, refl, ap, subst, true}
use Rattle.std.specs.Prelude.{codes}
use Rattle.wb_aql_tokens.specs.Lexes.{Lexes, lexes_end, is_expression_name, is_reserved, reserved, word_of}
use Rattle.wb_base.specs.Names.{is_name}
use Rattle.wb_aql_tokens.specs.Apart.{ends_before}
use Rattle.wb_aql_tokens.specs.declared.token.Token.{Token}
use Rattle.wb_aql_tokens.specs.declared.token.Token.TheVariants.{Name, Sign}
use Rattle.wb_aql_tokens.specs.declared.token.Sign.TheVariants as s
use Rattle.wb_aql_tokens.proofs.Apart.{spelled_first}
use Rattle.wb_aql_grammar.specs.Tree.{Tree}
use Rattle.wb_aql_grammar.specs.Tree as t
use Rattle.wb_aql_grammar.specs.Grammar.{Expr, Implies, Or, Xor, And, Neg, Cmp, Sum, Term, Unary, Post, ImpliesMore, OrMore, XorMore, AndMore, CmpMore, SumMore, TermMore, PostMore, Rest, phrase, last, Reads, reads_done, reads_sign, reads_name, reads_phrase, Spells}
use Rattle.wb_aql_grammar.specs.Grammar as g
use Rattle.wb_aql_grammar.specs.Expressions.{SpellsText, IsExpression}

-- ---- an atom with its links is an expression

-- a phrase that ends its text stands for one of the next looser sort
module _ {n l : ℕ} {text : List Token} {x : Tree} where
  term : Reads n l (last Post) text [] x → Reads n l (phrase Unary (λ y. last (TermMore y))) text [] x
  term d = reads_phrase g.unary d (reads_phrase g.term_end reads_done reads_done)

  sum : Reads n l (last Post) text [] x → Reads n l (phrase Term (λ y. last (SumMore y))) text [] x
  sum d = reads_phrase g.term (term d) (reads_phrase g.sum_end reads_done reads_done)

  cmp : Reads n l (last Post) text [] x → Reads n l (phrase Sum (λ y. last (CmpMore y))) text [] x
  cmp d = reads_phrase g.sum (sum d) (reads_phrase g.cmp_end reads_done reads_done)

  and : Reads n l (last Post) text [] x → Reads n l (phrase Neg (λ y. last (AndMore y))) text [] x
  and d = reads_phrase g.neg (reads_phrase g.cmp (cmp d) reads_done) (reads_phrase g.and_end reads_done reads_done)

  xor : Reads n l (last Post) text [] x → Reads n l (phrase And (λ y. last (XorMore y))) text [] x
  xor d = reads_phrase g.and (and d) (reads_phrase g.xor_end reads_done reads_done)

  or : Reads n l (last Post) text [] x → Reads n l (phrase Xor (λ y. last (OrMore y))) text [] x
  or d = reads_phrase g.xor (xor d) (reads_phrase g.or_end reads_done reads_done)

  implies : Reads n l (last Post) text [] x → Reads n l (phrase Or (λ y. last (ImpliesMore y))) text [] x
  implies d = reads_phrase g.or (or d) (reads_phrase g.implies_end reads_done reads_done)

  expression : Reads n l (last Post) text [] x → Spells n l text x
  expression d = reads_phrase g.expr (reads_phrase g.implies (implies d) reads_done) reads_done

-- ---- the two expressions

spells_variable : {n l : ℕ} (name : List ℕ) → Spells n l (Name name ∷ []) (t.Variable name)
spells_variable name = expression (reads_phrase g.post
    (reads_phrase g.named (reads_name (reads_phrase g.variable reads_done reads_done)) (reads_phrase g.post_end reads_done reads_done)) reads_done)

spells_feature : {n l : ℕ} (receiver name : List ℕ) → Spells n l (Name receiver ∷ Sign s.Dot ∷ Name name ∷ []) (t.Feature (t.Variable receiver) name)
spells_feature receiver name = expression (reads_phrase g.post
    (reads_phrase g.named (reads_name (reads_phrase g.variable reads_done reads_done))
    (reads_phrase g.dot (reads_sign (reads_name (reads_phrase g.feature (reads_phrase g.post_end reads_done reads_done) reads_done))) reads_done)) reads_done)

-- ---- their texts

append_nil : (xs : List ℕ) → xs ++ [] ≡ xs
append_nil [] = refl
append_nil (x ∷ xs) = ap (λ z. x ∷ z) (append_nil xs)

-- a text of one name
one_name : (offset : ℕ) (name : List ℕ) → is_expression_name name ≡ true → Lexes offset name (Name name ∷ []) (offset ∷ [])
one_name offset name named = subst (λ z. Lexes offset z (Name name ∷ []) (offset ∷ [])) (append_nil name)
    (spelled_first offset (Name name) name [] [] [] (refl, named) named refl lexes_end)

is_self : is_expression_name (codes "self") ≡ true
unfolding is_expression_name is_name is_reserved reserved word_of
is_self = refl

before_name : (name : List ℕ) → ends_before (Sign s.Dot) name ≡ true
before_name [] = refl
before_name (c ∷ name) = refl

dot_spelled : codes "." ≡ word_of s.Dot
unfolding word_of
dot_spelled = refl

pub variable_text : (name : List ℕ) → is_expression_name name ≡ true → SpellsText name (t.Variable name)
variable_text name named = record { tokens = Name name ∷ []; starts = 0 ∷ []; lexes = one_name 0 name named; spells = spells_variable name }

pub feature_text : (name : List ℕ) → is_expression_name name ≡ true → SpellsText (codes "self." ++ name) (t.Feature (t.Variable (codes "self")) name)
feature_text name named = record {
  tokens = Name (codes "self") ∷ Sign s.Dot ∷ Name name ∷ [];
  starts = 0 ∷ 4 ∷ 5 ∷ [];
  lexes = spelled_first 0 (Name (codes "self")) (codes "self") (codes "." ++ name) _ _ (refl, is_self) is_self refl
      (spelled_first 4 (Sign s.Dot) (codes ".") name _ _ dot_spelled refl (before_name name) (one_name 5 name named));
  spells = spells_feature (codes "self") name;
}

pub variable_expression : (name : List ℕ) → is_expression_name name ≡ true → IsExpression (t.Variable name)
variable_expression name named = record { text = name; spelled = variable_text name named }

pub feature_expression : (name : List ℕ) → is_expression_name name ≡ true → IsExpression (t.Feature (t.Variable (codes "self")) name)
feature_expression name named = record { text = codes "self." ++ name; spelled = feature_text name named }

pub ruleset written = (variable_text, feature_text, variable_expression, feature_expression)
