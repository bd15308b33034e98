-- The laws of a text, from those of its tokens.
use Rattle.std.proofs.Common.{◌≡◌, ℕ, List, [], ◌∷◌, ◌++◌, append_assoc, refl, sym, ap, ◌∙◌, subst}
use Rattle.std.specs.Prelude.{take, drop}
use Rattle.std.proofs.lemmas.List.{take-append-drop}
use Rattle.wb_aql_grammar.specs.Tree.{Tree}
use Rattle.wb_aql_grammar.specs.Grammar.{Spells}
use Rattle.wb_aql_grammar.specs.Places.{IsSyntax, IsTooDeep}
use Rattle.wb_aql_tokens.specs.Lexes.{Lexes}
use Rattle.wb_aql_grammar.specs.Expressions.{SpellsText, IsOffset, offset_at}
use Rattle.wb_aql_tokens.specs.declared.token.Token.{Token}
use Rattle.wb_aql_tokens.proofs.OneLexing.{one_text}
use Rattle.wb_aql_grammar.proofs.Unique.{unambiguous, one_syntax, one_deep, never_both}

-- the tokens of the text spell what it spells
pub text_spells : {text : List ℕ} {tokens : List Token} {starts : List ℕ} {x : Tree} → Lexes 0 text tokens starts → SpellsText text x → Spells 64 4 tokens x
text_spells {x = x} lexes a = subst (λ z. Spells 64 4 z x) (sym (one_text lexes a.tokens a.starts a.lexes).0) a.spells

pub text_tree : (text : List ℕ) (x y : Tree) → SpellsText text x → SpellsText text y → x ≡ y
text_tree text x y a b = unambiguous 64 4 64 4 a.tokens x y a.spells (text_spells a.lexes b)

-- one place of the tokens is one offset of the text
one_offset : (IsPlace : List Token → ℕ → Type 0) → ((tokens : List Token) (p q : ℕ) → IsPlace tokens p → IsPlace tokens q → p ≡ q) →
    (text : List ℕ) (p q : ℕ) → IsOffset IsPlace text p → IsOffset IsPlace text q → p ≡ q
one_offset IsPlace one text p q a b =
    let u = one_text a.lexes b.tokens b.starts b.lexes in
    let same : a.place ≡ b.place = one a.tokens a.place b.place a.is (subst (λ z. IsPlace z b.place) (sym u.0) b.is) in
    a.stands ∙ (ap (λ z. offset_at text z a.place) u.1 ∙ (ap (offset_at text b.starts) same ∙ sym b.stands))

pub text_syntax : (text : List ℕ) (p q : ℕ) → IsOffset (IsSyntax 64 4) text p → IsOffset (IsSyntax 64 4) text q → p ≡ q
text_syntax = one_offset (IsSyntax 64 4) (one_syntax 64 4)

pub text_depth : (text : List ℕ) (p q : ℕ) → IsOffset (IsTooDeep 64 4) text p → IsOffset (IsTooDeep 64 4) text q → p ≡ q
text_depth = one_offset (IsTooDeep 64 4) (one_deep 64 4)

pub text_refusal : (text : List ℕ) (p q : ℕ) → IsOffset (IsSyntax 64 4) text p → IsOffset (IsTooDeep 64 4) text q → ⊥
text_refusal text p q a b = let u = one_text a.lexes b.tokens b.starts b.lexes in
    never_both 64 4 a.tokens a.place b.place a.is (subst (λ z. IsTooDeep 64 4 z b.place) (sym u.0) b.is)

-- a tree of all tokens passes over every place
no_syntax : (tokens : List Token) (x : Tree) (place : ℕ) → Spells 64 4 tokens x → IsSyntax 64 4 tokens place → ⊥
no_syntax tokens x place spells syntax =
    syntax.stops 64 4 (drop place tokens) x refl (subst (λ z. Spells 64 4 z x) (sym (take-append-drop place tokens)) spells)

no_depth : (tokens : List Token) (x : Tree) (place : ℕ) → Spells 64 4 tokens x → IsTooDeep 64 4 tokens place → ⊥
no_depth tokens x place spells deep =
    let split : tokens ≡ (take place tokens ++ (deep.token ∷ [])) ++ deep.behind =
    sym (append_assoc (take place tokens) (deep.token ∷ []) deep.behind ∙ (ap (λ z. take place tokens ++ z) (sym deep.is) ∙ take-append-drop place tokens)) in
    deep.stops (record { more = deep.behind; tree = x; spells = subst (λ z. Spells 64 4 z x) split spells })

pub text_no_syntax : (text : List ℕ) (x : Tree) (p : ℕ) → SpellsText text x → IsOffset (IsSyntax 64 4) text p → ⊥
text_no_syntax text x p a b = no_syntax b.tokens x b.place (text_spells b.lexes a) b.is

pub text_no_depth : (text : List ℕ) (x : Tree) (p : ℕ) → SpellsText text x → IsOffset (IsTooDeep 64 4) text p → ⊥
text_no_depth text x p a b = no_depth b.tokens x b.place (text_spells b.lexes a) b.is
