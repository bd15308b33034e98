-- Texts: the tree that a text spells, and the byte at which a text that spells none is refused.
use Rattle.std.specs.Prelude.{◌≡◌, ℕ, List, Option, Some, None, length, slice_index_or}
use Rattle.wb_aql_grammar.specs.Tree.{Tree}
use Rattle.wb_aql_grammar.specs.Grammar.{Spells}
use Rattle.wb_aql_grammar.specs.Places.{IsSyntax, IsTooDeep}
use Rattle.wb_aql_tokens.specs.Lexes.{Lexes}
use Rattle.wb_aql_tokens.specs.declared.token.Token.{Token}
use Rattle.wb_aql_grammar.specs.declared.refusal.ParseRefusal.{ParseRefusal}
use Rattle.wb_aql_grammar.specs.declared.refusal.ParseRefusal.TheVariants as r

-- the tokens of the text spell the tree, with at most 64 openings and 4 lambdas open at once
pub record SpellsText (text : List ℕ) (x : Tree) : Type 0 where
  pub tokens : List Token
  pub starts : List ℕ
  pub lexes : Lexes 0 text tokens starts
  pub spells : Spells 64 4 tokens x

-- some text spells the tree
pub record IsExpression (x : Tree) : Type 0 where
  pub text : List ℕ
  pub spelled : SpellsText text x

-- where the token with this many tokens before it starts; where none is left, the length of the text
abbrev pub offset_at : List ℕ → List ℕ → ℕ → ℕ
offset_at text starts place = slice_index_or starts place (length text)

-- the offset of the place that the tokens of the text have
pub record IsOffset (IsPlace : List Token → ℕ → Type 0) (text : List ℕ) (offset : ℕ) : Type 0 where
  pub tokens : List Token
  pub starts : List ℕ
  pub place : ℕ
  pub lexes : Lexes 0 text tokens starts
  pub is : IsPlace tokens place
  pub stands : offset ≡ offset_at text starts place

-- the refusal of the text; want of memory says nothing of it
abbrev pub Refuses : List ℕ → ParseRefusal → Type 0
Refuses text (r.Syntax offset) = IsOffset (IsSyntax 64 4) text offset
Refuses text (r.TooDeep offset) = IsOffset (IsTooDeep 64 4) text offset
Refuses text r.NoMemory = Unit {0}

-- the refusal that a text has; want of memory is none
abbrev pub refusal_of : ParseRefusal → Option ParseRefusal
refusal_of (r.Syntax offset) = Some (r.Syntax offset)
refusal_of (r.TooDeep offset) = Some (r.TooDeep offset)
refusal_of r.NoMemory = None
