-- The places of a text that is refused.
use Rattle.std.specs.Prelude.{ℕ, suc, List, [], ◌∷◌, ◌++◌, ◌≡◌, ◌≤◌, ◌<◌, length, take, drop, Bool, true, false, Option, Some, None}
use Rattle.wb_aql_grammar.specs.Tree.{Tree}
use Rattle.wb_aql_grammar.specs.Grammar.{Spells}
use Rattle.wb_aql_tokens.specs.declared.token.Token.{Token}
use Rattle.wb_aql_tokens.specs.declared.token.Token.TheVariants.{Sign}
use Rattle.wb_aql_tokens.specs.declared.token.Sign.TheVariants as s

-- the next token; none at the end
abbrev pub head : List Token → Option Token
head [] = None
head (a ∷ text) = Some a

-- does the token stand for an opening somewhere in the grammar?
abbrev pub opens : Token → Bool
opens (Sign s.Open) = true
opens (Sign s.OpenBrace) = true
opens (Sign s.If) = true
opens (Sign s.Let) = true
opens (Sign s.Not) = true
opens (Sign s.Minus) = true
opens (Sign s.Bar) = true
opens _ = false

-- a text within the bounds begins so
pub record Begins (n l : ℕ) (front : List Token) : Type 0 where
  pub more : List Token
  pub tree : Tree
  pub spells : Spells n l (front ++ more) tree

-- no bound is passed in it: each front of it that ends with an opening begins a text within the bounds
abbrev pub KeepsBounds : ℕ → ℕ → List Token → Type 0
KeepsBounds n l front = (before behind : List Token) (a : Token) → front ≡ before ++ (a ∷ behind) → opens a ≡ true → Begins n l (before ++ (a ∷ []))

-- The token at this place is the first that cannot go on: the tokens before it begin a text of the grammar, and
-- no text, within whatever bounds, begins with them and has this token next (or ends there, where no token is left).
pub record IsSyntax (n l : ℕ) (tokens : List Token) (place : ℕ) : Type 0 where
  pub within : place ≤ length tokens
  pub before : Begins (suc n) (suc l) (take place tokens)
  pub bounded : KeepsBounds n l (take place tokens)
  pub stops : (m k : ℕ) (more : List Token) (tree : Tree) → head more ≡ head (drop place tokens) → Spells m k (take place tokens ++ more) tree → ⊥

-- The token at this place is the first opening at which a bound is passed: no text within the bounds begins with
-- the tokens up to it, and a text with one more opening and one more lambda does.
pub record IsTooDeep (n l : ℕ) (tokens : List Token) (place : ℕ) : Type 0 where
  pub token : Token
  pub behind : List Token
  pub is : drop place tokens ≡ token ∷ behind
  pub opening : opens token ≡ true
  pub within : place < length tokens
  pub bounded : KeepsBounds n l (take place tokens)
  pub stops : Begins n l (take place tokens ++ (token ∷ [])) → ⊥
  pub deeper : Begins (suc n) (suc l) (take place tokens ++ (token ∷ []))
