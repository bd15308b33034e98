-- Each text falls into tokens: they are a function of the text.
use Rattle.std.proofs.Common.{◌≡◌, ℕ, zero, suc, ◌+◌, ◌≤◌, ◌<◌, inl, inr, Bool, true, false, List, [], ◌∷◌, length, refl, ap, ◌∙◌, arith}
use Rattle.std.proofs.lemmas.List.{length-append}
use Rattle.wb_aql_tokens.specs.Lexes.{is_blank, NoToken, Lexes, lexes_end, lexes_blank, lexes_token, lexes_bad}
use Rattle.wb_aql_tokens.specs.declared.token.Token.{Token}
use Rattle.wb_aql_tokens.specs.declared.token.Token.TheVariants.{Bad}
use Rattle.wb_aql_tokens.proofs.Lexing.{front_has_bytes}
use Rattle.wb_expressions.specs.NextToken.{Found, next_token}

-- the tokens of a text that stands at the offset, and where they start
pub record LexingAt (offset : ℕ) (text : List ℕ) : Type 0 where
  pub tokens : List Token
  pub starts : List ℕ
  pub lexes : Lexes offset text tokens starts

-- what follows the token is shorter
shorter : {text : List ℕ} (u : Found text) → length u.rest < length text
shorter u = omega (arith, ap length u.begins.whole ∙ length-append u.begins.front u.rest, front_has_bytes u.token u.begins.front u.begins.next.spelled)

behind_blank : {offset c : ℕ} {text : List ℕ} → is_blank c ≡ true → LexingAt (suc offset) text → LexingAt offset (c ∷ text)
behind_blank blank more = record { tokens = more.tokens; starts = more.starts; lexes = lexes_blank blank more.lexes }

behind_token : {offset : ℕ} {text : List ℕ} (u : Found text) → LexingAt (offset + length u.begins.front) u.rest → LexingAt offset text
behind_token {offset} u more = record { tokens = u.token ∷ more.tokens; starts = offset ∷ more.starts; lexes = lexes_token u.begins.whole u.begins.next more.lexes }

stopped : {offset c : ℕ} {text : List ℕ} → is_blank c ≡ false → NoToken (c ∷ text) → LexingAt offset (c ∷ text)
stopped {offset} free none = record { tokens = Bad ∷ []; starts = offset ∷ []; lexes = lexes_bad free none }

-- each shorter text falls into tokens
abbrev Before : ℕ → Type 0
Before steps = (offset : ℕ) (text : List ℕ) → length text ≤ steps → LexingAt offset text

first : (steps : ℕ) → Before steps → (offset c : ℕ) (text : List ℕ) → length text ≤ steps → (t : Bool) → is_blank c ≡ t → LexingAt offset (c ∷ text)
first steps before offset c text short true blank = behind_blank blank (before (suc offset) text short)
first steps before offset c text short false free = elim (next_token (c ∷ text)) [
  | inl u ↦ behind_token u (before (offset + length u.begins.front) u.rest (omega (arith, shorter u)))
  | inr none ↦ stopped free none
]

lexing : (steps : ℕ) → Before steps
lexing steps offset [] short = record { tokens = []; starts = []; lexes = lexes_end }
lexing zero offset (c ∷ text) short = absurd (omega arith)
lexing (suc steps) offset (c ∷ text) short = first steps (lexing steps) offset c text (omega arith) (is_blank c) refl

-- each text falls into tokens, wherever it stands
pub lexing_at : (offset : ℕ) (text : List ℕ) → LexingAt offset text
lexing_at offset text = lexing (length text) offset text (omega arith)

-- the tokens of a text, and where they start
pub record Lexing (text : List ℕ) : Type 0 where
  pub tokens : List Token
  pub starts : List ℕ
  pub lexes : Lexes 0 text tokens starts

-- each text falls into tokens
pub lexing_of : (text : List ℕ) → Lexing text
lexing_of text = let all = lexing_at 0 text in record { tokens = all.tokens; starts = all.starts; lexes = all.lexes }
