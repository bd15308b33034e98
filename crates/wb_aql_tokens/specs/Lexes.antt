-- The tokens of a text: the bytes that spell each token, and how a text falls into tokens.
use Rattle.std.specs.Prelude.{◌≡◌, ℕ, suc, ◌+◌, ◌&&◌, ◌||◌, ◌==◌, nat_eq, nat_le, not, Bool, true, false, List, [], ◌∷◌, ◌++◌, length, find, Option, Some, option_map, codes, bytes_eq}
use Rattle.std.specs.List.{list_all, list_any}
use Rattle.std.specs.Str.{byte, is_utf8}
use Rattle.std.specs.Str.Parse.{IsNumeral, digits_value}
use Rattle.wb_base.specs.Names.{is_name}
use Rattle.wb_aql_tokens.specs.declared.token.Token.{Token}
use Rattle.wb_aql_tokens.specs.declared.token.Token.TheVariants.{Sign, Name, Integer, Quoted, Bad}
use Rattle.wb_aql_tokens.specs.declared.token.Sign.{Sign as SignName}
use Rattle.wb_aql_tokens.specs.declared.token.Sign.TheVariants as s

-- ---- signs and reserved words

-- the bytes of each
unfoldable pub word_of : SignName → List ℕ
word_of s.If = codes "if"
word_of s.Then = codes "then"
word_of s.Else = codes "else"
word_of s.Endif = codes "endif"
word_of s.Let = codes "let"
word_of s.In = codes "in"
word_of s.And = codes "and"
word_of s.Or = codes "or"
word_of s.Xor = codes "xor"
word_of s.Implies = codes "implies"
word_of s.Not = codes "not"
word_of s.Div = codes "div"
word_of s.Null = codes "null"
word_of s.True = codes "true"
word_of s.False = codes "false"
word_of s.Sequence = codes "Sequence"
word_of s.OrderedSet = codes "OrderedSet"
word_of s.Equal = codes "="
word_of s.NotEqual = codes "<>"
word_of s.Less = codes "<"
word_of s.LessEqual = codes "<="
word_of s.Greater = codes ">"
word_of s.GreaterEqual = codes ">="
word_of s.Plus = codes "+"
word_of s.Minus = codes "-"
word_of s.Times = codes "*"
word_of s.Dot = codes "."
word_of s.Arrow = codes "->"
word_of s.Colons = codes "::"
word_of s.Comma = codes ","
word_of s.Bar = codes "|"
word_of s.Open = codes "("
word_of s.Close = codes ")"
word_of s.OpenBrace = codes "{"
word_of s.CloseBrace = codes "}"

-- the words among them
unfoldable pub reserved : List SignName
reserved = s.If ∷ s.Then ∷ s.Else ∷ s.Endif ∷ s.Let ∷ s.In ∷ s.And ∷ s.Or ∷ s.Xor ∷ s.Implies ∷ s.Not ∷ s.Div ∷ s.Null ∷ s.True ∷ s.False ∷ s.Sequence ∷ s.OrderedSet ∷ []

unfoldable pub is_reserved : List ℕ → Bool
is_reserved bytes = list_any (λ sign. bytes_eq (word_of sign) bytes) reserved

-- ---- names

-- a name that an expression can write: no reserved word
unfoldable pub is_expression_name : List ℕ → Bool
is_expression_name bytes = is_name bytes && not (is_reserved bytes)

-- ---- integers

abbrev pub largest_integer : ℕ
largest_integer = 9223372036854775807

-- ---- texts in quotes

-- the escapes: the byte behind the `\`, and the byte that is meant
abbrev pub escapes : List (ℕ × ℕ)
escapes = (byte "\\", byte "\\") ∷ (byte "'", byte "'") ∷ (byte "n", byte "\n") ∷ (byte "t", byte "\t") ∷ []

unfoldable pub escape_of : ℕ → Option ℕ
escape_of code = option_map (λ (escape : ℕ × ℕ). escape.1) (find (λ (escape : ℕ × ℕ). escape.0 == code) escapes)

-- may the byte stand for itself?
abbrev pub is_raw : ℕ → Bool
is_raw c = not (c == byte "'") && not (c == byte "\\")

-- the bytes between the quotes, piece by piece, and the bytes that they mean
pub data Means : List ℕ → List ℕ → Type 0 where
  means_none : Means [] []
  means_raw : {c : ℕ} {bytes value : List ℕ} → is_raw c ≡ true → Means bytes value → Means (c ∷ bytes) (c ∷ value)
  means_escaped : {c code meaning : ℕ} {bytes value : List ℕ} →
      c ≡ byte "\\" → escape_of code ≡ Some meaning → Means bytes value → Means (c ∷ code ∷ bytes) (meaning ∷ value)

-- quotes round bytes that mean the value
pub record Quotes (value bytes : List ℕ) : Type 0 where
  pub inside : List ℕ
  pub whole : bytes ≡ codes "'" ++ inside ++ codes "'"
  pub means : Means inside value

-- may the value stand in quotes? It is UTF-8 and has at most 65,536 bytes.
unfoldable pub is_quotable : List ℕ → Bool
is_quotable value = nat_le (length value) 65536 && is_utf8 value

-- ---- tokens

-- these bytes alone spell the token; an integer here is of any size
abbrev pub Spelling : Token → List ℕ → Type 0
Spelling (Sign sign) bytes = bytes ≡ word_of sign
Spelling (Name name) bytes = (bytes ≡ name) × (is_expression_name name ≡ true)
Spelling (Integer n) bytes = IsNumeral 10 bytes × (n ≡ digits_value 10 bytes)
Spelling (Quoted value) bytes = Quotes value bytes × (is_quotable value ≡ true)
Spelling Bad bytes = ⊥

-- the bounds of a token
abbrev pub is_within : Token → Bool
is_within (Name name) = is_expression_name name
is_within (Integer n) = nat_le n largest_integer
is_within (Quoted value) = is_quotable value
is_within (Sign sign) = true
is_within Bad = true

-- The token that begins the text `front ++ rest`: the front spells it, and no longer front of the text spells any.
-- So an integer is a whole run of digits, and a run above the largest integer begins no token.
pub record IsNext (token : Token) (front rest : List ℕ) : Type 0 where
  pub spelled : Spelling token front
  pub longest : (other : Token) (more behind : List ℕ) → rest ≡ more ++ behind → Spelling other (front ++ more) → more ≡ []
  pub within : is_within token ≡ true

-- no token begins the text
abbrev pub NoToken : List ℕ → Type 0
NoToken text = (token : Token) (front rest : List ℕ) → text ≡ front ++ rest → IsNext token front rest → ⊥

-- ---- texts

-- space, tab, LF or CR
abbrev pub is_blank : ℕ → Bool
is_blank c = list_any (nat_eq c) (codes " \t\n\r")

-- The text, which stands at the offset, has these tokens, which start at these offsets.
-- Blanks are passed over. Where no token begins, `Bad` is the last.
pub data Lexes : ℕ → List ℕ → List Token → List ℕ → Type 0 where
  lexes_end : {offset : ℕ} → Lexes offset [] [] []
  lexes_blank : {offset c : ℕ} {text : List ℕ} {tokens : List Token} {starts : List ℕ} →
      is_blank c ≡ true → Lexes (suc offset) text tokens starts → Lexes offset (c ∷ text) tokens starts
  lexes_token : {offset : ℕ} {text front rest : List ℕ} {token : Token} {tokens : List Token} {starts : List ℕ} →
      text ≡ front ++ rest → IsNext token front rest → Lexes (offset + length front) rest tokens starts → Lexes offset text (token ∷ tokens) (offset ∷ starts)
  lexes_bad : {offset c : ℕ} {text : List ℕ} →
      is_blank c ≡ false → NoToken (c ∷ text) → Lexes offset (c ∷ text) (Bad ∷ []) (offset ∷ [])
