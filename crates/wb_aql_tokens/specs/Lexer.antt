-- How a text is read from the left for its next token.
use Rattle.std.specs.Prelude.{◌≡◌, ℕ, true, List, [], ◌∷◌, ◌++◌, ◌==◌, length, Option, Some, None, if◌then◌else◌}
use Rattle.std.specs.Char.{is_ascii_digit}
use Rattle.std.specs.Str.{byte}
use Rattle.wb_aql_tokens.specs.Lexes.{IsNext, Means, escape_of, word_of}
use Rattle.wb_base.specs.Names.{is_name_start}
use Rattle.wb_aql_tokens.specs.declared.characters.Start.{Start}
use Rattle.wb_aql_tokens.specs.declared.characters.Start.TheVariants as b
use Rattle.wb_aql_tokens.specs.declared.token.Token.{Token}
use Rattle.wb_aql_tokens.specs.declared.token.Sign.{Sign as SignName}

-- what a token that begins with this byte can be
abbrev pub start_of : ℕ → Start
start_of c = if is_name_start c then b.Word else if is_ascii_digit c then b.Integer else if c == byte "'" then b.Quoted else b.Sign

-- what the token that begins a text can be; none at the end
abbrev pub first_start : List ℕ → Option Start
first_start [] = None
first_start (c ∷ text) = Some (start_of c)

-- the text begins with the token, and the rest follows
pub record BeginsWith (text : List ℕ) (token : Token) (rest : List ℕ) : Type 0 where
  pub front : List ℕ
  pub whole : text ≡ front ++ rest
  pub next : IsNext token front rest

-- the text begins with a sign of so many bytes, and the rest follows
pub record BeginsWithSign (size : ℕ) (text : List ℕ) (sign : SignName) (rest : List ℕ) : Type 0 where
  pub whole : text ≡ word_of sign ++ rest
  pub same : length (word_of sign) ≡ size

-- the text begins with no sign of so many bytes
abbrev pub NoSignOf : ℕ → List ℕ → Type 0
NoSignOf size text = (sign : SignName) (rest : List ℕ) → text ≡ word_of sign ++ rest → length (word_of sign) ≡ size → first_start text ≡ Some b.Word

-- none but a reserved word has these bytes
abbrev pub NoSign : ℕ → List ℕ → Type 0
NoSign first more = (sign : SignName) → first ∷ more ≡ word_of sign → is_name_start first ≡ true

-- no escape has its code at the front of these bytes
abbrev pub NoEscape : List ℕ → Type 0
NoEscape bytes = (code : ℕ) (rest : List ℕ) → bytes ≡ code ∷ rest → escape_of code ≡ None

-- the code of an escape with this meaning begins the bytes, and the rest follows
pub record BeginsWithEscape (bytes : List ℕ) (meaning : ℕ) (rest : List ℕ) : Type 0 where
  pub code : ℕ
  pub whole : bytes ≡ code ∷ rest
  pub escape : escape_of code ≡ Some meaning

-- no piece of a text in quotes begins these bytes
abbrev pub NoPiece : List ℕ → Type 0
NoPiece bytes = (piece value more : List ℕ) → bytes ≡ piece ++ more → Means piece value → piece ≡ []

-- the piece that begins the bytes means this byte, and the rest follows
pub record BeginsWithPiece (bytes : List ℕ) (meaning : ℕ) (rest : List ℕ) : Type 0 where
  pub piece : List ℕ
  pub whole : bytes ≡ piece ++ rest
  pub means : Means piece (meaning ∷ [])

-- the pieces that begin the bytes mean the value, and no further piece follows
pub record Unescapes (bytes value rest : List ℕ) : Type 0 where
  pub front : List ℕ
  pub whole : bytes ≡ front ++ rest
  pub means : Means front value
  pub stops : NoPiece rest
