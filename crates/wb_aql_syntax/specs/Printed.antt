-- The canonical spelling of a tree in bytes.
use Rattle.std.specs.Prelude.{◌≡◌, ℕ, ◌==◌, Bool, List, [], ◌∷◌, ◌++◌, Option, Some, None, codes, find, String, string_bytes}
use Rattle.std.specs.declared.alloc.Global.{Global}
use Rattle.std.specs.Fmt.{decimal}
use Rattle.std.specs.List.{flat_map, list_all}
use Rattle.std.specs.Str.{byte}
use Rattle.wb_aql_grammar.specs.Tree.{Tree}
use Rattle.wb_aql_tokens.specs.Lexes.{word_of, escapes, is_within}
use Rattle.wb_aql_syntax.specs.Canonical.{Piece, blank, token, pieces, canon}
use Rattle.wb_aql_tokens.specs.declared.token.Token.{Token}
use Rattle.wb_aql_tokens.specs.declared.token.Token.TheVariants.{Sign, Name, Integer, Quoted, Bad}

-- a byte of a text: behind a `\` by its code where there is an escape for it, else itself
abbrev pub escaped_by : Option (ℕ × ℕ) → ℕ → List ℕ
escaped_by None c = c ∷ []
escaped_by (Some escape) c = byte "\\" ∷ escape.0 ∷ []

unfoldable pub escaped : ℕ → List ℕ
escaped c = escaped_by (find (λ (escape : ℕ × ℕ). escape.1 == c) escapes) c

-- the bytes of a token
abbrev pub bytes_of : Token → List ℕ
bytes_of (Sign a) = word_of a
bytes_of (Name v) = v
bytes_of (Integer n) = decimal n
bytes_of (Quoted v) = codes "'" ++ (flat_map escaped v ++ codes "'")
bytes_of Bad = []

abbrev pub piece_bytes : Piece → List ℕ
piece_bytes blank = codes " "
piece_bytes (token a) = bytes_of a

unfoldable pub bytes_in : List Piece → List ℕ
bytes_in pieces = flat_map piece_bytes pieces

-- the canonical spelling
abbrev pub printed : Tree → List ℕ
printed x = bytes_in (pieces x)

-- the text has these pieces more
abbrev pub Wrote : String Global → List Piece → String Global → Type 0
Wrote old pieces new = string_bytes new ≡ string_bytes old ++ bytes_in pieces

-- Can the tree be written? Its names are names, its integers and texts not too large.
abbrev pub is_writable : Tree → Bool
is_writable x = list_all is_within (canon x)
