-- What may stand right behind a token.
use Rattle.std.specs.Prelude.{ℕ, not, ◌==◌, ◌||◌, Bool, true, false, List, [], ◌∷◌}
use Rattle.std.specs.Char.{is_ascii_digit}
use Rattle.std.specs.Str.{byte}
use Rattle.wb_base.specs.Names.{is_name_byte}
use Rattle.wb_aql_tokens.specs.declared.token.Token.{Token}
use Rattle.wb_aql_tokens.specs.declared.token.Token.TheVariants.{Sign, Name, Integer, Quoted, Bad}
use Rattle.wb_aql_tokens.specs.declared.token.Sign.{Sign as SignName}
use Rattle.wb_aql_tokens.specs.declared.token.Sign.TheVariants as s

-- would the byte make a longer token of the sign or the reserved word before it?
abbrev pub lengthens_sign : SignName → ℕ → Bool
lengthens_sign s.Less c = (c == byte "=") || (c == byte ">")
lengthens_sign s.Greater c = c == byte "="
lengthens_sign s.Minus c = c == byte ">"
lengthens_sign s.Equal c = false
lengthens_sign s.NotEqual c = false
lengthens_sign s.LessEqual c = false
lengthens_sign s.GreaterEqual c = false
lengthens_sign s.Plus c = false
lengthens_sign s.Times c = false
lengthens_sign s.Dot c = false
lengthens_sign s.Arrow c = false
lengthens_sign s.Colons c = false
lengthens_sign s.Comma c = false
lengthens_sign s.Bar c = false
lengthens_sign s.Open c = false
lengthens_sign s.Close c = false
lengthens_sign s.OpenBrace c = false
lengthens_sign s.CloseBrace c = false
lengthens_sign s.If c = is_name_byte c
lengthens_sign s.Then c = is_name_byte c
lengthens_sign s.Else c = is_name_byte c
lengthens_sign s.Endif c = is_name_byte c
lengthens_sign s.Let c = is_name_byte c
lengthens_sign s.In c = is_name_byte c
lengthens_sign s.And c = is_name_byte c
lengthens_sign s.Or c = is_name_byte c
lengthens_sign s.Xor c = is_name_byte c
lengthens_sign s.Implies c = is_name_byte c
lengthens_sign s.Not c = is_name_byte c
lengthens_sign s.Div c = is_name_byte c
lengthens_sign s.Null c = is_name_byte c
lengthens_sign s.True c = is_name_byte c
lengthens_sign s.False c = is_name_byte c
lengthens_sign s.Sequence c = is_name_byte c
lengthens_sign s.OrderedSet c = is_name_byte c

-- would the byte make a longer token of the one before it?
abbrev pub lengthens : Token → ℕ → Bool
lengthens (Sign sign) c = lengthens_sign sign c
lengthens (Name name) c = is_name_byte c
lengthens (Integer n) c = is_ascii_digit c
lengthens (Quoted value) c = false
lengthens Bad c = false

-- may these bytes follow the token?
abbrev pub ends_before : Token → List ℕ → Bool
ends_before token [] = true
ends_before token (c ∷ rest) = not (lengthens token c)
