-- Names: what a text must be to be one, and when two are the same.
use Rattle.std.specs.Prelude.{ℕ, ◌&&◌, ◌||◌, ◌==◌, nat_eq, nat_le, List, [], ◌∷◌, length, Bool, false}
use Rattle.std.specs.Char.{is_ascii_alphabetic, is_ascii_alphanumeric}
use Rattle.std.specs.List.{list_all}
use Rattle.std.specs.Str.{byte}
use Rattle.std.specs.Cmp.Lexicographic.{pointwise}

-- are the names the same, byte for byte?
abbrev pub same_name : List ℕ → List ℕ → Bool
same_name = pointwise nat_eq

-- an ASCII letter, or `_`
abbrev pub is_name_start : ℕ → Bool
is_name_start c = is_ascii_alphabetic c || (c == byte "_")

-- that, or an ASCII digit
abbrev pub is_name_byte : ℕ → Bool
is_name_byte c = is_ascii_alphanumeric c || (c == byte "_")

abbrev pub starts_name : List ℕ → Bool
starts_name [] = false
starts_name (c ∷ cs) = is_name_start c

-- a name: a letter or `_`, then letters, digits and `_`, at most 64 bytes
unfoldable pub is_name : List ℕ → Bool
is_name text = nat_le (length text) 64 && starts_name text && list_all is_name_byte text
