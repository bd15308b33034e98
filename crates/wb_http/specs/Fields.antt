-- What the fields of a head say: each is a name and a value without the spaces and tabs around it.
use Rattle.std.specs.Prelude.{◌≡◌, ℕ, ◌==◌, ◌&&◌, ◌≤◌, Bool, List, [], ◌∷◌, length, map, nat_lt, nat_le, nat_eq, codes, Option, None, Some, if◌then◌else◌}
use Rattle.std.specs.Char.{is_ascii_digit, to_ascii_lowercase}
use Rattle.std.specs.List.{list_all, list_any, slice_split}
use Rattle.std.specs.Str.Parse.{digits_value}
use Rattle.std.specs.Cmp.Lexicographic.{pointwise}
use Rattle.httparse.specs.Grammar.{trim_ows}
use Rattle.httparse.specs.Spans.{span_bytes, header_bytes, IsWithin}
use Rattle.httparse.specs.declared.spans.Span.{Span}
use Rattle.httparse.specs.declared.spans.HeaderSpan.{HeaderSpan}
use Rattle.wb_http.specs.declared.fields.Named.{Named}
use Rattle.wb_http.specs.declared.fields.Named.TheVariants.{Never, Once, Often}

-- the same without regard to ASCII case
abbrev pub same_letters : List ℕ → List ℕ → Bool
same_letters a b = pointwise nat_eq (map to_ascii_lowercase a) (map to_ascii_lowercase b)

-- the values of the fields of a name, in order
abbrev pub values : List ℕ → List (List ℕ × List ℕ) → List (List ℕ)
values name [] = []
values name (field ∷ fields) = if same_letters field.0 name then field.1 ∷ values name fields else values name fields

-- the number that a value of 1 to 10 digits writes
abbrev pub length_of : List ℕ → Option ℕ
length_of value =
    if nat_lt 0 (length value) && (nat_le (length value) 10 && list_all is_ascii_digit value) then Some (digits_value 10 value) else None

abbrev pub is_comma : ℕ → Bool
is_comma b = b == 44

-- is this `close`, with spaces and tabs around it?
unfoldable pub is_close : List ℕ → Bool
is_close member = same_letters (trim_ows member) (codes "close")

-- is one of the members between the commas `close`?
abbrev pub says_close : List ℕ → Bool
says_close value = list_any is_close (slice_split is_comma value)

-- the fields that these spans of a head cover
abbrev pub fields_at : List ℕ → List HeaderSpan → List (List ℕ × List ℕ)
fields_at head spans = map (header_bytes head) spans

-- how often a name stands, and its value where it stands once
abbrev pub IsNamed : List ℕ → List (List ℕ) → Named → Type 0
IsNamed head found Never = found ≡ []
IsNamed head found (Once span) = (found ≡ span_bytes head span ∷ []) × IsWithin (length head) span
IsNamed head found Often = 2 ≤ length found

abbrev pub value_at : List ℕ → Option Span → List (List ℕ)
value_at head None = []
value_at head (Some span) = span_bytes head span ∷ []
