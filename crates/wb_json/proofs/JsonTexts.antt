-- What the bytes spell, from what the reader says of bytes that are UTF-8.
use Rattle.std.proofs.Common.{◌≡◌, ℕ, List, Bool, true, false, Option, None, cond, refl}
use Rattle.std.specs.Str.{IsUtf8, is_utf8}
use Rattle.std.proofs.lemmas.Str.{IsUtf8-from_is_utf8, is_utf8-from_IsUtf8}
use Rattle.serde_json.specs.Data.{Data}
use Rattle.serde_json.specs.Read.{read}
use Rattle.wb_json.specs.Json.{json_of}

pub json_of_text : (bytes : List ℕ) (o : Option Data) → IsUtf8 bytes → read bytes ≡ o → json_of bytes ≡ o
unfolding json_of
json_of_text bytes o text is = rw (is_utf8-from_IsUtf8 bytes text) is

none_unless : (b : Bool) (o : Option Data) → (b ≡ true → o ≡ None) → cond b o None ≡ None
none_unless true o none = none refl
none_unless false o none = refl

pub json_of-none : (bytes : List ℕ) → (IsUtf8 bytes → read bytes ≡ None) → json_of bytes ≡ None
unfolding json_of
json_of-none bytes none = none_unless (is_utf8 bytes) (read bytes) (λ is. none (IsUtf8-from_is_utf8 bytes is))
