-- The text form of a value.
use Rattle.std.specs.Prelude.{◌≡◌, ◌≤◌, ◌<◌, ℕ, Bool, true, false, nat_le, List, [], ◌∷◌, ◌++◌, length, slice_get, codes, Option, None, Some, unwrap_or, Result, Ok, Err, if◌then◌else◌}
use Rattle.std.specs.List.{flat_map}
use Rattle.std.specs.Fmt.{decimal, signed_decimal}
use Rattle.wb_metamodel.specs.Metamodel.{Metamodel, literals_of}
use Rattle.wb_store.specs.declared.scalars.Scalar.{Scalar}
use Rattle.wb_store.specs.declared.scalars.Scalar.TheVariants.{Int, Bool as Boolean, Text, Literal, Object}
use Rattle.wb_aql_values.specs.declared.faults.Fault.{Fault}
use Rattle.wb_aql_values.specs.declared.faults.Fault.TheVariants.{TextTooLong}
use Rattle.wb_aql_values.specs.declared.values.Value.{Value}
use Rattle.wb_aql_values.specs.Values.{members}

-- an integer is decimal, a literal is its name, and an object is `#` and its number
abbrev pub scalar_form : Metamodel → Scalar → List ℕ
scalar_form mm (Int n) = signed_decimal n
scalar_form mm (Boolean b) = if b then codes "true" else codes "false"
scalar_form mm (Text bytes) = bytes
scalar_form mm (Literal e l) = unwrap_or (slice_get (literals_of mm e) l) []
scalar_form mm (Object o) = 35 ∷ decimal o

-- the form of a member after the first, with the comma and the space before it
abbrev pub next_form : Metamodel → Scalar → List ℕ
next_form mm x = codes ", " ++ scalar_form mm x

-- the forms of members, with a comma and a space between them
abbrev pub joined : Metamodel → List Scalar → List ℕ
joined mm [] = []
joined mm (x ∷ xs) = scalar_form mm x ++ flat_map (next_form mm) xs

-- the form at its full length; null has no members, so the empty text
abbrev pub full_form : Metamodel → Value → List ℕ
full_form mm value = joined mm (members value)

-- a text of a value has at most 65,536 bytes
abbrev pub bounded_text : List ℕ → Option (List ℕ)
bounded_text bytes = if nat_le (length bytes) 65536 then Some bytes else None

-- the form, none where it is longer than a text of a value may be
unfoldable pub text_form : Metamodel → Value → Option (List ℕ)
text_form mm value = bounded_text (full_form mm value)

-- the text forms of two values, one after the other
unfoldable pub joined_forms : Metamodel → Value → Value → Option (List ℕ)
joined_forms mm a b = bounded_text (full_form mm a ++ full_form mm b)

-- a text that was made, or the fault where it is too long
abbrev pub made : Option (List ℕ) → Result (List ℕ) Fault
made None = Err TextTooLong
made (Some bytes) = Ok bytes

-- a text that is being written became this one where it fits, and else this one is too long
abbrev pub Extends : Bool → List ℕ → List ℕ → Type 0
Extends true whole written = (written ≡ whole) × (length whole ≤ 65536)
Extends false whole written = 65536 < length whole
